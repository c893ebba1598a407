use Rattle.std.proofs.Common.{rules}
use Rattle.display.specs.StrokeSizes.{excluded_room, excluded_wrote}
use Rattle.display.proofs.strokes.put_excluded.Goals as goal

pub put_reason-requires : goal.put_reason-requires
put_reason-requires c = search (rules, excluded_room, excluded_wrote)

pub returns : goal.returns
returns c = search (rules, excluded_room, excluded_wrote)
