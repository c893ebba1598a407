use Rattle.std.proofs.Common.{rules}
use Rattle.wall.specs.Laws.CaptionSizes.{excluded_room, excluded_wrote}
use Rattle.wall.proofs.captions.put_excluded.Goals as goal

pub put_reason-requires : goal.put_reason-requires
put_reason-requires c = search (rules, excluded_room, excluded_wrote)

pub returns : goal.returns
returns c = search (rules, excluded_room, excluded_wrote)
