use Rattle.std.proofs.Common.{rules}
use Rattle.wall.specs.Laws.CaptionSizes.{solvable_room, solvable_wrote}
use Rattle.wall.proofs.captions.put_solvable.Goals as goal

pub put_first-requires : goal.put_first-requires
put_first-requires c = search (rules, solvable_room, solvable_wrote)

pub returns : goal.returns
returns c = search (rules, solvable_room, solvable_wrote)
