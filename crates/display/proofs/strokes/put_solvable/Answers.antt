use Rattle.std.proofs.Common.{rules}
use Rattle.display.specs.StrokeSizes.{solvable_room, solvable_wrote}
use Rattle.display.proofs.strokes.put_solvable.Goals as goal

pub put_named-requires : goal.put_named-requires
put_named-requires c = search (rules, solvable_room, solvable_wrote)

pub returns : goal.returns
returns c = search (rules, solvable_room, solvable_wrote)
