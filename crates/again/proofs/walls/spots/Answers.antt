use Rattle.again.specs.Walls.{spots_in_lem}
use Rattle.again.proofs.walls.spots.Goals as goal

pub returns : goal.returns
returns c = search spots_in_lem
