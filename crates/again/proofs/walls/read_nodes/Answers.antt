use Rattle.again.specs.Walls.{spots_blank}
use Rattle.again.proofs.walls.read_nodes.Goals as goal

pub returns : goal.returns
returns c = search spots_blank
