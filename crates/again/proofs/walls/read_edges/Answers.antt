use Rattle.again.specs.Walls.{ends_blank}
use Rattle.again.proofs.walls.read_edges.Goals as goal

pub returns : goal.returns
returns c = search ends_blank
