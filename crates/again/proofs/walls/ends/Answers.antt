use Rattle.again.specs.Walls.{ends_in_lem}
use Rattle.again.proofs.walls.ends.Goals as goal

pub returns : goal.returns
returns c = search ends_in_lem
