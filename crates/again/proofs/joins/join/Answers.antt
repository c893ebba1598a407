use Rattle.again.specs.Joins.{joined_in_lem}
use Rattle.again.proofs.joins.join.Goals as goal

pub returns : goal.returns
returns c = search joined_in_lem
