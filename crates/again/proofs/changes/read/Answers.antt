use Rattle.again.specs.Changes.{held_in_lem}
use Rattle.again.proofs.changes.read.Goals as goal

pub returns : goal.returns
returns c = search held_in_lem
