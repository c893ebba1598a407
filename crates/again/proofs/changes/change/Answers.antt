use Rattle.again.specs.Changes.{changed_in_lem}
use Rattle.again.proofs.changes.change.Goals as goal

pub returns : goal.returns
returns c = search changed_in_lem
