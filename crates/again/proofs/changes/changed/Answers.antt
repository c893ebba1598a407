use Rattle.again.specs.Changes.{changed_blank}
use Rattle.again.proofs.changes.changed.Goals as goal

pub returns : goal.returns
returns c = search changed_blank
