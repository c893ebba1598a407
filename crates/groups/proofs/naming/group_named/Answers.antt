use Rattle.groups.specs.Named.{group_via}
use Rattle.groups.proofs.naming.group_named.Goals as goal

pub returns : goal.returns
returns c = search group_via
