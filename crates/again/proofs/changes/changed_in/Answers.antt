use Rattle.std.proofs.Common.{rules}
use Rattle.again.specs.Changes.{changes_short, changes_long}
use Rattle.again.proofs.changes.changed_in.Goals as goal

pub returns-then-n-file : goal.returns-then-n-file
returns-then-n-file c = search (rules, changes_short)

pub returns : goal.returns
returns c = search (rules, changes_long)
