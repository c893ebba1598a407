-- The laws of each way out.
use Rattle.std.proofs.Common.{rules}
use Rattle.store.specs.Table.{reads}
use Rattle.store.proofs.requires_at.Goals as goal

ruleset laws = (rules, reads)

pub returns-then-t-eq0 : goal.returns-then-t-eq0
returns-then-t-eq0 c = search laws

pub returns-else-t-eq0 : goal.returns-else-t-eq0
returns-else-t-eq0 c = search laws
