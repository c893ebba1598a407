-- The laws of each way out.
use Rattle.std.proofs.Common.{rules}
use Rattle.store.specs.Finding.{settled_directs}
use Rattle.store.proofs.behind.find_settled.Goals as goal

ruleset laws = (rules, settled_directs)

pub returns-then-e-eq0 : goal.returns-then-e-eq0
returns-then-e-eq0 c = search laws

pub returns-then-w-eq1 : goal.returns-then-w-eq1
returns-then-w-eq1 c = search laws
