-- The laws of each way out.
use Rattle.std.proofs.Common.{rules}
use Rattle.store.specs.Finding.{directs}
use Rattle.store.proofs.find.Goals as goal

ruleset laws = (rules, directs)

pub returns-then-e-eq0 : goal.returns-then-e-eq0
returns-then-e-eq0 c = search laws

pub returns-then-w-eq1 : goal.returns-then-w-eq1
returns-then-w-eq1 c = search laws

pub returns-then-w-le2 : goal.returns-then-w-le2
returns-then-w-le2 c = search laws
