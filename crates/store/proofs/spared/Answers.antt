-- The laws of a test that passes at every index below the last.
use Rattle.std.proofs.Common.{rules}
use Rattle.basis.specs.Below.{below_none}
use Rattle.store.specs.Settling.{spare_next, spare_stop}
use Rattle.store.proofs.spared.Goals as goal

pub loop-i-init : goal.loop-i-init
loop-i-init c = search (rules, below_none)

pub returns-then-g-i-eq1 : goal.returns-then-g-i-eq1
returns-then-g-i-eq1 c = search (rules, spare_stop)

pub loop-i-preserved : goal.loop-i-preserved
loop-i-preserved c = search (rules, spare_next)
