-- The laws of the edges renumbered one after the other.
use Rattle.std.proofs.Common.{rules}
use Rattle.store.specs.Settling.{renumber_none, renumber_next}
use Rattle.store.proofs.renumber_all.Goals as goal

pub loop-i-init : goal.loop-i-init
loop-i-init c = search (rules, renumber_none)

pub loop-i-preserved : goal.loop-i-preserved
loop-i-preserved c = search (rules, renumber_next)
