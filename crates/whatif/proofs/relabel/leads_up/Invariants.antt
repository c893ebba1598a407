use Rattle.std.proofs.Common.{◌≡◌}
use Rattle.labels.specs.Passes.{Going}
use Rattle.whatif.specs.Laws.Again.{up_left}
use Rattle.whatif.proofs.relabel.leads_up.Given as goal

abbrev pub invariant-loop-e : goal.invariant-loop-e
invariant-loop-e l = Going l.g l.ls l.n l.e × (up_left l.g l.up l.n l.e ≡ up_left l.g l.up l.n l.initial.e)

abbrev pub decreases-loop-e : goal.decreases-loop-e
decreases-loop-e l = l.e
