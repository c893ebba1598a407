use Rattle.std.proofs.Common.{◌≡◌}
use Rattle.labels.specs.Passes.{Coming, ex_left}
use Rattle.labels.proofs.passes.excluded_into.Given as goal

abbrev pub invariant-loop-e : goal.invariant-loop-e
invariant-loop-e l = Coming l.g l.ls l.n l.e × (ex_left l.g l.n l.e ≡ ex_left l.g l.n l.initial.e)

abbrev pub decreases-loop-e : goal.decreases-loop-e
decreases-loop-e l = l.e
