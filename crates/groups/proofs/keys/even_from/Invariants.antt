use Rattle.std.proofs.Common.{◌≡◌}
use Rattle.groups.specs.Keys.{Way, even_left}
use Rattle.groups.proofs.keys.even_from.Given as goal

abbrev pub invariant-loop-e : goal.invariant-loop-e
invariant-loop-e l = Way l.g l.ls l.d l.m l.e × (even_left l.g l.s l.d l.m l.n l.e ≡ even_left l.g l.s l.d l.m l.n l.initial.e)

abbrev pub decreases-loop-e : goal.decreases-loop-e
decreases-loop-e l = l.e
