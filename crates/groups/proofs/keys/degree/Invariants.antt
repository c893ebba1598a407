use Rattle.std.proofs.Common.{◌≡◌, ◌+◌, ◌≤◌}
use Rattle.groups.specs.Keys.{Way, span}
use Rattle.groups.proofs.keys.degree.Given as goal

abbrev pub invariant-loop-e : goal.invariant-loop-e
invariant-loop-e l = Way l.g l.ls l.d l.n l.e × ((l.c + l.e ≤ l.initial.e) × (span l.g l.d l.n l.e l.c ≡ span l.g l.d l.n l.initial.e 0))

abbrev pub decreases-loop-e : goal.decreases-loop-e
decreases-loop-e l = l.e
