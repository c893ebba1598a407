use Rattle.std.proofs.Common.{◌≡◌, ◌+◌, ◌≤◌}
use Rattle.groups.specs.Keys.{Way, tally}
use Rattle.groups.proofs.keys.count_of.Given as goal

abbrev pub invariant-loop-e : goal.invariant-loop-e
invariant-loop-e l = Way l.g l.ls l.d l.n l.e × ((l.c + l.e ≤ l.initial.e) × (tally l.g l.d l.n l.k l.e l.c ≡ tally l.g l.d l.n l.k l.initial.e 0))

abbrev pub decreases-loop-e : goal.decreases-loop-e
decreases-loop-e l = l.e
