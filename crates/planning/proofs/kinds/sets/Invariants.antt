use Rattle.planning.specs.Sets.{Setting}
use Rattle.planning.proofs.kinds.sets.Given as goal

abbrev pub invariant-loop-e : goal.invariant-loop-e
invariant-loop-e l = Setting l.g l.ls l.n l.e1 l.initial.k l.end l.e l.k l.c

abbrev pub decreases-loop-e : goal.decreases-loop-e
decreases-loop-e l = l.e
