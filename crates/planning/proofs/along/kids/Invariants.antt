use Rattle.planning.specs.Along.{Kidding}
use Rattle.planning.proofs.along.kids.Given as goal

abbrev pub invariant-loop-e : goal.invariant-loop-e
invariant-loop-e l = Kidding l.g l.ls l.marks l.gr l.n l.x l.want l.e1 l.initial.k l.end l.e l.k l.c

abbrev pub decreases-loop-e : goal.decreases-loop-e
decreases-loop-e l = l.e
