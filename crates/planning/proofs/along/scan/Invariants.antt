use Rattle.planning.specs.Along.{Scanning}
use Rattle.planning.proofs.along.scan.Given as goal

abbrev pub invariant-loop-e : goal.invariant-loop-e
invariant-loop-e l = Scanning l.g l.ls l.marks l.n l.x l.initial.e l.initial.o l.e l.o

abbrev pub decreases-loop-e : goal.decreases-loop-e
decreases-loop-e l = l.e
