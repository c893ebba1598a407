use Rattle.links.specs.Queue.{Spreading}
use Rattle.links.proofs.reach.visit.Given as goal

abbrev pub invariant-loop-e : goal.invariant-loop-e
invariant-loop-e l = Spreading l.g l.s l.a l.ls l.w l.h l.k l.n l.e

abbrev pub decreases-loop-e : goal.decreases-loop-e
decreases-loop-e l = l.e
