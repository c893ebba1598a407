use Rattle.cycles.specs.Laws.Walks.{Closing}
use Rattle.cycles.proofs.comes_back.Given as goal

abbrev pub invariant-loop-e : goal.invariant-loop-e
invariant-loop-e l = Closing l.g l.s l.ls l.w l.n l.e

abbrev pub decreases-loop-e : goal.decreases-loop-e
decreases-loop-e l = l.e
