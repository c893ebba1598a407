use Rattle.std.proofs.Common.{length}
use Rattle.plan.specs.Fields.{one_more, mates_from}
use Rattle.plan.specs.Laws.Texts.{Passing}
use Rattle.plan.proofs.last_of_many.Given as goal

abbrev pub invariant-loop-x : goal.invariant-loop-x
invariant-loop-x l = Passing l.p (one_more l.fn.x1) (one_more l.x) l.c (one_more l.l)

abbrev pub decreases-loop-x : goal.decreases-loop-x
decreases-loop-x l = length (mates_from l.p (one_more l.x))
