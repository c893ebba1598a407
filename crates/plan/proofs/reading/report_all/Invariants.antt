use Rattle.plan.specs.Laws.Marking.{Marking}
use Rattle.plan.proofs.reading.report_all.Given as goal

abbrev pub invariant-loop-n : goal.invariant-loop-n
invariant-loop-n l = Marking l.initial.p l.p l.n
