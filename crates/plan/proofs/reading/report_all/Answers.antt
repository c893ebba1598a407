use Rattle.std.specs.Prelude.{refl}
use Rattle.plan.specs.Laws.Marking.{marking_none, marking_step}
use Rattle.plan.proofs.reading.report_all.Goals as goal

pub loop-n-init : goal.loop-n-init
loop-n-init c = marking_none _

pub loop-n-preserved : goal.loop-n-preserved
loop-n-preserved c = marking_step _ _ _ _ _ _ c.loop-n.invariant c.loop-n-test.true refl c.mark.ensures refl
