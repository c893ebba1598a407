use Rattle.planning.specs.Sizes.{measured_none, measured_more, measured_end}
use Rattle.planning.proofs.measure.Goals as goal

pub loop-n-init : goal.loop-n-init
loop-n-init c = measured_none _ _ _ c.requires.count_bound.1

pub loop-n-preserved : goal.loop-n-preserved
loop-n-preserved c = measured_more _ _ _ _ _ _ c.loop-n.invariant c.loop-n-test.true c.requires.count_bound.0 c.size_of-v.ensures

pub returns : goal.returns
returns c = measured_end _ _ _ _ _ c.loop-n.invariant c.loop-n-test.false
