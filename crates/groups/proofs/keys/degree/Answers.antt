use Rattle.std.proofs.Common.{rules, refl}
use Rattle.groups.specs.Keys.{way_start, way_next, way_less, counter_up, span_next, span_end, degree_few}
use Rattle.groups.proofs.keys.degree.Goals as goal

pub loop-e-init : goal.loop-e-init
loop-e-init c = (search way_start, (search rules, refl))

pub loop-e-smaller : goal.loop-e-smaller
loop-e-smaller c = search way_less

pub loop-e-preserved : goal.loop-e-preserved
loop-e-preserved c = (search way_next, (search counter_up, search span_next))

pub returns : goal.returns
returns c = (search span_end, search degree_few)
