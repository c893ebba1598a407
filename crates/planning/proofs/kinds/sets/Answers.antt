use Rattle.planning.specs.Along.{way_less}
use Rattle.planning.specs.Sets.{setting_start, setting_ready, setting_step, setting_end}
use Rattle.planning.proofs.kinds.sets.Goals as goal

pub loop-e-init : goal.loop-e-init
loop-e-init c = search setting_start

pub set_edge-c-requires : goal.set_edge-c-requires
set_edge-c-requires c = search setting_ready

pub loop-e-smaller : goal.loop-e-smaller
loop-e-smaller c = search way_less

pub loop-e-preserved : goal.loop-e-preserved
loop-e-preserved c = search setting_step

pub returns : goal.returns
returns c = search setting_end
