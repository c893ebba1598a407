use Rattle.planning.specs.Along.{way_less, kidding_start, kidding_none, kidding_stop, kidding_ready, kidding_step}
use Rattle.planning.proofs.along.kids.Goals as goal

pub loop-e-init : goal.loop-e-init
loop-e-init c = search kidding_start

pub returns-then-b : goal.returns-then-b
returns-then-b c = search kidding_stop

pub kid_edge-c-requires : goal.kid_edge-c-requires
kid_edge-c-requires c = search kidding_ready

pub loop-e-smaller : goal.loop-e-smaller
loop-e-smaller c = search way_less

pub loop-e-preserved : goal.loop-e-preserved
loop-e-preserved c = search kidding_step

pub returns : goal.returns
returns c = search kidding_none
