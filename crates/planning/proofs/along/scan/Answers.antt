use Rattle.std.proofs.Common.{rules}
use Rattle.planning.specs.Along.{way_less, scan_start_lem, scan_none, scan_stop, scan_step}
use Rattle.planning.proofs.along.scan.Goals as goal

pub loop-e-init : goal.loop-e-init
loop-e-init c = search (rules, scan_start_lem)

pub returns-then-b : goal.returns-then-b
returns-then-b c = search scan_stop

pub loop-e-smaller : goal.loop-e-smaller
loop-e-smaller c = search way_less

pub loop-e-preserved : goal.loop-e-preserved
loop-e-preserved c = search scan_step

pub returns : goal.returns
returns c = search scan_none
