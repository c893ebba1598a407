use Rattle.groups.specs.Laws.Prints.{sum_none, sum_next, sum_all}
use Rattle.groups.proofs.prints.print_all.Goals as goal

pub loop-e-init : goal.loop-e-init
loop-e-init c = search sum_none

pub loop-e-preserved : goal.loop-e-preserved
loop-e-preserved c = search sum_next

pub returns : goal.returns
returns c = search sum_all
