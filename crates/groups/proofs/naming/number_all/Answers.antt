use Rattle.groups.specs.Firsts.{firsts_none, firsts_next}
use Rattle.groups.specs.Noted.{ids_end}
use Rattle.groups.proofs.naming.number_all.Goals as goal

pub loop-n-init : goal.loop-n-init
loop-n-init c = search firsts_none

pub loop-n-preserved : goal.loop-n-preserved
loop-n-preserved c = search firsts_next

pub returns : goal.returns
returns c = search ids_end
