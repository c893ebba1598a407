use Rattle.std.proofs.Common.{refl}
use Rattle.labels.specs.Passes.{going_start, going_less}
use Rattle.whatif.specs.Laws.Again.{up_end}
use Rattle.whatif.proofs.relabel.leads_up.Goals as goal

pub loop-e-init : goal.loop-e-init
loop-e-init c = (search going_start, refl)

pub loop-e-smaller : goal.loop-e-smaller
loop-e-smaller c = search going_less

pub returns : goal.returns
returns c = search up_end
