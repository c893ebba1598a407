use Rattle.std.proofs.Common.{refl}
use Rattle.labels.specs.Passes.{coming_start, coming_next, coming_less, ex_next, ex_hit, ex_end}
use Rattle.labels.proofs.passes.excluded_into.Goals as goal

pub loop-e-init : goal.loop-e-init
loop-e-init c = (search coming_start, refl)

pub returns-then-excluded_at : goal.returns-then-excluded_at
returns-then-excluded_at c = search ex_hit

pub loop-e-smaller : goal.loop-e-smaller
loop-e-smaller c = search coming_less

pub loop-e-preserved : goal.loop-e-preserved
loop-e-preserved c = (search coming_next, search ex_next)

pub returns : goal.returns
returns c = search ex_end
