use Rattle.cycles.specs.Laws.Walks.{close_start, close_less, close_hit, close_next, close_end}
use Rattle.cycles.proofs.comes_back.Goals as goal

pub loop-e-init : goal.loop-e-init
loop-e-init c = search close_start

pub returns-then-lit : goal.returns-then-lit
returns-then-lit c = search close_hit

pub loop-e-smaller : goal.loop-e-smaller
loop-e-smaller c = search close_less

pub loop-e-preserved : goal.loop-e-preserved
loop-e-preserved c = search close_next

pub returns : goal.returns
returns c = search close_end
