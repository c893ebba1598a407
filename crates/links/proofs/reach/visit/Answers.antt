use Rattle.std.proofs.Common.{rules}
use Rattle.links.specs.Queue.{spread_start, spread_next, spread_end, spread_less}
use Rattle.links.proofs.reach.visit.Goals as goal

pub loop-e-init : goal.loop-e-init
loop-e-init c = search (rules, spread_start)

pub loop-e-smaller : goal.loop-e-smaller
loop-e-smaller c = search (rules, spread_less)

pub loop-e-preserved : goal.loop-e-preserved
loop-e-preserved c = search (rules, spread_next)

pub returns : goal.returns
returns c = search (rules, spread_end)
