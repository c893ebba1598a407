-- The laws of one pass over the edges.
use Rattle.std.proofs.Common.{rules}
use Rattle.links.specs.Sweep.{sweeps}
use Rattle.links.proofs.reach.sweep.Goals as goal

ruleset laws = (rules, sweeps)

pub loop-i-init : goal.loop-i-init
loop-i-init c = search laws

pub loop-i-preserved : goal.loop-i-preserved
loop-i-preserved c = search laws
