-- The laws of the places set to 0.
use Rattle.std.proofs.Common.{rules}
use Rattle.links.specs.Build.{wiped_none, wiped_next}
use Rattle.links.proofs.clear.Goals as goal

ruleset laws = (rules, wiped_none, wiped_next)

pub loop-k-init : goal.loop-k-init
loop-k-init c = search laws

pub loop-k-preserved : goal.loop-k-preserved
loop-k-preserved c = search laws
