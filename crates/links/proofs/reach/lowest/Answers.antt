-- The laws of the lowest node without a mark.
use Rattle.std.proofs.Common.{rules}
use Rattle.links.specs.Queue.{lowests}
use Rattle.links.proofs.reach.lowest.Goals as goal

ruleset laws = (rules, lowests)

pub loop-i-init : goal.loop-i-init
loop-i-init c = search laws

pub returns-then-w-i-eq0 : goal.returns-then-w-i-eq0
returns-then-w-i-eq0 c = search laws

pub loop-i-preserved : goal.loop-i-preserved
loop-i-preserved c = search laws

pub returns : goal.returns
returns c = search laws
