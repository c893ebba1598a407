-- The laws of the lowest node that is not reached.
use Rattle.std.proofs.Common.{rules}
use Rattle.links.specs.Queue.{root_there, lowest_unreached}
use Rattle.links.specs.Sweep.{swept_lowest}
use Rattle.links.proofs.reach.lowest_unreached.Goals as goal

ruleset laws = (rules, root_there, lowest_unreached, swept_lowest)

pub returns-then-swept : goal.returns-then-swept
returns-then-swept c = search laws

pub returns : goal.returns
returns c = search laws
