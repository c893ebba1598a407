-- The laws of the walk over the nodes.
use Rattle.std.proofs.Common.{rules}
use Rattle.store.specs.Finding.{finds}
use Rattle.store.proofs.find_node.Goals as goal

ruleset laws = (rules, finds)

pub loop-i-init : goal.loop-i-init
loop-i-init c = search laws

pub returns-then-g-i : goal.returns-then-g-i
returns-then-g-i c = search laws

pub loop-i-preserved : goal.loop-i-preserved
loop-i-preserved c = search laws

pub returns : goal.returns
returns c = search laws
