-- The laws of a test that passes at every index below the last.
use Rattle.std.proofs.Common.{rules}
use Rattle.basis.specs.Below.{below_none}
use Rattle.links.specs.Sweep.{mark_next, mark_stop}
use Rattle.links.proofs.reach.marked.Goals as goal

ruleset laws = (rules, below_none, mark_next, mark_stop)

pub loop-i-init : goal.loop-i-init
loop-i-init c = search laws

pub returns-then-w-i-eq0 : goal.returns-then-w-i-eq0
returns-then-w-i-eq0 c = search laws

pub loop-i-preserved : goal.loop-i-preserved
loop-i-preserved c = search laws
