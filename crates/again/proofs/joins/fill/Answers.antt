use Rattle.std.proofs.Common.{rules}
use Rattle.again.specs.Head.{one_filled_lem, fill_none, fill_next, fill_end}
use Rattle.again.proofs.joins.fill.Goals as goal

pub loop-i-init : goal.loop-i-init
loop-i-init c = search fill_none

pub loop-i-preserved : goal.loop-i-preserved
loop-i-preserved c = search (rules, fill_next, one_filled_lem)

pub returns : goal.returns
returns c = search (rules, fill_end)
