use Rattle.std.proofs.Common.{rules}
use Rattle.season.specs.Laws.Words.{added_none, added_next, added_fits, added_end}
use Rattle.season.proofs.add_counts.Goals as goal

pub loop-i-init : goal.loop-i-init
loop-i-init c = search (rules, added_none)

pub overflow_add-a : goal.overflow_add-a
overflow_add-a c = search (rules, added_fits)

pub loop-i-preserved : goal.loop-i-preserved
loop-i-preserved c = search (rules, added_next)

pub returns : goal.returns
returns c = search (rules, added_end)
