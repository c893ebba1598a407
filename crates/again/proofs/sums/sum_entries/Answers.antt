use Rattle.std.proofs.Common.{rules}
use Rattle.again.specs.Sum.{entries_none, entries_next}
use Rattle.again.proofs.sums.sum_entries.Goals as goal

pub loop-i-init : goal.loop-i-init
loop-i-init c = (search entries_none, search rules)

pub loop-i-preserved : goal.loop-i-preserved
loop-i-preserved c = (search (rules, entries_next), search rules)
