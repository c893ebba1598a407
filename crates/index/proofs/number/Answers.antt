use Rattle.std.proofs.Common.{rules}
use Rattle.index.specs.Filling.{numbers_start, numbers_next, numbers_end}
use Rattle.index.proofs.number.Goals as goal

pub loop-i-init : goal.loop-i-init
loop-i-init c = record { candidates = search rules; clauses = search rules; left = search (rules, numbers_start) }

pub loop-i-preserved : goal.loop-i-preserved
loop-i-preserved c = record { candidates = search rules; clauses = search rules; left = search (rules, numbers_next) }

pub returns : goal.returns
returns c = search (rules, numbers_end)
