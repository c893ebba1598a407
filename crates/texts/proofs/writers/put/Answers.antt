use Rattle.std.proofs.Common.{rules}
use Rattle.texts.proofs.Copy.{copies}
use Rattle.texts.proofs.writers.put.Goals as goal

pub loop-i-init : goal.loop-i-init
loop-i-init c = record { as_long = search rules; copied = search (rules, copies) }

pub loop-i-preserved : goal.loop-i-preserved
loop-i-preserved c = record { as_long = search rules; copied = search (rules, copies) }

pub returns-clause-wrote : goal.returns-clause-wrote
returns-clause-wrote c = search (rules, copies)
