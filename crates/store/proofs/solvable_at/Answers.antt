-- The laws of each way out.
use Rattle.std.proofs.Common.{rules}
use Rattle.store.specs.Table.{kind_reads}
use Rattle.store.proofs.solvable_at.Goals as goal

ruleset laws = (rules, kind_reads)

pub returns-then-n-lt128 : goal.returns-then-n-lt128
returns-then-n-lt128 c = search laws

pub returns : goal.returns
returns c = search laws
