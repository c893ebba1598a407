-- The laws of each way out.
use Rattle.std.proofs.Common.{rules}
use Rattle.store.specs.Table.{reads}
use Rattle.store.proofs.node_at.Goals as goal

ruleset laws = (rules, reads)

pub returns-then-n-lt128 : goal.returns-then-n-lt128
returns-then-n-lt128 c = search laws

pub returns : goal.returns
returns c = search laws
