-- The laws of each way out.
use Rattle.std.proofs.Common.{rules}
use Rattle.store.specs.Laws.Direct.{enters}
use Rattle.store.proofs.enter.Goals as goal

ruleset laws = (rules, enters)

pub returns-then-w-ge2048 : goal.returns-then-w-ge2048
returns-then-w-ge2048 c = search laws

pub returns : goal.returns
returns c = search laws
