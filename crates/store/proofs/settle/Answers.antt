-- The laws of each way out.
use Rattle.std.proofs.Common.{rules}
use Rattle.store.specs.Settling.{settles}
use Rattle.store.proofs.settle.Goals as goal

ruleset laws = (rules, settles)

pub returns-then-not-spared : goal.returns-then-not-spared
returns-then-not-spared c = search laws

pub returns : goal.returns
returns c = search laws
