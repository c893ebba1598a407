-- The laws of each way out.
use Rattle.std.proofs.Common.{rules}
use Rattle.store.specs.Settling.{touchings}
use Rattle.store.proofs.touches.Goals as goal

ruleset laws = (rules, touchings)

pub returns-then-w-last : goal.returns-then-w-last
returns-then-w-last c = search laws

pub returns-else-w-last : goal.returns-else-w-last
returns-else-w-last c = search laws
