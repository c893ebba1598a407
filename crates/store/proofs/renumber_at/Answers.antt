-- The laws of each way out.
use Rattle.std.proofs.Common.{rules}
use Rattle.store.specs.Settling.{renumber_kept, renumber_stored}
use Rattle.store.proofs.renumber_at.Goals as goal

ruleset laws = (rules, renumber_kept, renumber_stored)

pub returns-then-touches : goal.returns-then-touches
returns-then-touches c = search laws

pub returns-else-touches : goal.returns-else-touches
returns-else-touches c = search laws
