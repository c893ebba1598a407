-- The laws of partners that are passed over.
use Rattle.std.proofs.Common.{rules}
use Rattle.views.specs.Walks.{aux_less}
use Rattle.expansion.specs.Skipping.{skips}
use Rattle.expansion.proofs.first_new.Goals as goal

ruleset laws = (rules, aux_less, skips)

pub loop-y-smaller : goal.loop-y-smaller
loop-y-smaller c = search laws

pub loop-y-preserved : goal.loop-y-preserved
loop-y-preserved c = search laws
