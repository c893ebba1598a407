use Rattle.std.proofs.Common.{None}
use Rattle.cycles.specs.Laws.Walks.{quick_lowest}
use Rattle.cycles.specs.Laws.Found.{lowest_found}
use Rattle.cycles.proofs.lowest_on_cycle.Goals as goal

pub returns-then-falls : goal.returns-then-falls
returns-then-falls c =
    let l = quick_lowest _ _ _ _ c.falls.ensures c.if-falls.true c.requires.stored in lowest_found _ _ None l c.requires.stored

pub returns : goal.returns
returns c = search lowest_found
