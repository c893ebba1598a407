use Rattle.std.proofs.Common.{rules}
use Rattle.links.specs.Build.{source_small, target_small}
use Rattle.cycles.specs.Laws.Walks.{fallen_next}
use Rattle.cycles.proofs.falls.Goals as goal

pub bounds-pos-source_at : goal.bounds-pos-source_at
bounds-pos-source_at c = search (rules, source_small)

pub bounds-pos-target_at : goal.bounds-pos-target_at
bounds-pos-target_at c = search (rules, target_small)

pub loop-i-preserved : goal.loop-i-preserved
loop-i-preserved c = search (rules, fallen_next)
