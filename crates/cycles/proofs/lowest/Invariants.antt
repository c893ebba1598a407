use Rattle.store.specs.Table.{graph_in}
use Rattle.labels.specs.Labels.{targets}
use Rattle.cycles.specs.Laws.Walks.{FreeTo}
use Rattle.cycles.proofs.lowest.Given as goal

abbrev pub invariant-loop-n : goal.invariant-loop-n
invariant-loop-n l = FreeTo (targets (graph_in l.g l.s)) l.n
