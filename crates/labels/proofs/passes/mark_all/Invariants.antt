use Rattle.std.proofs.Common.{◌≡◌}
use Rattle.store.specs.Table.{graph_in}
use Rattle.labels.specs.Labels.{order_of}
use Rattle.labels.specs.Marks.{marks_along}
use Rattle.labels.specs.Passes.{marks_left}
use Rattle.labels.proofs.passes.mark_all.Given as goal

abbrev pub invariant-loop-x : goal.invariant-loop-x
invariant-loop-x l = marks_left (graph_in l.g l.s) l.order l.count l.marks l.x-index ≡ marks_along (graph_in l.g l.s) (order_of (graph_in l.g l.s)) l.fn.marks
