use Rattle.std.proofs.Common.{◌≡◌}
use Rattle.store.specs.Table.{graph_in}
use Rattle.whatif.specs.Laws.Again.{turns_left}
use Rattle.whatif.proofs.relabel.relabel.Given as goal

abbrev pub invariant-loop-x : goal.invariant-loop-x
invariant-loop-x l = turns_left (graph_in l.g l.s) l.a l.order l.count l.marks l.up l.x-index ≡ turns_left (graph_in l.g l.s) l.a l.order l.count l.fn.marks l.fn.up 0
