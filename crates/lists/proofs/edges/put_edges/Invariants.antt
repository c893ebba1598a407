use Rattle.std.proofs.Common.{◌≡◌}
use Rattle.lists.specs.Laws.Edges.{edges_to}
use Rattle.lists.proofs.edges.put_edges.Given as goal

abbrev pub invariant-loop-i : goal.invariant-loop-i
invariant-loop-i l = l.list ≡ edges_to l.g l.i l.fn.list
