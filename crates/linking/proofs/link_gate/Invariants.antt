use Rattle.std.proofs.Common.{length}
use Rattle.views.specs.Walks.{gates_from}
use Rattle.records.specs.Read.{tables_of}
use Rattle.store.specs.Table.{graph_in}
use Rattle.linking.specs.Working.{link_all_in}
use Rattle.linking.specs.Growth.{LinksLeft}
use Rattle.linking.specs.Requiring.{gate_links}
use Rattle.linking.proofs.link_gate.Given as goal

abbrev pub invariant-loop-y : goal.invariant-loop-y
invariant-loop-y l =
    LinksLeft (link_all_in (gate_links (tables_of l.file) l.q l.fn.x) (graph_in l.fn.g l.fn.s)) (gate_links (tables_of l.file) l.q l.y) l.g l.t

abbrev pub decreases-loop-y : goal.decreases-loop-y
decreases-loop-y l = length (gates_from (tables_of l.file) l.y)
