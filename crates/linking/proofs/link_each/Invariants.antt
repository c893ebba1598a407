use Rattle.std.proofs.Common.{length}
use Rattle.records.specs.Read.{tables_of}
use Rattle.store.specs.Table.{graph_in}
use Rattle.views.specs.Walks.{candidates_from}
use Rattle.linking.specs.Fan.{fan_all, Fanning}
use Rattle.linking.proofs.link_each.Given as goal

abbrev pub invariant-loop-y : goal.invariant-loop-y
invariant-loop-y l =
    Fanning (fan_all l.q l.source (candidates_from (tables_of l.file) l.fn.x) (graph_in l.fn.g l.fn.s)) l.q l.source (candidates_from (tables_of l.file) l.y)
    l.g l.t

abbrev pub decreases-loop-y : goal.decreases-loop-y
decreases-loop-y l = length (candidates_from (tables_of l.file) l.y)
