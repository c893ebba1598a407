use Rattle.std.proofs.Common.{◌≡◌, length}
use Rattle.records.specs.Read.{tables_of}
use Rattle.views.specs.Walks.{aux_from}
use Rattle.linking.specs.Parties.{any_node}
use Rattle.expansion.proofs.aux_kept.Given as goal

abbrev pub invariant-loop-y : goal.invariant-loop-y
invariant-loop-y l = any_node (tables_of l.file) (aux_from (tables_of l.file) l.y) ≡ any_node (tables_of l.file) (aux_from (tables_of l.file) l.fn.x)

abbrev pub decreases-loop-y : goal.decreases-loop-y
decreases-loop-y l = length (aux_from (tables_of l.file) l.y)
