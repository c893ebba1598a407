-- The tag of an edge's word.
use Rattle.std.proofs.Common.{rules}
use Rattle.store.specs.Table.{edge_in, reads}
use Rattle.store.proofs.excluded_at.Goals as goal

pub returns : goal.returns
unfolding edge_in
returns c = search (rules, reads)
