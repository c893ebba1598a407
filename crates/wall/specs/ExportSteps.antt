-- The lengths of lines as the code sums them up.
use Rattle.std.specs.Prelude.{ℕ, ◌+◌, length}
use Rattle.records.specs.Tables.{Tables}
use Rattle.store.specs.declared.ConflictNode.{ConflictNode}
use Rattle.store.specs.declared.ConflictEdge.{ConflictEdge}
use Rattle.wall.specs.Captions.{node_caption, edge_caption}
use Rattle.tgf.specs.Lines.{decimal}

abbrev pub node_size : Tables → ℕ → ConflictNode → ℕ
node_size T i x = length (decimal i) + length (node_caption T x) + 2

abbrev pub edge_size : Tables → ℕ → ℕ → ConflictEdge → ℕ
edge_size T a b w = length (decimal a) + length (decimal b) + length (edge_caption T w) + 3
