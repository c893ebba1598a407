-- The node list of a file: "one entry a node, holding its kind, both labels and its group".
use Rattle.std.specs.Prelude.{Bool, true, false, cond, List, [], map, ℕ, length, ltb}
use Rattle.basis.specs.Lists.{upto}
use Rattle.records.specs.Tables.{Tables}
use Rattle.records.specs.Read.{Reading, good, bad, read_of}
use Rattle.store.specs.Graph.{Graph, node_at, first_at}
use Rattle.graph.specs.Graphs.{Outcome, drawn, refused, graph_of}
use Rattle.labels.specs.Labels.{installables, missings, installable, missing}
use Rattle.groups.specs.Groups.{lead_of}
use Rattle.groups.specs.Naming.{name_of}
use Rattle.store.specs.Numbers.{node_number}
use Rattle.store.specs.Numbers.{node_kind}
use Rattle.lists.specs.declared.entries.NodeEntry.{NodeEntry}
use Rattle.lists.specs.declared.nodes.Counted.{Counted}

-- "uint8_t installable, missing": a host may lend a list with any bytes in it, so an entry holds no bool
abbrev pub flag : Bool → ℕ
flag true = 1
flag false = 0

-- "kind and number as in `ConflictNode`, 0 where it has none; group the node number of its first member, the node's own if unmerged";
-- document 02, order 3: "The lent node list gains, per node, the clause that first added it; root and unresolved show 65,535."
unfoldable pub node_entry : Tables → Graph → ℕ → NodeEntry
unfolding lead_of installables missings
node_entry T G n =
    record {
      kind = node_kind (node_at G n);
      number = node_number (node_at G n);
      group = lead_of (name_of T) G n;
      installable = flag (installable G n);
      missing = flag (missing G n);
      clause = first_at G n;
    }

-- "one entry a node"
unfoldable pub node_entries : Tables → Graph → List NodeEntry
unfolding node_entry
node_entries T G = map (node_entry T G) (upto (length G.nodes) 0)

-- what `nodes_of` gives: the nodes' entries, or one of the refusals 1 to 9 with its place
pub data Nodes : Type 0 where
  entered : List NodeEntry → Nodes
  denied : ℕ → ℕ → Nodes

-- the entries of a graph that is drawn (`node_entries`), or its refusal
abbrev pub nodes_drawn : Tables → Outcome → Nodes
nodes_drawn T (drawn G) = entered (node_entries T G)
nodes_drawn T (refused k p) = denied k p

-- "1, then record by record in the table's order, then core clauses in order (7, 8), then 9"
abbrev pub nodes_read : Reading → Nodes
nodes_read (bad k p) = denied k p
nodes_read (good T) = nodes_drawn T (graph_of T)

-- from the file's bytes (`nodes_read`)
unfoldable pub nodes_of : List ℕ → Nodes
unfolding read_of graph_of node_entries
nodes_of file = nodes_read (read_of file)

-- ---- in a list of `room` entries

-- a refusal fills no entry
abbrev pub refusal_of : ℕ → ℕ → Counted
refusal_of k p = record { number = k; place = p; units = 0; count = 0 }

-- "if it holds fewer than the nodes, answer 10 with place 0 and nothing changed, the whole list being one unit"
abbrev pub counted_by : Nodes → ℕ → Counted
counted_by (denied k p) room = refusal_of k p
counted_by (entered es) room = cond (ltb room (length es)) (refusal_of 10 0) (record { number = 0; place = 0; units = 1; count = length es })

-- the entries that are filled in; none where it is 10, "nothing changed"
abbrev pub listed_by : Nodes → ℕ → List NodeEntry
listed_by (denied k p) room = []
listed_by (entered es) room = cond (ltb room (length es)) [] es
