-- The text of the wall display (document 02, order 14): "a line per node with its number, a space and a label, a line with #, then a
-- line per edge with source, target and label. Nodes are in number order, edges oldest first". A unit is a line.
use Rattle.std.specs.Prelude.{List, ◌∷◌, ◌++◌, map, ℕ}
use Rattle.records.specs.Tables.{Tables}
use Rattle.store.specs.declared.ConflictNode.{ConflictNode}
use Rattle.store.specs.declared.ConflictEdge.{ConflictEdge}
use Rattle.store.specs.declared.Edge as Stored
use Rattle.store.specs.Graph.{Graph}
use Rattle.machine.specs.Units.{Result}
use Rattle.drawing.specs.Graphviz.{fit_units}
use Rattle.wall.specs.Captions.{node_caption, edge_caption}
use Rattle.tgf.specs.Lines.{Label, WallEdge, node_line, hash_line, edge_line, node_lines}

-- the line of node i
unfoldable pub node_text : Tables → ℕ → ConflictNode → List ℕ
node_text T i x = node_line i (node_caption T x)

-- "a line per edge with source, target and label"
abbrev pub wall_edge : Tables → ℕ → ℕ → ConflictEdge → WallEdge
wall_edge T a b w = record { source = a; target = b; label = edge_caption T w }

-- the line of an edge from node a to node b
unfoldable pub edge_text : Tables → ℕ → ℕ → ConflictEdge → List ℕ
edge_text T a b w = edge_line (wall_edge T a b w)

-- the labels of the nodes in number order: "Merged packages are not folded"
unfoldable pub labels_of : Tables → Graph → List Label
labels_of T G = map (node_caption T) G.nodes

-- "edges oldest first"
unfoldable pub edges_of : Tables → Graph → List WallEdge
edges_of T G = map (λ (e : Stored.Edge). wall_edge T e.source e.target e.weight) G.edges

-- "a line per node with its number, a space and a label"
unfoldable pub node_units : Tables → Graph → List (List ℕ)
node_units T G = node_lines 0 (labels_of T G)

-- "then a line per edge with source, target and label"
unfoldable pub edge_units : Tables → Graph → List (List ℕ)
edge_units T G = map edge_line (edges_of T G)

-- "a line with #, then a line per edge"
unfoldable pub rest_units : Tables → Graph → List (List ℕ)
rest_units T G = hash_line ∷ edge_units T G

-- all lines: "A unit is a line."
unfoldable pub export_units : Tables → Graph → List (List ℕ)
export_units T G = node_units T G ++ rest_units T G

-- "Refusals: 10 for room, whole lines kept": the lines that fit
unfoldable pub export_shown : Tables → Graph → ℕ → Result
export_shown T G room = fit_units (export_units T G) room
