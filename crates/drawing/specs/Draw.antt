-- The graph text (conflict.rs: `graphviz`). Units are the opening, one edge, the closing brace.
use Rattle.std.specs.Prelude.{Bool, true, false, ℕ, suc, ◌-◌, length, get_or, ltb, eqb}
use Rattle.std.proofs.Math.Bool.{cond}
use mathlib.Core.List.{List, [], ◌∷◌, map}
use Rattle.basis.specs.Lists.{has, snoc, concat_map, upto}
use Rattle.basis.specs.Quote.{utf8}
use Rattle.records.specs.Tables.{Tables}
use Rattle.records.specs.Views.{name_text, solvable_name}
use Rattle.store.specs.declared.ConflictNode.{ConflictNode}
use Rattle.store.specs.declared.ConflictNode.TheVariants as N
use Rattle.store.specs.declared.Edge.{Edge}
use Rattle.store.specs.Graph.{Graph, out, node_at}
use Rattle.groups.specs.Groups.{head_or, mates}
use Rattle.display.specs.Stroke.{is_red, stroke}

-- the graph with, for each node, 0 if it is in no group, else one more than the number of its group's first member
-- (`merged_nodes`, line 522)
pub record Sketch : Type 0 where
  pub tables : Tables
  pub graph : Graph
  pub merged : List ℕ

-- "A group has two or more"
abbrev pub merge_mark : List ℕ → ℕ
merge_mark ms = cond (ltb 1 (length ms)) (suc (head_or 0 ms)) 0

-- "For the graph text, option 1 simplifies."; else `HashMap::default()`
unfoldable pub drawn_of : ℕ → Tables → Graph → Sketch
unfolding mates
drawn_of opt T G =
    record {
      tables = T;
      graph = G;
      merged = cond (eqb opt 1) (map (λ n. merge_mark (mates (λ s. name_text T (solvable_name T s)) G n)) (upto (length G.nodes) 0)) [];
    }

-- the root and the solvables have edges; of a merged group only the first is drawn (lines 530 to 544)
unfoldable pub drawn_at : List ℕ → ConflictNode → ℕ → Bool
drawn_at ms N.Root n = true
drawn_at ms (N.Solvable s) n = eqb (cond (ltb 0 (get_or ms n 0)) (get_or ms n 0 - 1) n) n
drawn_at ms N.UnresolvedDependency n = false
drawn_at ms (N.Excluded r) n = false

module _ (D : Sketch) where
  -- `merged_nodes` has the node (line 577)
  abbrev pub merged_drawn : ℕ → Bool
  merged_drawn n = ltb 0 (get_or D.merged n 0)

  -- `merged.ids[0]` (line 578)
  abbrev pub member_first : ℕ → ℕ
  member_first n = get_or D.merged n 0 - 1

  -- "If the target node has been merged, replace it by the first id in the group" (lines 573 to 578)
  abbrev pub lead_drawn : ℕ → ℕ
  lead_drawn n = cond (merged_drawn n) (member_first n) n

  -- ---- edges

  -- an edge of node n (lines 596 to 601)
  unfoldable pub edge_text : ℕ → Edge → List ℕ
  unfolding stroke is_red
  edge_text n e =
      stroke D.tables (node_at D.graph n) (node_at D.graph (lead_drawn e.target)) (is_red e.weight (node_at D.graph e.target)) e.weight

  -- of the edges to one merged group only the newest, whatever its label; `seen` are the groups so far (`added_edges`, lines 576 to 586)
  unfoldable pub drawn_edges : List Edge → List ℕ → List Edge
  drawn_edges [] seen = []
  drawn_edges (e ∷ es) seen =
      elim (merged_drawn e.target) [
        | false ↦ e ∷ drawn_edges es seen
        | true ↦ elim (has (member_first e.target) seen) [ true ↦ drawn_edges es seen | false ↦ e ∷ drawn_edges es (member_first e.target ∷ seen) ]
      ]

  -- ---- nodes

  -- node n is drawn (`drawn_at`)
  unfoldable pub is_drawn : ℕ → Bool
  unfolding drawn_at
  is_drawn n = drawn_at D.merged (node_at D.graph n) n

  -- the edges of node n (lines 546 to 602)
  unfoldable pub edge_units : ℕ → List (List ℕ)
  unfolding edge_text drawn_edges out
  edge_units n = map (edge_text n) (drawn_edges (out D.graph n) [])

  -- the edges of node n, if it is drawn (lines 529 to 603)
  unfoldable pub node_units : ℕ → List (List ℕ)
  unfolding is_drawn edge_units
  node_units n = cond (is_drawn n) (edge_units n) []

  -- the edges of all nodes in number order (lines 529 to 603)
  unfoldable pub all_units : List (List ℕ)
  unfolding node_units
  all_units = concat_map node_units (upto (length D.graph.nodes) 0)

  -- behind the opening: the edges and "the closing brace" (line 604)
  unfoldable pub rest_units : List (List ℕ)
  unfolding all_units
  rest_units = snoc all_units (utf8 "}")

  -- "in the graph text the opening, one edge or the closing brace" (lines 528 to 604)
  unfoldable pub drawing_units : List (List ℕ)
  unfolding rest_units
  drawing_units = utf8 "digraph {" ∷ rest_units
