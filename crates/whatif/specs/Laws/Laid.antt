-- What the labels need to know of a graph, whether it was drawn from a file or asked for: its nodes stand once, its edges run between
-- nodes, and every node is reached. Without a cycle the labels are then the rules without "already".
use Rattle.std.specs.Prelude.{◌≡◌, refl, ◌⊎◌, Bool, true, false, ◌||◌, List, [], ◌∷◌, map, reverse, ℕ, ◌<◌, ◌≤◌, length, get_or, eqb}
use Rattle.std.proofs.Common.{sym, ap, ◌∙◌, inl, inr, arith, eqb-true}
use Rattle.std.proofs.Math.Option.{none}
use Rattle.basis.specs.Members.{In, All, Distinct, in_reverse, in_filter, all_in}
use Rattle.records.specs.Tables.{Tables}
use Rattle.index.specs.Promise.{Valid}
use Rattle.store.specs.declared.ConflictNode.TheVariants as N
use Rattle.store.specs.declared.Edge.{Edge}
use Rattle.store.specs.Graph.{Graph, out, node_at, unreached}
use Rattle.links.specs.Paths.{Path}
use Rattle.graph.specs.Graphs.{drawn, graph_of}
use Rattle.shape.specs.Shaped.{Runs}
use Rattle.shape.specs.Graphed.{Graphed, graphed}
use Rattle.shape.specs.Uses.{some_node, root_first}
use Rattle.labels.specs.Ordered.{Acyclic}
use Rattle.labels.specs.Labels.{targets, order_of, can_install, is_lacking, installable, missing, has_unresolved}
use Rattle.labels.specs.Facts.{Sound}
use Rattle.labels.proofs.Local.{installable_settled, missing_settled}
use Rattle.labels.specs.Laws.Paths.{edge_target, target_edge}
use Rattle.shape.specs.Settled.{path_ordered, all_reached}

pub record GraphLaid (G : Graph) : Type 0 where
  pub some : 0 < length G.nodes
  pub root : node_at G 0 ≡ N.Root
  pub most : length G.nodes ≤ 128
  pub once : Distinct G.nodes
  pub runs : All (Runs G.nodes) G.edges
  pub unresolved : (n : ℕ) → n < length G.nodes → node_at G n ≡ N.UnresolvedDependency → n ≡ 1
  pub reached : (n : ℕ) → n < length G.nodes → Path G 0 n

-- a drawn graph is
pub drawn_laid : (T : Tables) → Valid T → (G : Graph) → graph_of T ≡ drawn G → GraphLaid G
drawn_laid T v G d =
    let P : Graphed T G = (graphed T v G d).0 in
    record {
      some = some_node T G P;
      root = root_first T G P;
      most = P.nodes_most;
      once = P.once;
      runs = P.edges;
      unresolved = P.unresolved;
      reached = all_reached T v G d;
    }

-- ---- edges and targets

-- a target is the target of an edge
pub edge_of : (G : Graph) (n t : ℕ) → In t (targets G n) → (e : Edge) × In e G.edges × (e.source ≡ n) × (e.target ≡ t)
edge_of G n t i = let r = target_edge G n t i in (r.0, r.1, r.2, sym r.3)

pub edge_target' : (G : Graph) (n t : ℕ) (e : Edge) → In e G.edges → e.source ≡ n → e.target ≡ t → In t (targets G n)
edge_target' G n t e i p q = rw (← p, ← q) (edge_target G e i)

module _ (G : Graph) (L : GraphLaid G) where
  pub runs_at_lem : (e : Edge) → In e G.edges → Runs G.nodes e
  runs_at_lem e i = all_in (Runs G.nodes) G.edges e L.runs i

  pub laid_sound : Sound G
  laid_sound = record { some = L.some; most = L.most; ends = λ e i. (runs_at_lem e i).to }

  pub target_below : (n t : ℕ) → In t (targets G n) → t < length G.nodes
  target_below n t i = let r = edge_of G n t i in rw (← r.3) (runs_at_lem r.0 r.1).to

  module _ (a : Acyclic (targets G)) (n : ℕ) (h : n < length G.nodes) where
    pub in_order : In n (order_of G)
    in_order = path_ordered G laid_sound a n (L.reached n h)

    pub laid_installable : installable G n ≡ can_install G (installable G) n
    laid_installable = installable_settled G laid_sound a n in_order

    pub laid_missing : has_unresolved G ≡ true → missing G n ≡ eqb n 1 || is_lacking G (missing G) n
    laid_missing u = missing_settled G laid_sound a u n in_order
