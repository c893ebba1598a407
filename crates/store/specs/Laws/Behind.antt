-- A node, then an edge, behind a graph that is settled: the laws of adding, for a table of which nothing but `Stored` is known.
use Rattle.std.specs.Prelude.{◌≡◌, refl, true, false, List, [], ◌∷◌, ℕ, zero, suc, ◌+◌, ◌*◌, ◌/◌, ◌<◌, ◌≤◌, get_or, set}
use Rattle.std.proofs.Common.{sym, ◌∙◌}
use Rattle.std.proofs.Math.Path.{ap}
use Rattle.std.proofs.Math.Option.{Option, none, some}
use native.Mathlib.Omega.{arith}
use Rattle.std.proofs.Math.ListN.{length}
use Rattle.basis.specs.Lists.{place}
use Rattle.basis.specs.Members.{split}
use Rattle.store.specs.declared.ConflictNode.{ConflictNode}
use Rattle.store.specs.declared.Edge.{Edge}
use Rattle.store.specs.declared.Size.{Size}
use Rattle.store.specs.Direct.{entered}
use Rattle.store.specs.Graph.{Graph, same_node, with_node, with_edge}
use Rattle.store.specs.Numbers.{number_of}
use Rattle.store.specs.Words.{NodeWord, EdgeWord}
use Rattle.store.specs.Table.{node_words, graph_in, Stored, nodes_count}
use Rattle.store.specs.Finding.{placed, find_of}
use Rattle.store.specs.Keeping.{one_node, one_edge, sought, wider, keep_node, more_edges, edge_keeps}

-- ---- the number of a node

place_number : (x : ConflictNode) (ns : List ConflictNode) (a : ℕ) → placed (place (same_node x) ns a) (a + length ns) ≡ a + number_of ns x
place_number x [] a = refl
place_number x (y ∷ ns) a =
    split (same_node x y)
    (λ t. rw (t, place, number_of) (omega arith))
    (λ t. let z : a + suc (length ns) ≡ suc a + length ns = omega arith in
    let u : placed (place (same_node x) ns (suc a)) (suc a + length ns) ≡ suc a + number_of ns x = place_number x ns (suc a) in
    rw (t, place, number_of, z, u) (omega arith))

pub number_most : (ns : List ConflictNode) (x : ConflictNode) → number_of ns x ≤ length ns
number_most [] x = omega arith
number_most (y ∷ ns) x =
    split (same_node x y) (λ t. rw (t, number_of) (omega arith)) (λ t. rw (t, number_of) (omega (arith, number_most ns x)))

module _ (g : List ℕ) (s : Size) (x : ConflictNode) (w : ℕ) (S : Stored g s) (e : NodeWord x w) where
  pub place_is : (i : ℕ) → i ≡ find_of g s.nodes w → i ≡ number_of (graph_in g s).nodes x
  unfolding find_of
  place_is i q =
      let c : length (graph_in g s).nodes ≡ s.nodes = nodes_count g s S in
      let z : 0 + length (graph_in g s).nodes ≡ s.nodes = omega arith in
      let u : placed (place (same_node x) (graph_in g s).nodes 0) (0 + length (graph_in g s).nodes) ≡ 0 + number_of (graph_in g s).nodes x =
      place_number x (graph_in g s).nodes 0 in
      let v : placed (place (same_node x) (graph_in g s).nodes 0) s.nodes ≡ number_of (graph_in g s).nodes x =
      ap (placed (place (same_node x) (graph_in g s).nodes 0)) (sym z) ∙ u ∙ omega arith in
      q ∙ ap (λ (o : Option ℕ). placed o s.nodes) (sym (sought g s x w S e)) ∙ v

  -- a node that is not there is not found
  not_there : s.nodes ≤ number_of (graph_in g s).nodes x → s.nodes ≡ find_of g s.nodes w
  not_there h =
      let p : find_of g s.nodes w ≡ number_of (graph_in g s).nodes x = place_is (find_of g s.nodes w) refl in
      let m : number_of (graph_in g s).nodes x ≤ length (graph_in g s).nodes = number_most (graph_in g s).nodes x in
      let c : length (graph_in g s).nodes ≡ s.nodes = nodes_count g s S in
      omega arith

  -- ---- a node behind the others; h is the table that the entry left

  module _ (h : List ℕ) (q : h ≡ entered (set g (1024 + s.nodes) (w + 262144 * s.hand)) w (s.nodes + 1)) (l : s.nodes < 128) (n : s.nodes
      ≤ number_of (graph_in g s).nodes x) (b : s.hand < 65536) where
    pub pushed_node : graph_in h (one_node s) ≡ with_node (graph_in g s) x
    pushed_node = rw q (wider g s x w S e s.nodes (not_there n) l b)

    pub stored_node : Stored h (one_node s)
    stored_node = rw q (keep_node g s x w S e s.nodes (not_there n) (omega arith) l b).stored

pub ruleset pushes_node = (pushed_node, stored_node)

-- ---- an edge behind the others; n is the entry that stands at its place

module _ (g : List ℕ) (s : Size) (e : Edge) (w n : ℕ) (E : EdgeWord e w) (S : Stored g s) (b : n ≡ get_or g s.edges 0 / 72057594037927936) (l : s.edges
    < 1024) where
  pub pushed_edge : graph_in (set g s.edges (w + 72057594037927936 * n)) (one_edge s) ≡ with_edge (graph_in g s) e
  pushed_edge = rw b (more_edges g s e w S E l)

  pub stored_edge : e.source < 128 → e.target < s.nodes → Stored (set g s.edges (w + 72057594037927936 * n)) (one_edge s)
  stored_edge hs ht = rw b (edge_keeps g s e w S E l hs ht)

pub ruleset pushes_edge = (pushed_edge, stored_edge)
