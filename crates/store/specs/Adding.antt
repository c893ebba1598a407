-- Adding a node, an edge, a link: what table and answer hold after each way out of a function is what the definitions of `Working` say, and
-- the graph can grow on.
use Rattle.std.specs.Prelude.{Result, Ok, Err, ◌≡◌, List, ℕ, ◌+◌, ◌*◌, ◌<◌, ◌≤◌}
use Rattle.std.proofs.Math.Path.{refl}
use Rattle.std.proofs.Common.{sym, ap, ◌∙◌, arith}
use borrow.Author.Tests.{lt-ltb, le-ltb, lt-leb, le-leb}
use Rattle.store.specs.declared.ConflictNode.{ConflictNode}
use Rattle.store.specs.declared.ConflictEdge.{ConflictEdge}
use Rattle.store.specs.declared.Edge.{Edge}
use Rattle.store.specs.declared.Size.{Size}
use Rattle.store.specs.declared.Put.{Put}
use Rattle.store.specs.declared.Full.{Full}
use Rattle.store.specs.Direct.{entry_in, more, with_nodes, put_at}
use Rattle.store.specs.Graph.{Graph}
use Rattle.store.specs.Working.{AddedSoFar, added_to, full_at, add_node_in, add_edge_in, add_link_in}
use Rattle.store.specs.Words.{EdgeWord, NodeWord}
use Rattle.store.specs.Table.{graph_in, Growing, added_in, size_of, place_of, taken_growing, nodes_count, edges_count}
use Rattle.store.specs.Finding.{find_of}
use Rattle.store.specs.Keeping.{one_node, one_edge, node_put, edge_put, found, missed, wider, grow_node, more_edges, edge_grows}

-- ---- a node: w is its word, i the number that was found for it, the number of nodes where there is none. Each way out has three laws:
-- what was added (`add_`), that the graph can grow on (`held_`), and that the number is that of a node (`below_`)

module _ (g : List ℕ) (s : Size) (x : ConflictNode) (w : ℕ) (P : Growing g s) (e : NodeWord x w) where
  module _ (i : ℕ) (f : i ≡ find_of g s.nodes w) where
    -- it is there: its number, and the table as it was
    pub add_old : i < s.nodes → added_in g (put_at s i) ≡ add_node_in (graph_in g s) x
    unfolding add_node_in put_at graph_in
    add_old h =
        let z : graph_in g s ≡ graph_in g (with_nodes s s.nodes) = refl in
        rw (lt-leb 128 i (omega (arith, P.stored.nodes_most)), lt-ltb i s.nodes h, found g s x w P.stored e i f h, add_node_in)

    pub held_old : i < s.nodes → Growing g (size_of (put_at s i))
    unfolding put_at
    held_old h = rw (lt-leb 128 i (omega (arith, P.stored.nodes_most)), lt-ltb i s.nodes h) (taken_growing g s s.hand P)

    pub below_old : i < s.nodes → place_of (put_at s i) < (size_of (put_at s i)).nodes
    unfolding put_at
    below_old h = rw (lt-leb 128 i (omega (arith, P.stored.nodes_most)), lt-ltb i s.nodes h) h

    -- it is not there, and there is no room: 128, and the table as it was
    pub add_full : s.nodes ≤ i → 128 ≤ s.nodes → added_in g (put_at s 128) ≡ add_node_in (graph_in g s) x
    unfolding add_node_in put_at
    add_full h l = rw (missed g s x w P.stored e i f h, add_node_in, nodes_count g s P.stored, le-ltb s.nodes 128 l)

    put_new : s.nodes < 128 → put_at s s.nodes ≡ Ok (record { place = s.nodes; size = one_node s })
    unfolding put_at
    put_new l = rw (lt-leb 128 s.nodes l, le-ltb s.nodes s.nodes (omega arith))

    -- it is not there, and there is room: the next number, and table h, which has it
    module _ (h : List ℕ) (q : h ≡ node_put g s w) where
      pub add_new : s.nodes ≤ i → s.nodes < 128 → s.hand < 65536 → added_in h (put_at s s.nodes) ≡ add_node_in (graph_in g s) x
      unfolding add_node_in
      add_new a l b =
          rw (put_new l, missed g s x w P.stored e i f a, add_node_in, nodes_count g s P.stored, lt-ltb s.nodes 128 l, q)
          (ap (added_to s.nodes) (wider g s x w P.stored e i f l b))

      pub held_new : s.nodes ≤ i → s.nodes < 128 → s.hand < 65536 → Growing h (size_of (put_at s s.nodes))
      held_new a l b = rw (put_new l, q) (grow_node g s x w P e i f a l b)

      pub below_new : s.nodes < 128 → place_of (put_at s s.nodes) < (size_of (put_at s s.nodes)).nodes
      below_new l = rw (put_new l) (omega arith)

pub held_none : (g : List ℕ) (s : Size) → Growing g s → Growing g (size_of (put_at s 128))
unfolding put_at
held_none g s P = P

pub below_none : (g : List ℕ) (s : Size) → Growing g s → place_of (put_at s 128) < (size_of (put_at s 128)).nodes
unfolding put_at
below_none g s P = P.stored.some

-- the same, as `grind` takes it
pub node_none : (g : List ℕ) (s : Size) (x : ConflictNode) (w : ℕ) → Growing g s → NodeWord x w → s.nodes ≤ find_of g s.nodes w → 128 ≤ s.nodes
    → add_node_in (graph_in g s) x ≡ full_at (graph_in g s)
unfolding add_node_in
node_none g s x w P e h l = rw (missed g s x w P.stored e (find_of g s.nodes w) refl h, add_node_in, nodes_count g s P.stored, le-ltb s.nodes 128 l)

pub ruleset adds_node = (add_old, held_old, below_old, add_full, held_none, below_none, add_new, held_new, below_new)

-- ---- an edge behind the others: w is its word, n the entry of the direct table that stands at its place

-- there is no room
pub edge_full : (g : List ℕ) (s : Size) (e : Edge) → Growing g s → 1024 ≤ s.edges → full_at (graph_in g s) ≡ add_edge_in (graph_in g s) e
unfolding add_edge_in
edge_full g s e P l = rw (edges_count g s P.stored, le-ltb s.edges 1024 l)

module _ (g : List ℕ) (s : Size) (e : Edge) (w n : ℕ) (E : EdgeWord e w) (P : Growing g s) (b : n ≡ entry_in g s.edges) where
  -- the next number, and the table that has it
  pub edge_new : s.edges < 1024 → added_to s.edges (graph_in (edge_put g s w n) (one_edge s)) ≡ add_edge_in (graph_in g s) e
  unfolding add_edge_in
  edge_new l = rw (b, edges_count g s P.stored, lt-ltb s.edges 1024 l) (ap (added_to s.edges) (more_edges g s e w P.stored E l))

  pub grow_edge : s.edges < 1024 → e.source < 128 → e.target < s.nodes → Growing (edge_put g s w n) (one_edge s)
  grow_edge l hs ht = rw b (edge_grows g s e w P E l hs ht)

pub ruleset adds_edge = (edge_new, edge_full, grow_edge)

-- ---- a link: both ends, then the edge

-- its second half: the target y, then the edge from node i
unfoldable pub add_target : Graph → ℕ → ConflictNode → ConflictEdge → AddedSoFar
add_target h i y w =
    elim (add_node_in h y) [
      | full_at k ↦ full_at k
      | added_to j k ↦ add_edge_in k (record { source = i; target = j; weight = w; clause = k.hand })
    ]

-- what the number i of a node says: 128 that there was no room; else n nodes are there now
put_full : (s : Size) (i : ℕ) → 128 ≤ i → put_at s i ≡ Err (record { size = s })
unfolding put_at
put_full s i h = rw (le-leb 128 i h)

put_at_lem : (s : Size) (i n : ℕ) → i < 128 → n ≡ more s.nodes i → put_at s i ≡ Ok (record { place = i; size = with_nodes s n })
unfolding put_at
put_at_lem s i n h q = rw (lt-leb 128 i h, q)

-- end x was added and got number i; h is the table then
module _ (g h : List ℕ) (s : Size) (x : ConflictNode) (i : ℕ) (p : added_in h (put_at s i) ≡ add_node_in (graph_in g s) x) where
  full_is : 128 ≤ i → add_node_in (graph_in g s) x ≡ full_at (graph_in h s)
  full_is b = sym p ∙ ap (added_in h) (put_full s i b)

  at_is : (n : ℕ) → i < 128 → n ≡ more s.nodes i → add_node_in (graph_in g s) x ≡ added_to i (graph_in h (with_nodes s n))
  at_is n b q = sym p ∙ ap (added_in h) (put_at_lem s i n b q)

  -- the node alone
  pub node_full : 128 ≤ i → full_at (graph_in h s) ≡ add_node_in (graph_in g s) x
  node_full b = sym (full_is b)

  pub node_at : (n : ℕ) → i < 128 → n ≡ more s.nodes i → added_to i (graph_in h (with_nodes s n)) ≡ add_node_in (graph_in g s) x
  node_at n b q = sym (at_is n b q)

  -- x as the target of an edge from node j; i' is the number i as a byte
  module _ (y : ConflictNode) (w : ConflictEdge) where
    pub target_full : (j : ℕ) → 128 ≤ i → full_at (graph_in h s) ≡ add_target (graph_in g s) j x w
    unfolding add_target
    target_full j b = rw (full_is b, add_target)

    pub target_edge : (m : List ℕ) (c : Result Put Full) (n j i' : ℕ) → i < 128 → n ≡ more s.nodes i
        → added_in m c ≡ add_edge_in (graph_in h (with_nodes s n)) (record { source = j; target = i'; weight = w; clause = s.hand })
        → i' ≡ i → added_in m c ≡ add_target (graph_in g s) j x w
    unfolding add_target graph_in
    target_edge m c n j i' b q o e = rw (at_is n b q, add_target) (rw e at o)

    -- x as the source of an edge to y
    pub link_full : 128 ≤ i → full_at (graph_in h s) ≡ add_link_in (graph_in g s) x y w
    unfolding add_link_in
    link_full b = rw (full_is b, add_link_in)

    pub link_edge : (m : List ℕ) (c : Result Put Full) (n i' : ℕ) → i < 128 → n ≡ more s.nodes i
        → added_in m c ≡ add_target (graph_in h (with_nodes s n)) i' y w
        → i' ≡ i → added_in m c ≡ add_link_in (graph_in g s) x y w
    unfolding add_link_in add_target
    link_edge m c n i' b q o e = rw (at_is n b q, add_link_in) (rw e at o)

pub ruleset nodes = (node_full, node_at)

pub ruleset links = (link_full, link_edge)

-- what the promise says of such an answer, taken apart: the graph can grow on, and the number is that of a node
pub held_full : (g : List ℕ) (s : Size) (i : ℕ) → Growing g (size_of (put_at s i)) → 128 ≤ i → Growing g s
held_full g s i p h = rw (put_full s i h) at p

pub held_at : (g : List ℕ) (s : Size) (i n : ℕ) → Growing g (size_of (put_at s i)) → i < 128 → n ≡ more s.nodes i
    → Growing g (with_nodes s n)
held_at g s i n p h q = rw (put_at_lem s i n h q) at p

pub at_below : (s : Size) (i j n : ℕ) → place_of (put_at s i) < (size_of (put_at s i)).nodes → i < 128 → n ≡ more s.nodes i → j ≡ i → j < n
at_below s i j n p h q e = rw e (rw (put_at_lem s i n h q) at p)

pub at_place : (s : Size) (i n : ℕ) → place_of (put_at s i) < (size_of (put_at s i)).nodes → i < 128 → n ≡ more s.nodes i → i < n
at_place s i n p h q = rw (put_at_lem s i n h q) at p
