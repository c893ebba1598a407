-- The ways through the code that adds the exclusion.
use Rattle.std.specs.Prelude.{◌≡◌, refl, true, false, List, [], ◌∷◌, ℕ, ◌+◌, ◌≤◌, ◌<◌}
use Rattle.std.proofs.Common.{sym, ◌∙◌, length-append}
use Rattle.std.proofs.Math.Path.{ap}
use native.Mathlib.Omega.{arith}
use Rattle.std.proofs.Math.ListN.{length}
use Rattle.basis.specs.Lists.{snoc}
use Rattle.basis.specs.Members.{split}
use Rattle.store.specs.declared.ConflictNode.TheVariants as N
use Rattle.store.specs.declared.ConflictCause.TheVariants as C
use Rattle.store.specs.declared.ConflictEdge.TheVariants as W
use Rattle.store.specs.declared.Size.{Size}
use Rattle.store.specs.Graph.{Graph, handing, with_edge}
use Rattle.store.specs.Graph as G
use Rattle.store.specs.Numbers.{number_of}
use Rattle.store.specs.Table.{graph_in, Stored, taken, taken_graph, nodes_count, edges_count}
use Rattle.whatif.specs.Asked.{has_node, nodes_with, with_first, asked}
use Rattle.whatif.specs.Laws.Alike.{number_in, number_out_lem}
use Rattle.whatif.specs.Laws.Asked.{kept}
use Rattle.whatif.specs.Laws.Tests.{is_in_lem, not_in}

-- the graph with the excluded node of reason r, which the clause at hand adds first where there is none
unfoldable pub with_reason : Graph → ℕ → Graph
with_reason G r =
    record { nodes = nodes_with G.nodes (N.Excluded r); edges = G.edges; firsts = with_first G.nodes (N.Excluded r) G.firsts G.hand; hand = G.hand }

-- the exclusion of node a
unfoldable pub asked_from : Graph → ℕ → ℕ → ℕ → Graph
asked_from G c a r =
    record {
      nodes = nodes_with G.nodes (N.Excluded r);
      edges = snoc G.edges (record { source = a; target = number_of G.nodes (N.Excluded r); weight = W.Conflict C.Excluded; clause = c });
      firsts = with_first G.nodes (N.Excluded r) G.firsts c;
      hand = c;
    }

pub asked_from_lem : (G : Graph) (c a s r : ℕ) → a ≡ number_of G.nodes (N.Solvable s) → asked_from G c a r ≡ asked G c s r
unfolding asked_from asked
asked_from_lem G c a s r q = rw q

-- ---- the reason's node; b is its number

module _ (g : List ℕ) (s : Size) (r b : ℕ) (S : Stored g s) (q : b ≡ number_of (graph_in g s).nodes (N.Excluded r)) where
  there : b < s.nodes → has_node (graph_in g s).nodes (N.Excluded r) ≡ true
  there h =
      split (has_node (graph_in g s).nodes (N.Excluded r)) (λ t. t)
      (λ t. let e : number_of (graph_in g s).nodes (N.Excluded r) ≡ length (graph_in g s).nodes = number_out_lem (graph_in g s).nodes (N.Excluded r)
      (not_in (graph_in g s).nodes (N.Excluded r) t) in
      let c : length (graph_in g s).nodes ≡ s.nodes = nodes_count g s S in
      let f : ⊥ = omega arith in absurd f)

  new : s.nodes ≤ b → has_node (graph_in g s).nodes (N.Excluded r) ≡ false
  new h =
      split (has_node (graph_in g s).nodes (N.Excluded r))
      (λ t. let e : number_of (graph_in g s).nodes (N.Excluded r) < length (graph_in g s).nodes = (number_in (graph_in g s).nodes (N.Excluded r)
      (is_in_lem (graph_in g s).nodes (N.Excluded r) t)).0 in
      let c : length (graph_in g s).nodes ≡ s.nodes = nodes_count g s S in
      let f : ⊥ = omega arith in absurd f)
      (λ t. t)

  pub reason_old : b < s.nodes → graph_in g s ≡ with_reason (graph_in g s) r
  unfolding with_reason
  reason_old h = rw (there h, nodes_with, with_first)

  pub reason_added : (h : List ℕ) (t : Size) → s.nodes ≤ b → graph_in h t ≡ G.with_node (graph_in g s) (N.Excluded r) → graph_in h t ≡ with_reason (graph_in g s) r
  unfolding with_reason
  reason_added h t l e = e ∙ rw (new l, nodes_with, with_first)

  pub reason_few : length (nodes_with (graph_in g s).nodes (N.Excluded r)) ≤ 128 → s.nodes ≤ b → s.nodes < 128
  reason_few m l =
      let z : length (snoc (graph_in g s).nodes (N.Excluded r)) ≤ 128 = rw (new l, nodes_with) at m in
      let y : length (snoc (graph_in g s).nodes (N.Excluded r)) ≡ length (graph_in g s).nodes + 1 = length-append (graph_in g s).nodes (N.Excluded r ∷ []) in
      omega (arith, nodes_count g s S)

  pub reason_not_there : s.nodes ≤ b → s.nodes ≤ number_of (graph_in g s).nodes (N.Excluded r)
  reason_not_there l = omega (arith, q)

  -- the reason's number is one of the nodes that there are then
  inside : number_of (graph_in g s).nodes (N.Excluded r) < length (nodes_with (graph_in g s).nodes (N.Excluded r))
  inside = (kept (graph_in g s).nodes (N.Excluded r)).inside

  pub reason_small : length (nodes_with (graph_in g s).nodes (N.Excluded r)) ≤ 128 → b < 128
  reason_small m = omega (arith, inside, q)

-- the reason's node is there already, by its number
pub reason_there : (g : List ℕ) (s : Size) (r : ℕ) → Stored g s → number_of (graph_in g s).nodes (N.Excluded r) < s.nodes
    → with_reason (graph_in g s) r ≡ graph_in g s
reason_there g s r S h = sym (reason_old g s r (number_of (graph_in g s).nodes (N.Excluded r)) S refl h)

-- ---- the clause at hand

pub taken_stored : (g : List ℕ) (s : Size) (i : ℕ) → Stored g s → Stored g (taken s i)
taken_stored g s i S =
    record {
      long = S.long;
      some = S.some;
      nodes_most = S.nodes_most;
      edges_most = S.edges_most;
      root = S.root;
      word = S.word;
      no_node = S.no_node;
      packed = S.packed;
      no_edge_lem = S.no_edge_lem;
      source = S.source;
      target = S.target;
      direct = S.direct;
    }

pub taken_room : (g : List ℕ) (s : Size) (i r : ℕ) → length (nodes_with (graph_in g s).nodes (N.Excluded r)) ≤ 128
    → length (nodes_with (graph_in g (taken s i)).nodes (N.Excluded r)) ≤ 128
unfolding graph_in
taken_room g s i r h = h

-- ---- the edge; h and t are the table with the reason's node

module _ (g h : List ℕ) (s t : Size) (n a r b : ℕ) (S : Stored g s) (T : Stored h t) (q : b ≡ number_of (graph_in g s).nodes (N.Excluded r)) (e : graph_in h t
    ≡ with_reason (graph_in g (taken s n)) r) where
  is : graph_in h t ≡ with_reason (handing n (graph_in g s)) r
  is = e ∙ ap (λ (x : Graph). with_reason x r) (taken_graph g s n)

  pub edge_target : (y : ℕ) → y ≡ b → y < t.nodes
  unfolding with_reason
  edge_target y z =
      let i : number_of (graph_in g s).nodes (N.Excluded r) < length (nodes_with (graph_in g s).nodes (N.Excluded r)) = inside g s r b S q in
      let l : length (graph_in h t).nodes ≡ length (nodes_with (graph_in g s).nodes (N.Excluded r)) = ap (λ (x : Graph). length x.nodes) is in
      let c : length (graph_in h t).nodes ≡ t.nodes = nodes_count h t T in
      omega arith

  pub edge_few : s.edges < 1024 → t.edges < 1024
  unfolding with_reason
  edge_few l =
      let x : length (graph_in h t).edges ≡ length (graph_in g s).edges = ap (λ (x : Graph). length x.edges) is in
      omega (arith, x, edges_count h t T, edges_count g s S)

  -- x and y are the numbers as bytes
  pub edge_asked : (k : List ℕ) (u : Size) (x y : ℕ) → graph_in k u
      ≡ with_edge (graph_in h t) (record { source = x; target = y; weight = W.Conflict C.Excluded; clause = n }) → x ≡ a → y ≡ b
      → graph_in k u ≡ asked_from (graph_in g s) n a r
  unfolding asked_from with_reason
  edge_asked k u x y p o z = p ∙ rw (is, o, z, q)
