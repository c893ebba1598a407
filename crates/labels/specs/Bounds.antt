-- What the promise about the stored graph gives: its edges lead to nodes, and so do the post-order and every chain.
use Rattle.std.specs.Prelude.{◌≡◌, refl, ◌⊎◌, Bool, true, false, length, get_or, replicate}
use Rattle.std.proofs.Common.{sym, ap, ◌∙◌, subst, inl, inr}
use mathlib.Core.List.{List, [], ◌∷◌, map, reverse}
use Prim.Native.Nat.{ℕ, zero, suc, ◌+◌, ◌<◌, ◌≤◌}
use native.Mathlib.Omega.{arith}
use Rattle.std.proofs.lemmas.List.{length-map}
use Rattle.std.proofs.Math.ListN.{length-reverse}
use Rattle.std.proofs.Math.Dec.{eqb}
use Rattle.basis.specs.Lists.{filter, snoc}
use Rattle.basis.specs.Members.{In, split, either, in_append}
use Rattle.store.specs.declared.Edge.{Edge}
use Rattle.store.specs.declared.Size.{Size}
use Rattle.store.specs.Graph.{Graph, out}
use Rattle.store.specs.Table.{graph_in, edge_in, no_edge, Stored, nodes_count, edges_count, edge_in_lem, target_below}
use Rattle.labels.specs.Order.{Walk, mark, leave, through, visit, postorder}
use Rattle.labels.specs.Walks.{Inner, visit_at, visit_past, zero?}
use Rattle.labels.specs.Labels.{targets, order_of}
use Rattle.labels.specs.Facts.{Sound, inner}

in_place : {A : Type 0} (d x : A) (l : List A) → In x l → (i : ℕ) × (i < length l) × (x ≡ get_or l i d)
in_place d x [] i = absurd i
in_place d x (y ∷ l) (inl e) = (0, omega arith, e)
in_place d x (y ∷ l) (inr i) = let r = in_place d x l i in let h : r.0 < length l = r.1 in (suc r.0, omega arith, r.2)

module _ (g : List ℕ) (s : Size) (S : Stored g s) where
  ends_in_lem : (e : Edge) → In e (graph_in g s).edges → e.target < length (graph_in g s).nodes
  ends_in_lem e i =
      let r = in_place no_edge e (graph_in g s).edges i in
      let h : r.0 < s.edges = rw (edges_count g s S) at r.1 in
      let q : e ≡ edge_in g r.0 = r.2 ∙ sym (edge_in_lem g s S r.0 h) in
      rw (nodes_count g s S, q) (target_below g s S r.0 h)

  pub sound : Sound (graph_in g s)
  sound = record { some = rw (nodes_count g s S) S.some; most = rw (nodes_count g s S) S.nodes_most; ends = ends_in_lem }

  filter_short : {A : Type 0} (p : A → Bool) (l : List A) → length (filter p l) ≤ length l
  filter_short p [] = omega arith
  filter_short p (x ∷ l) = split (p x) (λ t. rw (t, filter) (omega (arith, filter_short p l))) (λ t. rw (t, filter) (omega (arith, filter_short p l)))

  pub targets_few : (n : ℕ) → length (targets (graph_in g s) n) ≤ 1024
  unfolding targets out
  targets_few n =
      rw (length-map, length-reverse)
      (omega (
        arith,
        filter_short (λ (e : Edge). eqb e.source n) (reverse (graph_in g s).edges),
        length-reverse (graph_in g s).edges,
        edges_count g s S,
        S.edges_most,
      ))

-- ---- post-order holds nodes only

module _ (to : ℕ → List ℕ) (N : ℕ) (g : Inner to N) where
  abbrev Within : Walk → Type 0
  Within w = (t : ℕ) → In t w.left → t < N

  within_all : (F : ℕ → Walk → Walk) → ((n : ℕ) (w : Walk) → n < N → Within w → Within (F n w)) → (ns : List ℕ) → ((t : ℕ) → In t ns → t < N) → (w : Walk)
      → Within w → Within (through F ns w)
  unfolding through
  within_all F step [] h w o = o
  within_all F step (n ∷ ns) h w o = within_all F step ns (λ t i. h t (inr i)) (F n w) (step n w (h n (inl refl)) o)

  within : (f n : ℕ) (w : Walk) → n < N → Within w → Within (visit f to n w)
  unfolding visit
  within zero n w h o = o
  within (suc f) n w h o =
      zero? (get_or w.marks n 0)
      (λ e. rw (visit_at f to n w e) (close (through (λ m u. visit f to m u) (to n) (mark n w))
      (within_all (λ m u. visit f to m u) (within f) (to n) (g.each n h) (mark n w) o)))
      (λ j e. rw (visit_past (suc f) to n w (λ z. omega arith)) o)
    where
      close : (v : Walk) → Within v → Within (leave n v)
      close v a t i = either (in_append t v.left (n ∷ []) i) (λ j. a t j) (λ j. either j (λ q. rw q h) (λ z. absurd z))

  postorder_below : (ms : List ℕ) (t : ℕ) → In t (postorder to N ms) → t < N
  unfolding postorder
  postorder_below ms t i = within N 0 (record { marks = ms; left = [] }) g.some (λ t i. absurd i) t i

pub order_below : (G : Graph) → Sound G → (t : ℕ) → In t (order_of G) → t < length G.nodes
unfolding order_of
order_below G s t i = postorder_below (targets G) (length G.nodes) (inner G s) (replicate 128 0) t i
