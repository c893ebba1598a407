-- One pass over the edges in their order, with a mark for each node: from a source that has a mark the target gets one, and node 0 has
-- its own at first. A mark stands only where a path leads, so that no node is unreached where each has one; where the edges stand in
-- another order a node may lack its mark, and the queue decides.
use Rattle.std.proofs.Math.Path.{◌≡◌, refl}
use Rattle.std.proofs.Common.{sym, ◌∙◌, inl, inr, add-one, get_or-set_other}
use Rattle.std.specs.Prelude.{Bool, cond, List, [], ◌∷◌, length, get_or, set, replicate, eqb, None}
use Rattle.std.proofs.Math.Bool.{true, false, not}
use Rattle.std.proofs.Math.Option.{none}
use Prim.Native.Nat.{ℕ, zero, suc, ◌+◌, ◌<◌, ◌≤◌}
use native.Mathlib.Omega.{arith}
use borrow.Author.Tests.{eqb-true, eqb-false, eq-eqb, ne_eqb}
use Rattle.basis.specs.Lists.{first, has, upto}
use Rattle.basis.specs.Members.{split, In}
use Rattle.basis.specs.Below.{all_below, below_step, below_fails, below_at}
use Rattle.store.specs.declared.Size.{Size}
use Rattle.store.specs.Graph.{reached, unreached}
use Rattle.store.specs.Table.{graph_in, edge_in, Stored, nodes_count}
use Rattle.links.specs.Build.{Chains}
use Rattle.links.specs.Paths.{Path, here, along, upto_in, path_reached}
use Rattle.links.specs.Queue.{edge_there, whole, zeros, lowest_node}

-- ---- the definitions

-- edge i: its target gets a mark if its source has one
unfoldable pub passed_on : List ℕ → List ℕ → ℕ → List ℕ
passed_on g w i = cond (eqb (get_or w (edge_in g i).source 0) 0) w (set w (edge_in g i).target 1)

-- the first i edges, one after the other
unfoldable pub passed_to : List ℕ → List ℕ → ℕ → List ℕ
passed_to g w zero = w
passed_to g w (suc i) = passed_on g (passed_to g w i) i

-- node n has a mark
unfoldable pub has_mark : List ℕ → ℕ → Bool
has_mark w n = not (eqb (get_or w n 0) 0)

-- node 0 alone has one
abbrev pub root_mark : List ℕ
root_mark = set (replicate 256 0) 0 1

-- every node has a mark after the pass
unfoldable pub swept_in : List ℕ → Size → Bool
unfolding passed_to has_mark
swept_in g s = all_below (has_mark (passed_to g root_mark s.edges)) s.nodes

-- ---- the ways out of the code

-- a and b are the ends that reads gave
module _ (g w : List ℕ) (i a : ℕ) where
  pub pass_none : get_or w a 0 ≡ 0 → a ≡ (edge_in g i).source → w ≡ passed_on g w i
  unfolding passed_on
  pass_none z q = rw (← q, eq-eqb (get_or w a 0) 0 z)

  pub pass_mark : (b : ℕ) → (get_or w a 0 ≡ 0 → ⊥) → a ≡ (edge_in g i).source → b ≡ (edge_in g i).target → set w b 1 ≡ passed_on g w i
  unfolding passed_on
  pass_mark b d q p = rw (← q, ← p, ne_eqb (get_or w a 0) 0 d)

pub ruleset passes = (pass_none, pass_mark)

module _ (g w : List ℕ) where
  pub sweep_none : w ≡ passed_to g w 0
  unfolding passed_to
  sweep_none = refl

  pub sweep_next : (v u : List ℕ) (i : ℕ) → v ≡ passed_to g w i → u ≡ passed_on g v i → u ≡ passed_to g w (i + 1)
  unfolding passed_to
  sweep_next v u i q e = rw (add-one i, e, q)

  pub sweep_all : (v : List ℕ) (i m : ℕ) → v ≡ passed_to g w i → i ≤ m → m ≤ i → v ≡ passed_to g w m
  sweep_all v i m q a b = let z : m ≡ i = omega arith in rw z q

pub ruleset sweeps = (sweep_none, sweep_next, sweep_all)

pub mark_next : (w : List ℕ) (i : ℕ) → all_below (has_mark w) i ≡ true → (get_or w i 0 ≡ 0 → ⊥) → all_below (has_mark w) (i + 1) ≡ true
unfolding has_mark
mark_next w i h d = below_step (has_mark w) i h (rw (ne_eqb (get_or w i 0) 0 d))

pub mark_stop : (w : List ℕ) (i n : ℕ) → get_or w i 0 ≡ 0 → i < n → false ≡ all_below (has_mark w) n
unfolding has_mark
mark_stop w i n z h = below_fails (has_mark w) i n h (rw (eq-eqb (get_or w i 0) 0 z))

pub swept_is : (g v : List ℕ) (s : Size) (r : Bool) → v ≡ passed_to g root_mark s.edges → r ≡ all_below (has_mark v) s.nodes → r ≡ swept_in g s
unfolding swept_in
swept_is g v s r q e = rw (e, q)

-- ---- a mark for each: no node is unreached

first_none : (p : ℕ → Bool) (l : List ℕ) → ((n : ℕ) → In n l → p n ≡ false) → first p l ≡ none
first_none p [] f = refl
first_none p (n ∷ l) f = rw (f n (inl refl), first) (first_none p l (λ m i. f m (inr i)))

module _ (g : List ℕ) (s : Size) (S : Stored g s) where
  start_path : (n : ℕ) → (get_or root_mark n 0 ≡ 0 → ⊥) → Path (graph_in g s) 0 n
  start_path n o =
      split (eqb n 0)
      (λ t. rw (eqb-true n 0 t) here)
      (λ t. absurd (o (get_or-set_other (replicate 256 0) 0 n 1 0 (eqb-false n 0 t) ∙ zeros 256 n)))

  pass_path : (w : List ℕ) (i : ℕ) → i < s.edges → ((n : ℕ) → (get_or w n 0 ≡ 0 → ⊥) → Path (graph_in g s) 0 n) → (n : ℕ)
      → (get_or (passed_on g w i) n 0 ≡ 0 → ⊥) → Path (graph_in g s) 0 n
  unfolding passed_on
  pass_path w i l f n o =
      split (eqb (get_or w (edge_in g i).source 0) 0)
      (λ t. f n (rw t at o))
      (λ t. split (eqb n (edge_in g i).target)
      (λ u. rw (eqb-true n (edge_in g i).target u)
      (along (edge_in g i) (edge_there g s S i l) (f (edge_in g i).source (eqb-false (get_or w (edge_in g i).source 0) 0 t))))
      (λ u. f n (λ z. (rw t at o) (get_or-set_other w (edge_in g i).target n 1 0 (eqb-false n (edge_in g i).target u) ∙ z))))

  sweep_path : (i : ℕ) → i ≤ s.edges → (n : ℕ) → (get_or (passed_to g root_mark i) n 0 ≡ 0 → ⊥) → Path (graph_in g s) 0 n
  unfolding passed_to
  sweep_path zero l n o = start_path n o
  sweep_path (suc i) l n o = pass_path (passed_to g root_mark i) i l (sweep_path i (omega arith)) n o

  has_mark_lem : (w : List ℕ) (n : ℕ) → has_mark w n ≡ true → get_or w n 0 ≡ 0 → ⊥
  unfolding has_mark
  has_mark_lem w n h z = let f : ◌≡◌ {A = ℕ} 0 1 = cc in omega arith

  pub swept_whole : swept_in g s ≡ true → unreached (graph_in g s) ≡ none
  unfolding swept_in unreached
  swept_whole e = first_none (λ n. not (has n (reached (graph_in g s)))) (upto (length (graph_in g s).nodes) 0) there
    where
      there : (n : ℕ) → In n (upto (length (graph_in g s).nodes) 0) → not (has n (reached (graph_in g s))) ≡ false
      there n i =
          let l : n < s.nodes = omega (arith, (upto_in (length (graph_in g s).nodes) 0 n i).1, nodes_count g s S) in
          let h : has_mark (passed_to g root_mark s.edges) n ≡ true = below_at (has_mark (passed_to g root_mark s.edges)) s.nodes e n l in
          rw (path_reached (graph_in g s) (whole g s S) n (sweep_path s.edges (omega arith) n (has_mark_lem (passed_to g root_mark s.edges) n h)))

-- b is what the pass gave
pub swept_lowest : (g : List ℕ) (s : Size) (ls : List ℕ) (b : Bool) → b ≡ true → b ≡ swept_in g s → Chains g s ls → None ≡ lowest_node (unreached (graph_in g s))
swept_lowest g s ls b t q C = rw (swept_whole g s C.stored (sym q ∙ t))
