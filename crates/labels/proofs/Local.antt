-- A rule looks at the targets of its node only; so, "where the graph has no cycle, 'already' may be dropped from both rules".
use Rattle.std.specs.Prelude.{◌≡◌, ◌⊎◌, Bool, cond, ◌||◌, ℕ, eqb}
use Rattle.std.proofs.Math.Path.{refl}
use Rattle.std.proofs.Common.{sym, ◌∙◌, subst, inr}
use Rattle.std.proofs.Math.Logic.{inl}
use Rattle.std.proofs.Math.Bool.{true}
use mathlib.Core.List.{List, [], ◌∷◌, map, reverse}
use Rattle.basis.specs.Lists.{any, all, has}
use Rattle.basis.specs.Members.{In, split, either, map_in}
use Rattle.store.specs.declared.ConflictEdge.{ConflictEdge}
use Rattle.store.specs.declared.ConflictEdge.TheVariants as W
use Rattle.store.specs.declared.Edge.{Edge}
use Rattle.store.specs.Graph.{Graph, out}
use Rattle.labels.specs.Ordered.{Acyclic}
use Rattle.labels.specs.Runs.{Run, add_to, runs_of, every_run, some_run}
use Rattle.labels.specs.Labels.{targets, order_of, can_install, is_lacking, passing, installables, missings, installable, missing}
use Rattle.labels.specs.Labels.{has_unresolved}
use Rattle.labels.specs.Facts.{any_same, all_same, reverse_in, in_map, Sound, order_ordered, settled}

-- ---- runs and targets

-- a target in a run is the target of one of the edges
from_add : (q n : ℕ) (R : List Run) (r : Run) (t : ℕ) → In r (add_to q n R) → In t r.to → (t ≡ n) ⊎ ((s : Run) × In s R × In t s.to)
from_add q n [] r t (inl e) i = either (rw e at i) (λ k. inl k) (λ z. absurd z)
from_add q n [] r t (inr z) i = absurd z
from_add q n (s ∷ R) r t j i =
    split (eqb q s.req)
    (λ u. either (rw (u, add_to) at j)
    (λ e. either (rw e at i) (λ k. inl k) (λ k. inr (s, inl refl, k)))
    (λ k. inr (r, inr k, i)))
    (λ u. either (rw (u, add_to) at j) (λ e. either (rw e at i) (λ k. inl k) (λ z. absurd z)) (λ k. inr (r, k, i)))

from_runs : (es : List Edge) (r : Run) (t : ℕ) → In r (runs_of es) → In t r.to → In t (map (λ e. e.target) es)
from_runs [] r t j i = absurd j
from_runs (e ∷ es) r t j i = go (λ s k l. from_runs es s t k l) e.weight refl
  where
    go : ((s : Run) → In s (runs_of es) → In t s.to → In t (map (λ e. e.target) es)) → (w : ConflictEdge) → e.weight ≡ w
        → In t (map (λ e. e.target) (e ∷ es))
    go rest (W.Requires q) p = either (from_add q e.target (runs_of es) r t (rw (p, runs_of) at j) i) (λ k. inl k) (λ k. inr (rest k.0 k.1 k.2))
    go rest (W.Conflict c) p = inr (rest r (rw (p, runs_of) at j) i)

every_same : (p q : ℕ → Bool) (es : List Edge) → ((t : ℕ) → In t (map (λ e. e.target) es) → p t ≡ q t) → every_run p (runs_of es) ≡ every_run q (runs_of es)
every_same p q es h =
    all_same (λ (r : Run). any p r.to) (λ (r : Run). any q r.to) (runs_of es) (λ r j. any_same p q r.to (λ t i. h t (from_runs es r t j i)))

some_same : (p q : ℕ → Bool) (es : List Edge) → ((t : ℕ) → In t (map (λ e. e.target) es) → p t ≡ q t) → some_run p (runs_of es) ≡ some_run q (runs_of es)
some_same p q es h =
    any_same (λ (r : Run). all p r.to) (λ (r : Run). all q r.to) (runs_of es) (λ r j. all_same p q r.to (λ t i. h t (from_runs es r t j i)))

module _ (G : Graph) (n : ℕ) where
  in_targets : (t : ℕ) → In t (map (λ e. e.target) (out G n)) → In t (targets G n)
  unfolding targets
  in_targets t i =
      let r = in_map (λ (e : Edge). e.target) (out G n) t i in
      rw r.2 (map_in (λ (e : Edge). e.target) r.0 (reverse (out G n)) (reverse_in r.0 (out G n) r.1))

  -- a rule looks at the targets of its node only
  pub install_local : (p q : ℕ → Bool) → ((t : ℕ) → In t (targets G n) → p t ≡ q t) → can_install G p n ≡ can_install G q n
  unfolding can_install
  install_local p q h = rw (every_same p q (out G n) (λ t i. h t (in_targets t i)))

  pub lacking_local : (p q : ℕ → Bool) → ((t : ℕ) → In t (targets G n) → p t ≡ q t) → is_lacking G p n ≡ is_lacking G q n
  unfolding is_lacking
  lacking_local p q h = rw (some_same p q (out G n) (λ t i. h t (in_targets t i)))

-- ---- "already" may be dropped

missings_are : (G : Graph) → has_unresolved G ≡ true → missings G ≡ passing (is_lacking G) (order_of G) (1 ∷ [])
unfolding missings
missings_are G u = rw (u, cond)

module _ (G : Graph) (s : Sound G) (no-cycle : Acyclic (targets G)) where
  -- "where the graph has no cycle, 'already' may be dropped": installable by the rule with `installable` itself
  pub installable_settled : (n : ℕ) → In n (order_of G) → installable G n ≡ can_install G (installable G) n
  unfolding installables
  installable_settled n i = settled (targets G) (can_install G) (install_local G) (Acyclic (targets G)) no-cycle [] (order_of G) (order_ordered G s) n i

  -- unresolved, or missing by the rule with `missing` itself
  pub missing_settled : has_unresolved G ≡ true → (n : ℕ) → In n (order_of G) → missing G n ≡ eqb n 1 || is_lacking G (missing G) n
  missing_settled u n i =
      subst (λ (l : List ℕ). has n l ≡ eqb n 1 || is_lacking G (λ t. has t l) n) (sym (missings_are G u))
      (settled (targets G) (is_lacking G) (lacking_local G) (Acyclic (targets G)) no-cycle (1 ∷ []) (order_of G) (order_ordered G s) n i ∙ rw (alone n))
    where
      alone : (n : ℕ) → has n (1 ∷ []) ≡ eqb n 1
      alone n = split (eqb n 1) (λ q. rw (q, any)) (λ q. rw (q, any))
