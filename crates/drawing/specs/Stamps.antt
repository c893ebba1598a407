-- The groups that a source's edges have reached (`added_edges`), by a table of stamps: entry l is n + 1 once an edge of node n to
-- the group of first member l was met. Stamps of earlier sources are lower, so that nothing is cleared between two sources.
use Rattle.std.specs.Prelude.{◌≡◌, Bool, ℕ, ◌+◌, ◌-◌, ◌≤◌, ◌<◌, length, get_or, set, replicate, eqb, ltb}
use Rattle.std.proofs.Math.Path.{refl, sym, ap}
use Rattle.std.proofs.Common.{◌∙◌, get_or-set_same, get_or-set_other}
use Rattle.std.proofs.Math.Bool.{true, false, cond, not}
use mathlib.Core.List.{List, [], ◌∷◌, ◌++◌, map}
use native.Mathlib.Omega.{arith}
use Rattle.std.proofs.Math.ListN.{length-set, get_or-eq_default}
use Rattle.std.proofs.lemmas.List.{length-replicate, get_or-replicate}
use Rattle.std.proofs.Math.Seq.{set_out}
use borrow.Author.Tests.{eqb-true, eqb-false, eq-eqb, ne_eqb, lt-ltb, ltb-true, ltb-false}
use Rattle.basis.specs.Lists.{any, has}
use Rattle.basis.specs.Members.{split}
use Rattle.store.specs.declared.Edge.{Edge}
use Rattle.drawing.specs.Draw.{Sketch, edge_text, drawn_edges}

-- k: what stands for the target in `merged`
unfoldable pub keeps : List ℕ → ℕ → ℕ → Bool
keeps w k n = cond (ltb 0 k) (not (eqb (get_or w (k - 1) 0) (n + 1))) true

unfoldable pub marked : List ℕ → ℕ → ℕ → List ℕ
marked w k n = cond (ltb 0 k) (set w (k - 1) (n + 1)) w

module _ (w : List ℕ) (k n : ℕ) where
  pub keeps_plain : k ≡ 0 → keeps w k n ≡ true
  unfolding keeps
  keeps_plain e = rw e

  pub keeps_met : (k ≡ 0 → ⊥) → (b : Bool) → b ≡ eqb (get_or w (k - 1) 0) (n + 1) → keeps w k n ≡ not b
  unfolding keeps
  keeps_met f b q = rw (lt-ltb 0 k (let z : 0 < k = omega arith in z), q)

  pub marked_plain : k ≡ 0 → w ≡ marked w k n
  unfolding marked
  marked_plain e = rw e

  pub marked_met : (k ≡ 0 → ⊥) → (v : List ℕ) → v ≡ set w (k - 1) (n + 1) → v ≡ marked w k n
  unfolding marked
  marked_met f v q = rw (lt-ltb 0 k (let z : 0 < k = omega arith in z)) q

-- ---- the table

pub record Stamped (w : List ℕ) (n : ℕ) : Type 0 where
  pub long : length w ≡ 128
  pub low : (l : ℕ) → get_or w l 0 ≤ n

fresh_low : (l : ℕ) → get_or (replicate 128 0) l 0 ≤ 0
fresh_low l =
    split (ltb l 128) (λ t. rw (get_or-replicate {A = ℕ} 128 l 0 0 (ltb-true l 128 t)) (omega arith))
    (λ t. let h : length (replicate {A = ℕ} 128 0) ≤ l = rw (length-replicate {A = ℕ} 128 0) (ltb-false l 128 t) in
    rw (get_or-eq_default {A = ℕ} (replicate 128 0) 0 {n = l} h) (omega arith))

pub stamped_fresh : Stamped (replicate 128 0) 0
stamped_fresh = record { long = length-replicate {A = ℕ} 128 0; low = fresh_low }

pub stamped_more : (w : List ℕ) (n : ℕ) → Stamped w n → Stamped w (n + 1)
stamped_more w n S = record { long = S.long; low = λ l. omega (arith, S.low l) }

set_low : (w : List ℕ) (i v b : ℕ) → v ≤ b → ((j : ℕ) → get_or w j 0 ≤ b) → (j : ℕ) → get_or (set w i v) j 0 ≤ b
set_low w i v b h f j =
    split (eqb j i)
    (λ u. split (ltb i (length w))
    (λ t. rw (eqb-true j i u, get_or-set_same w i v 0 (ltb-true i (length w) t)) h)
    (λ t. rw (set_out w i v (ltb-false i (length w) t)) (f j)))
    (λ u. rw (get_or-set_other w i j v 0 (eqb-false j i u)) (f j))

pub stamped_set : (w : List ℕ) (k n : ℕ) → Stamped w (n + 1) → Stamped (marked w k n) (n + 1)
unfolding marked
stamped_set w k n S =
    split (ltb 0 k)
    (λ t. rw t (record { long = rw length-set S.long; low = set_low w (k - 1) (n + 1) (n + 1) (omega arith) S.low }))
    (λ t. rw t S)

-- ---- the merge marks

-- one entry a node, of at most `nodes` nodes
pub record Merging (m : List ℕ) (nodes : ℕ) : Type 0 where
  pub long : length m ≡ 128
  pub few : nodes ≤ 128
  pub most : (n : ℕ) → get_or m n 0 ≤ nodes

-- ---- the edges that are kept

module _ (D : Sketch) (e : Edge) (es : List Edge) (seen : List ℕ) where
  pub kept_single : ltb 0 (get_or D.merged e.target 0) ≡ false → drawn_edges D (e ∷ es) seen ≡ e ∷ drawn_edges D es seen
  unfolding drawn_edges
  kept_single t = rw (t, drawn_edges)

  module _ (t : ltb 0 (get_or D.merged e.target 0) ≡ true) where
    pub kept_met : has (get_or D.merged e.target 0 - 1) seen ≡ true → drawn_edges D (e ∷ es) seen ≡ drawn_edges D es seen
    unfolding drawn_edges
    kept_met u = rw (t, drawn_edges, u)

    pub kept_new : has (get_or D.merged e.target 0 - 1) seen ≡ false
        → drawn_edges D (e ∷ es) seen ≡ e ∷ drawn_edges D es ((get_or D.merged e.target 0 - 1) ∷ seen)
    unfolding drawn_edges
    kept_new u = rw (t, drawn_edges, u)

module _ (D : Sketch) (n : ℕ) where
  abbrev pub mark_at : Edge → ℕ
  mark_at e = get_or D.merged e.target 0

  unfoldable pub kept_in : List Edge → List ℕ → List Edge
  unfolding keeps marked
  kept_in [] w = []
  kept_in (e ∷ es) w =
      elim (keeps w (mark_at e) n) [ true ↦ e ∷ kept_in es (marked w (mark_at e) n) | false ↦ kept_in es (marked w (mark_at e) n) ]

  -- an edge's unit, or none
  unfoldable pub step_units : List ℕ → Edge → List (List ℕ)
  unfolding keeps edge_text
  step_units w e = cond (keeps w (mark_at e) n) (edge_text D n e ∷ []) []

  unfoldable pub units_left : List Edge → List ℕ → List (List ℕ)
  unfolding kept_in edge_text
  units_left es w = map (edge_text D n) (kept_in es w)

  pub units_none : (w : List ℕ) → units_left [] w ≡ []
  unfolding units_left kept_in
  units_none w = refl

  pub units_step : (e : Edge) (es : List Edge) (w : List ℕ) → units_left (e ∷ es) w ≡ step_units w e ++ units_left es (marked w (mark_at e) n)
  unfolding units_left kept_in step_units
  units_step e es w = split (keeps w (mark_at e) n) (λ t. rw (t, kept_in)) (λ t. rw (t, kept_in))

  record Agree (w seen : List ℕ) : Type 0 where
    same : (l : ℕ) → l < 128 → eqb (get_or w l 0) (n + 1) ≡ has l seen

  agree_set : (w seen : List ℕ) (k : ℕ) → length w ≡ 128 → k < 128 → Agree w seen → Agree (set w k (n + 1)) (k ∷ seen)
  agree_set w seen k h i A = record { same = each }
    where
      each : (l : ℕ) → l < 128 → eqb (get_or (set w k (n + 1)) l 0) (n + 1) ≡ has l (k ∷ seen)
      each l j =
          split (eqb l k)
          (λ t. rw (t, any, eqb-true l k t, get_or-set_same w k (n + 1) 0 (let z : k < length w = omega arith in z)) (eq-eqb (n + 1) (n + 1) refl))
          (λ t. rw (t, any, get_or-set_other w k l (n + 1) 0 (eqb-false l k t)) (A.same l j))

  -- a group that was met already
  agree_again : (w seen : List ℕ) (k : ℕ) → length w ≡ 128 → k < 128 → has k seen ≡ true → Agree w seen → Agree (set w k (n + 1)) seen
  agree_again w seen k h i m A = record { same = each }
    where
      each : (l : ℕ) → l < 128 → eqb (get_or (set w k (n + 1)) l 0) (n + 1) ≡ has l seen
      each l j =
          split (eqb l k)
          (λ t. rw (eqb-true l k t, get_or-set_same w k (n + 1) 0 (let z : k < length w = omega arith in z), m) (eq-eqb (n + 1) (n + 1) refl))
          (λ t. rw (get_or-set_other w k l (n + 1) 0 (eqb-false l k t)) (A.same l j))

  module _ (nodes : ℕ) (M : Merging D.merged nodes) where
    takes : (e : Edge) (es : List Edge) (w v : List ℕ) → keeps w (mark_at e) n ≡ true → v ≡ marked w (mark_at e) n → kept_in (e ∷ es) w ≡ e ∷ kept_in es v
    unfolding kept_in
    takes e es w v q z = rw (q, kept_in, z)

    skips : (e : Edge) (es : List Edge) (w v : List ℕ) → keeps w (mark_at e) n ≡ false → v ≡ marked w (mark_at e) n → kept_in (e ∷ es) w ≡ kept_in es v
    unfolding kept_in
    skips e es w v q z = rw (q, kept_in, z)

    kept_in_lem : (es : List Edge) (seen w : List ℕ) → length w ≡ 128 → Agree w seen → kept_in es w ≡ drawn_edges D es seen
    unfolding kept_in drawn_edges
    kept_in_lem [] seen w h A = refl
    kept_in_lem (e ∷ es) seen w h A =
        split (ltb 0 (mark_at e))
        (λ t.
        let z : 0 < mark_at e = ltb-true 0 (mark_at e) t in
        let f : mark_at e ≡ 0 → ⊥ = λ y. omega arith in
        let i : mark_at e - 1 < 128 = let x = M.most e.target in let y = M.few in omega arith in
        let mk = marked_met w (mark_at e) n f (set w (mark_at e - 1) (n + 1)) refl in
        let kp = keeps_met w (mark_at e) n f (has (mark_at e - 1) seen) (sym (A.same (mark_at e - 1) i)) in
        split (has (mark_at e - 1) seen)
        (λ u. skips e es w (set w (mark_at e - 1) (n + 1)) (kp ∙ ap not u) mk
        ∙ kept_in_lem es seen (set w (mark_at e - 1) (n + 1)) (rw length-set h) (agree_again w seen (mark_at e - 1) h i u A)
        ∙ sym (kept_met D e es seen t u))
        (λ u. takes e es w (set w (mark_at e - 1) (n + 1)) (kp ∙ ap not u) mk
        ∙ ap (λ (l : List Edge). e ∷ l) (kept_in_lem es ((mark_at e - 1) ∷ seen) (set w (mark_at e - 1) (n + 1)) (rw length-set h)
        (agree_set w seen (mark_at e - 1) h i A))
        ∙ sym (kept_new D e es seen t u)))
        (λ t.
        let z : mark_at e ≡ 0 = let y = ltb-false 0 (mark_at e) t in omega arith in
        takes e es w w (keeps_plain w (mark_at e) n z) (marked_plain w (mark_at e) n z)
        ∙ ap (λ (l : List Edge). e ∷ l) (kept_in_lem es seen w h A)
        ∙ sym (kept_single D e es seen t))

    -- before a source's first edge no group is met
    pub kept_start : (es : List Edge) (w : List ℕ) → Stamped w n → kept_in es w ≡ drawn_edges D es []
    kept_start es w S = kept_in_lem es [] w S.long (record { same = λ l i. ne_eqb (get_or w l 0) (n + 1) (λ q. never l q) })
      where
        never : (l : ℕ) → get_or w l 0 ≡ n + 1 → ⊥
        never l q = omega (arith, S.low l)
