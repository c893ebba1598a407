-- Laws of post-order: the number that bounds the depth does not matter once it is the number of nodes.
use Rattle.std.specs.Prelude.{◌≡◌, ◌⊎◌, Bool, true, false, length, get_or, set, eqb}
use Rattle.std.proofs.Math.Path.{refl, sym, ap}
use Rattle.std.proofs.Common.{◌∙◌, inl, inr, not-suc-le-zero, le_trans, arith, length-set, get_or-set_same, get_or-set_other, eqb-true, eq-eqb, ne_eqb}
use mathlib.Core.List.{List, [], ◌∷◌, ◌++◌}
use Prim.Native.Nat.{ℕ, zero, suc, ◌+◌, ◌<◌, ◌≤◌}
use Rattle.std.proofs.lemmas.Bool.{eqb-false}
use Rattle.basis.specs.Members.{In, split}
use Rattle.labels.specs.Order.{Walk, mark, leave, through, visit}

abbrev is_zero : ℕ → ℕ
is_zero zero = 1
is_zero (suc k) = 0

pub zero? {ℓ} : {X : Type ℓ} (k : ℕ) → (k ≡ 0 → X) → ((j : ℕ) → k ≡ suc j → X) → X
zero? zero f g = f refl
zero? (suc j) f g = g j refl

-- how many of the nodes below k have no mark
unfoldable pub unseen : ℕ → List ℕ → ℕ
unseen zero ms = 0
unseen (suc k) ms = is_zero (get_or ms k 0) + unseen k ms

pub unseen_le : (k : ℕ) (ms : List ℕ) → unseen k ms ≤ k
unfolding unseen
unseen_le zero ms = omega arith
unseen_le (suc k) ms = zero? (get_or ms k 0) (λ e. rw e (omega (arith, unseen_le k ms))) (λ j e. rw e (omega (arith, unseen_le k ms)))

-- a node without a mark is counted
pub unseen_some : (k n : ℕ) (ms : List ℕ) → n < k → get_or ms n 0 ≡ 0 → 0 < unseen k ms
unfolding unseen
unseen_some zero n ms h e = absurd (not-suc-le-zero h)
unseen_some (suc k) n ms h e =
    split (eqb n k) (λ t. let q : get_or ms k 0 ≡ 0 = ap (λ (i : ℕ). get_or ms i 0) (sym (eqb-true n k t)) ∙ e in rw q (omega arith))
    (λ t. let d : n ≡ k → ⊥ = eqb-false n k t in let l : n < k = omega (arith, d) in omega (arith, unseen_some k n ms l e))

unseen_same : (k n : ℕ) (ms : List ℕ) → k ≤ n → unseen k (set ms n 1) ≡ unseen k ms
unfolding unseen
unseen_same zero n ms h = refl
unseen_same (suc k) n ms h = rw (get_or-set_other ms n k 1 0 (λ q. omega arith), unseen_same k n ms (omega arith))

-- and once it has one no longer
pub unseen_mark : (k n : ℕ) (ms : List ℕ) → n < k → n < length ms → get_or ms n 0 ≡ 0 → unseen k (set ms n 1) + 1 ≡ unseen k ms
unfolding unseen
unseen_mark zero n ms h l e = absurd (not-suc-le-zero h)
unseen_mark (suc k) n ms h l e =
    split (eqb n k)
    (λ t. let z : k ≡ n = sym (eqb-true n k t) in rw (z, get_or-set_same ms n 1 0 l, e, unseen_same n n ms (omega arith)) (omega arith))
    (λ t. let d : n ≡ k → ⊥ = eqb-false n k t in
    rw (get_or-set_other ms n k 1 0 (λ q. d (sym q))) (omega (arith, unseen_mark k n ms (omega (arith, d)) l e)))

-- ---- one visit

pub visit_at : (f : ℕ) (to : ℕ → List ℕ) (n : ℕ) (w : Walk) → get_or w.marks n 0 ≡ 0
    → visit (suc f) to n w ≡ leave n (through (λ m u. visit f to m u) (to n) (mark n w))
unfolding visit
visit_at f to n w e = rw (eq-eqb (get_or w.marks n 0) 0 e, visit)

pub visit_past : (f : ℕ) (to : ℕ → List ℕ) (n : ℕ) (w : Walk) → (get_or w.marks n 0 ≡ 0 → ⊥) → visit f to n w ≡ w
unfolding visit
visit_past zero to n w e = refl
visit_past (suc f) to n w e = rw (ne_eqb (get_or w.marks n 0) 0 e, visit)

-- targets are nodes, of which there are N
pub record Inner (to : ℕ → List ℕ) (N : ℕ) : Type 0 where
  pub some : 0 < N
  pub each : (n : ℕ) → n < N → (t : ℕ) → In t (to n) → t < N

-- a walk in which at most b nodes have no mark
pub record Ok (N b : ℕ) (w : Walk) : Type 0 where
  pub long : N ≤ length w.marks
  pub few : unseen N w.marks ≤ b

pub ok_mark : (N b n : ℕ) (w : Walk) → n < N → get_or w.marks n 0 ≡ 0 → Ok N (suc b) w → Ok N b (mark n w)
ok_mark N b n w h e o =
    record { long = rw length-set o.long; few = omega (arith, unseen_mark N n w.marks h (omega arith) e) }

ok_weak : (N b : ℕ) (w : Walk) → Ok N b w → Ok N (suc b) w
ok_weak N b w o = record { long = o.long; few = omega arith }

abbrev pub Below : ℕ → List ℕ → Type 0
Below N ns = (t : ℕ) → In t ns → t < N

module _ (N : ℕ) where
  pub through_ok : (F : ℕ → Walk → Walk) (b : ℕ) → ((n : ℕ) (w : Walk) → n < N → Ok N b w → Ok N b (F n w)) → (ns : List ℕ) (w : Walk) → Below N ns → Ok N b w
      → Ok N b (through F ns w)
  unfolding through
  through_ok F b step [] w h o = o
  through_ok F b step (n ∷ ns) w h o = through_ok F b step ns (F n w) (λ t i. h t (inr i)) (step n w (h n (inl refl)) o)

  through_same : (F H : ℕ → Walk → Walk) (b : ℕ) → ((n : ℕ) (w : Walk) → n < N → Ok N b w → Ok N b (H n w))
      → ((n : ℕ) (w : Walk) → n < N → Ok N b w → F n w ≡ H n w) → (ns : List ℕ) (w : Walk) → Below N ns → Ok N b w → through F ns w ≡ through H ns w
  unfolding through
  through_same F H b keep same [] w h o = refl
  through_same F H b keep same (n ∷ ns) w h o =
      rw (same n w (h n (inl refl)) o) (through_same F H b keep same ns (H n w) (λ t i. h t (inr i)) (keep n w (h n (inl refl)) o))

  module _ (to : ℕ → List ℕ) (g : Inner to N) where
    pub keeps : (f b n : ℕ) (w : Walk) → n < N → Ok N b w → Ok N b (visit f to n w)
    unfolding visit
    keeps zero b n w h o = o
    keeps (suc f) b n w h o =
        zero? (get_or w.marks n 0)
        (λ e. rw (visit_at f to n w e) (let z : Ok N b (through (λ m u. visit f to m u) (to n) (mark n w)) =
        through_ok (λ m u. visit f to m u) b (keeps f b) (to n) (mark n w) (g.each n h) (ok_mark N b n w h e (ok_weak N b w o)) in
        record { long = z.long; few = z.few }))
        (λ j e. rw (visit_past (suc f) to n w (λ q. omega arith)) o)

    more : (f n : ℕ) (w : Walk) → n < N → Ok N f w → visit f to n w ≡ visit (suc f) to n w
    unfolding visit
    more zero n w h o =
        zero? (get_or w.marks n 0)
        (λ e. absurd (not-suc-le-zero (le_trans (unseen_some N n w.marks h e) o.few)))
        (λ j e. sym (visit_past 1 to n w (λ q. omega arith)))
    more (suc f) n w h o =
        zero? (get_or w.marks n 0)
        (λ e. visit_at f to n w e ∙ ap (leave n) (through_same (λ m u. visit f to m u) (λ m u. visit (suc f) to m u) f (keeps (suc f) f) (more f) (to n)
        (mark n w) (g.each n h) (ok_mark N f n w h e o)) ∙ sym (visit_at (suc f) to n w e))
        (λ j e. visit_past (suc f) to n w (λ q. omega arith) ∙ sym (visit_past (suc (suc f)) to n w (λ q. omega arith)))

    -- the rule with the same number on both sides
    pub visit_new : (n : ℕ) (w : Walk) → n < N → Ok N N w → get_or w.marks n 0 ≡ 0
        → visit N to n w ≡ leave n (through (λ m u. visit N to m u) (to n) (mark n w))
    visit_new n w h o e = go N refl
      where
        go : (k : ℕ) → N ≡ k → visit N to n w ≡ leave n (through (λ m u. visit N to m u) (to n) (mark n w))
        go zero q = absurd (not-suc-le-zero (rw q at h))
        go (suc f) q =
            let o' : Ok N (suc f) w = record { long = o.long; few = rw (← q) o.few } in
            let same : through (λ m u. visit f to m u) (to n) (mark n w) ≡ through (λ m u. visit (suc f) to m u) (to n) (mark n w) =
            through_same (λ m u. visit f to m u) (λ m u. visit (suc f) to m u) f (keeps (suc f) f) (more f) (to n) (mark n w) (g.each n h)
            (ok_mark N f n w h e o') in
            rw q (visit_at f to n w e ∙ ap (leave n) same)
