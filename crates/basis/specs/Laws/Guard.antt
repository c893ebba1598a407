-- How a chain of tests is left: by the test that fails, or past it.
use Rattle.std.specs.Prelude.{◌≡◌, Bool, true, false, not, ℕ, ◌≤◌, ◌<◌, leb, ltb, eqb}
use Rattle.std.proofs.Common.{sym, ◌∙◌, lt-ltb, le-ltb, le-leb, eq-eqb, ne_eqb}
use Rattle.std.proofs.lemmas.Bool.{lt-leb, not-true, not-false}
use Rattle.basis.specs.Guard.{guard}

module _ {X : Type 0} (bad on : X) where
  pub guard_no : (b : Bool) → b ≡ false → bad ≡ guard b bad on
  unfolding guard
  guard_no b e = rw e

  pub guard_yes : (b : Bool) (x : X) → b ≡ true → x ≡ on → x ≡ guard b bad on
  unfolding guard
  guard_yes b x e q = rw e q

  -- t, what a call gave, tested as `if !t { return bad; }`
  pub not_no : (b t : Bool) → t ≡ b → not t ≡ true → bad ≡ guard b bad on
  not_no b t e f = guard_no b (sym e ∙ not-true t f)

  pub not_yes : (b t : Bool) (x : X) → t ≡ b → not t ≡ false → x ≡ on → x ≡ guard b bad on
  not_yes b t x e f q = guard_yes b x (sym e ∙ not-false t f) q

  -- f, what a call gave, tested as `if f != n { return bad; }`
  pub eq_no : (f a n : ℕ) → (f ≡ n → ⊥) → f ≡ a → bad ≡ guard (eqb a n) bad on
  eq_no f a n h e = guard_no (eqb a n) (ne_eqb a n (λ q. h (e ∙ q)))

  pub eq_yes : (f a n : ℕ) (x : X) → f ≡ n → f ≡ a → x ≡ on → x ≡ guard (eqb a n) bad on
  eq_yes f a n x h e q = guard_yes (eqb a n) x (eq-eqb a n (sym e ∙ h)) q

  -- f tested as `if n <= f { return bad; }`
  pub lt_no : (f a n : ℕ) → n ≤ f → f ≡ a → bad ≡ guard (ltb a n) bad on
  lt_no f a n h e = guard_no (ltb a n) (le-ltb a n (rw e at h))

  pub lt_yes : (f a n : ℕ) (x : X) → f < n → f ≡ a → x ≡ on → x ≡ guard (ltb a n) bad on
  lt_yes f a n x h e q = guard_yes (ltb a n) x (lt-ltb a n (rw e at h)) q

  -- f tested as `if n < f { return bad; }`
  pub le_no : (f a n : ℕ) → n < f → f ≡ a → bad ≡ guard (leb a n) bad on
  le_no f a n h e = guard_no (leb a n) (lt-leb a n (rw e at h))

  pub le_yes : (f a n : ℕ) (x : X) → f ≤ n → f ≡ a → x ≡ on → x ≡ guard (leb a n) bad on
  le_yes f a n x h e q = guard_yes (leb a n) x (le-leb a n (rw e at h)) q

pub ruleset guards = (not_no, not_yes, eq_no, eq_yes, lt_no, lt_yes, le_no, le_yes)
