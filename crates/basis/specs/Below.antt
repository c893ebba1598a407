-- A test that passes at every index below n, and the laws of a loop that goes up through them and leaves at the first that fails.
use Rattle.std.specs.Prelude.{◌≡◌, refl, Bool, true, false, ◌&&◌, not, ℕ, zero, suc, ◌+◌, ◌<◌, ◌≤◌, eqb}
use Rattle.std.proofs.Common.{sym, ap, ◌∙◌, ⊎_elim, arith, not-suc-le-zero, le_of_suc-le-suc, eq-or-lt_of_le, add-one, eq-eqb, ne_eqb}
use Rattle.std.proofs.Math.Bool.{and-false}
use Rattle.std.proofs.lemmas.Bool.{not-true, not-false}

unfoldable pub all_below : (ℕ → Bool) → ℕ → Bool
all_below p zero = true
all_below p (suc n) = all_below p n && p n

pub below_none : (p : ℕ → Bool) → all_below p 0 ≡ true
unfolding all_below
below_none p = refl

-- index i passes too: known as an equation, or as the flag t that `if !t { return .. }` let by
pub below_step : (p : ℕ → Bool) (i : ℕ) → all_below p i ≡ true → p i ≡ true → all_below p (i + 1) ≡ true
unfolding all_below
below_step p i h e = rw (add-one, h, e)

stop : (p : ℕ → Bool) (i n : ℕ) → i < n → p i ≡ false → all_below p n ≡ false
unfolding all_below
stop p i zero h e = absurd (not-suc-le-zero h)
stop p i (suc n) h e =
    ⊎_elim (λ q. ap (λ (b : Bool). all_below p n && b) (ap p (sym q) ∙ e) ∙ and-false (all_below p n))
    (λ l. ap (λ (b : Bool). b && p n) (stop p i n l e))
    (eq-or-lt_of_le (le_of_suc-le-suc h))

-- index i fails
pub below_fails : (p : ℕ → Bool) (i n : ℕ) → i < n → p i ≡ false → false ≡ all_below p n
below_fails p i n h e = sym (stop p i n h e)

-- the loop is over
pub below_whole : (p : ℕ → Bool) (i n : ℕ) → i ≤ n → n ≤ i → all_below p i ≡ true → true ≡ all_below p n
below_whole p i n h l e = let z : i ≡ n = omega arith in sym (rw z at e)

-- what the whole tells of one index
pub below_at : (p : ℕ → Bool) (n : ℕ) → all_below p n ≡ true → (i : ℕ) → i < n → p i ≡ true
below_at p n e i h = go (p i) refl
  where
    go : (b : Bool) → p i ≡ b → p i ≡ true
    go true q = q
    go false q = let z : ◌≡◌ {A = Bool} true false = sym e ∙ stop p i n h q in q ∙ sym z
