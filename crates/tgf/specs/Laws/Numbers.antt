-- Decimals and their inverse: `number_at` takes a decimal and a space off a text, and nothing else.
use Rattle.std.specs.Prelude.{◌≡◌, refl, Bool, true, false, List, [], ◌∷◌, ◌++◌, ◌⊎◌, ℕ, zero, suc, ◌+◌, ◌*◌, ◌-◌, ◌/◌, ◌%◌, ◌≤◌, ◌<◌, leb, ltb, eqb}
use Rattle.std.proofs.Common.{sym, ap, ◌∙◌, append_assoc, inl, inr, arith, le-leb, leb-true, lt-ltb, le-ltb, ltb-true, ltb-false, ne_eqb, eqb-true}
use Rattle.std.proofs.Math.Option.{Option, none, some}
use Rattle.std.proofs.lemmas.Bool.{eqb-false}
use Rattle.basis.specs.Guard.{guard}
use Rattle.basis.specs.Members.{split, clash, and_true}
use Rattle.tgf.specs.Lines.{digit, decimal}
use Rattle.tgf.specs.Read.{is_digit, number_on, number_at}

-- ---- what a test that passed tells

pub absurd_none : {A : Type 0} {X : Type 0} (v : A) → none ≡ some v → X
absurd_none v e = clash (cc)

pub some_is : {A : Type 0} (v w : A) → some v ≡ some w → v ≡ w
some_is v w e = cc

pub guard_some : {A : Type 0} (b : Bool) (o : Option A) (v : A) → guard b none o ≡ some v → (b ≡ true) × (o ≡ some v)
unfolding guard
guard_some true o v e = (refl, e)
guard_some false o v e = absurd_none v e

pub option : {A : Type 0} {X : Type 0} (o : Option A) → (o ≡ none → X) → ((p : A) → o ≡ some p → X) → X
option none f g = f refl
option (some p) f g = g p refl

pub is_digit_lem : (c : ℕ) → is_digit c ≡ true → (48 ≤ c) × (c ≤ 57)
is_digit_lem c e = let a = and_true (leb 48 c) (leb c 57) e in (leb-true 48 c a.0, leb-true c 57 a.1)

pub digit_is : (d : ℕ) → d < 10 → is_digit (digit d) ≡ true
digit_is d h = rw (le-leb 48 (48 + d) (omega arith), le-leb (48 + d) 57 (omega arith))

-- ---- decimals

decimal_one : (n : ℕ) → n < 10 → decimal n ≡ digit n ∷ []
unfolding decimal
decimal_one n h = rw (lt-ltb n 10 h)

decimal_two : (n : ℕ) → 10 ≤ n → n < 100 → decimal n ≡ digit (n / 10) ∷ digit (n % 10) ∷ []
unfolding decimal
decimal_two n l h = rw (le-ltb n 10 l, lt-ltb n 100 h)

decimal_three : (n : ℕ) → 100 ≤ n → decimal n ≡ digit (n / 100) ∷ digit (n / 10 % 10) ∷ digit (n % 10) ∷ []
unfolding decimal
decimal_three n l = rw (le-ltb n 10 (omega arith), le-ltb n 100 l)

-- one digit more
decimal_more : (n d : ℕ) → 1 ≤ n → n < 100 → d < 10 → decimal (10 * n + d) ≡ decimal n ++ (digit d ∷ [])
decimal_more n d a b h =
    let x : (10 * n + d) / 10 ≡ n = omega arith in
    let y : (10 * n + d) % 10 ≡ d = omega arith in
    split (ltb n 10)
    (λ t. let l : n < 10 = ltb-true n 10 t in
    rw (decimal_one n l, decimal_two (10 * n + d) (omega arith) (omega arith), x, y))
    (λ t. let l : 10 ≤ n = ltb-false n 10 t in
    let z : (10 * n + d) / 100 ≡ n / 10 = omega arith in
    rw (decimal_two n l b, decimal_three (10 * n + d) (omega arith), x, y, z))

-- ---- a number that was read is its decimal

on_step : (k n c : ℕ) (s : List ℕ) (m : ℕ) (r : List ℕ) → number_on (suc k) n (c ∷ s) ≡ some (m, r)
    → ((c ≡ 32) × (n ≡ m) × (s ≡ r)) ⊎ ((is_digit c ≡ true) × (number_on k (10 * n + (c - 48)) s ≡ some (m, r)))
unfolding number_on
on_step k n c s m r h =
    split (eqb c 32)
    (λ t. let e = some_is (n, s) (m, r) (rw (t, number_on) at h) in inl (eqb-true c 32 t, ap (λ p. p.0) e, ap (λ p. p.1) e))
    (λ t. inr (guard_some (is_digit c) _ (m, r) (rw (t, number_on) at h)))

on_last : (n : ℕ) (s : List ℕ) (m : ℕ) (r : List ℕ) → number_on 0 n s ≡ some (m, r) → (n ≡ m) × (s ≡ 32 ∷ r)
unfolding number_on
on_last n [] m r h = absurd_none (m, r) h
on_last n (c ∷ s) m r h =
    let g = guard_some (eqb c 32) (some (n, s)) (m, r) h in
    let e = some_is (n, s) (m, r) g.1 in
    (ap (λ p. p.0) e, rw (eqb-true c 32 g.0, ap (λ p. p.1) e))

abbrev Sound : ℕ → ℕ → Type 0
Sound k b =
    (n : ℕ) (s : List ℕ) (m : ℕ) (r : List ℕ) → 1 ≤ n → n < b → number_on k n s ≡ some (m, r)
    → (decimal n ++ s ≡ decimal m ++ (32 ∷ r)) × (m < 1000)

sound_last : Sound 0 1000
sound_last n s m r a b h = let e = on_last n s m r h in (rw (e.1, e.0), omega (arith, e.0))

sound_more : (k b : ℕ) → b ≤ 100 → Sound k (10 * b) → Sound (suc k) b
unfolding number_on
sound_more k b l f n [] m r x y h = absurd_none (m, r) h
sound_more k b l f n (c ∷ s) m r x y h = go (on_step k n c s m r h)
  where
    go : ((c ≡ 32) × (n ≡ m) × (s ≡ r)) ⊎ ((is_digit c ≡ true) × (number_on k (10 * n + (c - 48)) s ≡ some (m, r)))
        → (decimal n ++ (c ∷ s) ≡ decimal m ++ (32 ∷ r)) × (m < 1000)
    go (inl e) = (rw (e.0, e.1, e.2), omega (arith, e.1))
    go (inr e) =
        let d = is_digit_lem c e.0 in
        let w : digit (c - 48) ≡ c = omega (arith, d.0) in
        let ih = f (10 * n + (c - 48)) s m r (omega arith) (omega (arith, d.1)) e.1 in (
          sym (append_assoc (decimal n) (c ∷ []) s)
              ∙ ap (λ (t : List ℕ). t ++ s) (ap (λ (z : ℕ). decimal n ++ (z ∷ [])) (sym w)
              ∙ sym (decimal_more n (c - 48) x (omega arith) (omega (arith, d.1))))
              ∙ ih.0,
          ih.1,
        )

pub number_sound : (s : List ℕ) (m : ℕ) (r : List ℕ) → number_at s ≡ some (m, r) → (s ≡ decimal m ++ (32 ∷ r)) × (m < 1000)
unfolding number_at
number_sound [] m r h = absurd_none (m, r) h
number_sound (c ∷ s) m r h =
    let g = guard_some (is_digit c) _ (m, r) h in
    let d = is_digit_lem c g.0 in
    split (eqb c 48)
    (λ t. let e = on_last 0 s m r (rw t at g.1) in
    let z : decimal m ≡ 48 ∷ [] = rw (← e.0) (decimal_one 0 (omega arith)) in
    (rw (z, eqb-true c 48 t, e.1), omega (arith, e.0)))
    (λ t. let e = sound_more 1 10 (omega arith) (sound_more 0 100 (omega arith) sound_last) (c - 48) s m r (omega (arith, eqb-false c 48 t, d.0))
    (omega (arith, d.1)) (rw t at g.1) in
    let w : digit (c - 48) ≡ c = omega (arith, d.0) in
    (ap (λ (z : ℕ). z ∷ s) (sym w) ∙ sym (ap (λ (t : List ℕ). t ++ s) (decimal_one (c - 48) (omega (arith, d.1)))) ∙ e.0, e.1))

-- ---- a decimal is read as its number

on_end : (k n : ℕ) (r : List ℕ) → number_on k n (32 ∷ r) ≡ some (n, r)
unfolding number_on guard
on_end zero n r = refl
on_end (suc k) n r = refl

on_digit : (k n d : ℕ) (s : List ℕ) → d < 10 → number_on (suc k) n (digit d ∷ s) ≡ number_on k (10 * n + d) s
unfolding number_on guard
on_digit k n d s h =
    let t : eqb (48 + d) 32 ≡ false = ne_eqb (48 + d) 32 (λ q. let z : 48 + d ≡ 32 = q in omega arith) in
    let w : 48 + d - 48 ≡ d = omega arith in
    rw (t, number_on, digit_is d h, w)

at_zero : (s : List ℕ) → number_at (48 ∷ s) ≡ number_on 0 0 s
unfolding number_at guard
at_zero s = refl

at_digit : (d : ℕ) (s : List ℕ) → 1 ≤ d → d < 10 → number_at (digit d ∷ s) ≡ number_on 2 d s
unfolding number_at guard
at_digit d s l h =
    let t : eqb (48 + d) 48 ≡ false = ne_eqb (48 + d) 48 (λ q. let z : 48 + d ≡ 48 = q in omega arith) in
    let w : 48 + d - 48 ≡ d = omega arith in
    rw (digit_is d h, t, w)

pub number_complete : (n : ℕ) (r : List ℕ) → n < 1000 → number_at (decimal n ++ (32 ∷ r)) ≡ some (n, r)
number_complete n r h =
    split (ltb n 10)
    (λ t. let l : n < 10 = ltb-true n 10 t in
    rw (decimal_one n l)
    (split (eqb n 0)
    (λ u. let z : n ≡ 0 = eqb-true n 0 u in rw z (at_zero (32 ∷ r) ∙ on_end 0 0 r))
    (λ u. at_digit n (32 ∷ r) (omega (arith, eqb-false n 0 u)) l ∙ on_end 2 n r)))
    (λ t. let l : 10 ≤ n = ltb-false n 10 t in
    let x : 10 * (n / 10) + n % 10 ≡ n = omega arith in
    split (ltb n 100)
    (λ u. let b : n < 100 = ltb-true n 100 u in
    rw (decimal_two n l b)
    (at_digit (n / 10) (digit (n % 10) ∷ 32 ∷ r) (omega arith) (omega arith)
    ∙ on_digit 1 (n / 10) (n % 10) (32 ∷ r) (omega arith)
    ∙ on_end 1 (10 * (n / 10) + n % 10) r
    ∙ ap (λ (m : ℕ). some (m, r)) x))
    (λ u. let b : 100 ≤ n = ltb-false n 100 u in
    let y : 10 * (10 * (n / 100) + n / 10 % 10) + n % 10 ≡ n = omega arith in
    rw (decimal_three n b)
    (at_digit (n / 100) (digit (n / 10 % 10) ∷ digit (n % 10) ∷ 32 ∷ r) (omega arith) (omega arith)
    ∙ on_digit 1 (n / 100) (n / 10 % 10) (digit (n % 10) ∷ 32 ∷ r) (omega arith)
    ∙ on_digit 0 (10 * (n / 100) + n / 10 % 10) (n % 10) (32 ∷ r) (omega arith)
    ∙ on_end 0 (10 * (10 * (n / 100) + n / 10 % 10) + n % 10) r
    ∙ ap (λ (m : ℕ). some (m, r)) y)))

-- the first byte of a number is a digit
pub number_first : (c : ℕ) (s : List ℕ) (p : ℕ × List ℕ) → number_at (c ∷ s) ≡ some p → 48 ≤ c
unfolding number_at
number_first c s p h = (is_digit_lem c (guard_some (is_digit c) _ p h).0).0
