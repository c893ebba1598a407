-- The length of an indent before its first byte is written: 5 bytes a level above, 2 fewer where it is the last, and 7 for
-- the line's own.
use Rattle.std.specs.Prelude.{◌≡◌, refl, Bool, true, false, List, [], ◌∷◌, ℕ, zero, suc, ◌+◌, ◌*◌, ◌-◌, ◌/◌, ◌%◌, ◌^◌, ◌≤◌, ◌<◌, length, get_or, eqb}
use Rattle.std.proofs.Common.{sym, ap, ◌∙◌, mod-lt, mod-eq_of_lt, arith, length-append, pow_pos, lit<, Fits}
use Rattle.std.proofs.Math.Nat.{mod-one}
use Rattle.std.proofs.lemmas.Nat.{mod-pow-add, ones_cat, ones-le}
use Rattle.std.specs.Int.Count.{ones}
use Rattle.std.specs.Int.{w64}
use Rattle.texts.specs.Indent.{older, deepest, above, indent}
use Rattle.texts.specs.MarkBits.{digit, bit, marks_at}
use Rattle.texts.specs.Shown.{shown_first, above_text, next, own_of, own_none, deepest_size}

-- how many marks are last
unfoldable pub last_count : List Bool → ℕ
last_count [] = 0
last_count (true ∷ ms) = suc (last_count ms)
last_count (false ∷ ms) = last_count ms

-- ---- a word's set bits

ones_digit : (d : ℕ) → d < 2 → (ms : List Bool) → last_count (eqb d 1 ∷ ms) ≡ last_count ms + ones d
unfolding last_count ones
ones_digit zero h ms = omega arith
ones_digit (suc zero) h ms = omega arith
ones_digit (suc (suc d)) h ms = let z : ⊥ = omega arith in absurd z

count_word : (ws : List ℕ) (k b : ℕ) → b ≤ 64 → last_count (marks_at ws (64 * k + b)) ≡ last_count (marks_at ws (64 * k)) + ones (get_or ws k 0 % 2 ^ b)
unfolding marks_at bit digit ones
count_word ws k zero h =
    let z : 64 * k + 0 ≡ 64 * k = omega arith in
    rw (z, mod-one) (omega arith)
count_word ws k (suc b) h =
    let z : 64 * k + suc b ≡ suc (64 * k + b) = omega arith in
    let q : (64 * k + b) / 64 ≡ k = omega arith in
    let p : (64 * k + b) % 64 ≡ b = omega arith in
    let y : suc b ≡ 1 + b = omega arith in
    let w = get_or ws k 0 in
    let d : w / 2 ^ b % 2 < 2 = mod-lt (w / 2 ^ b) (lit< tt) in
    let o : ones (w % 2 ^ (1 + b)) ≡ ones (w / 2 ^ b % 2) + ones (w % 2 ^ b) =
    ap ones (mod-pow-add w 1 b) ∙ ones_cat b (w / 2 ^ b % 2) (w % 2 ^ b) (mod-lt w (pow_pos b)) in
    rw (z, q, p, ones_digit (w / 2 ^ b % 2) d (marks_at ws (64 * k + b)), count_word ws k b (omega arith), y, o) (omega arith)

pub ones_word : (w : ℕ) → w < 18446744073709551616 → ones w ≡ ones (w % 18446744073709551616)
ones_word w h = rw (mod-eq_of_lt h)

pub ones_small : (w : ℕ) → w < 18446744073709551616 → ones w ≤ 64
ones_small w h = ones-le 64 w h

pub ones_fits : (w : ℕ) → w < 18446744073709551616 → Fits w64 (ones w)
ones_fits w h = record { fits = omega (arith, ones-le 64 w h) }

-- ---- the loop over the words

pub lasts_start : (ws : List ℕ) → 0 ≡ last_count (marks_at ws (64 * 0))
unfolding last_count marks_at
lasts_start ws = refl

pub lasts_more : (ws : List ℕ) (k s r : ℕ) → s ≡ last_count (marks_at ws (64 * k)) → r ≡ ones (get_or ws k 0 % 18446744073709551616)
    → s + r ≡ last_count (marks_at ws (64 * (k + 1)))
lasts_more ws k s r e q =
    let z : 64 * (k + 1) ≡ 64 * k + 64 = omega arith in
    rw (z, e, q) (sym (count_word ws k 64 (omega arith)))

pub lasts_end : (ws : List ℕ) (n k s p r : ℕ) → s ≡ last_count (marks_at ws (64 * k)) → k ≤ n / 64 → n / 64 ≤ k → p ≡ 2 ^ (n % 64)
    → r ≡ ones (get_or ws (n / 64) 0 % p % 18446744073709551616) → p ≤ 9223372036854775808 → 0 < p → s + r ≡ last_count (marks_at ws n)
lasts_end ws n k s p r e h g q f l i =
    let z : k ≡ n / 64 = omega arith in
    let y : n ≡ 64 * (n / 64) + n % 64 = omega arith in
    let w = get_or ws (n / 64) 0 in
    let u : w % p < p = mod-lt w i in
    let v : w % p % 18446744073709551616 ≡ w % p = mod-eq_of_lt (omega arith) in
    let t : last_count (marks_at ws n) ≡ last_count (marks_at ws (64 * (n / 64))) + ones (w % 2 ^ (n % 64)) =
    ap (λ (x : ℕ). last_count (marks_at ws x)) y ∙ count_word ws (n / 64) (n % 64) (omega arith) in
    rw (t, ← q, e, z, f, v)

-- ---- the length

older_size : (m : Bool) (ms : List Bool) → length (older m) + 2 * last_count (m ∷ ms) ≡ 5 + 2 * last_count ms
unfolding older last_count
older_size true ms = omega arith
older_size false ms = omega arith

older_most : (m : Bool) → length (older m) ≤ 5
unfolding older
older_most true = omega arith
older_most false = omega arith

above_none : (top : Bool) (ws : List ℕ) → length (above_text top ws (shown_first top)) ≡ 0
unfolding above_text above marks_at shown_first
above_none true ws = refl
above_none false ws = refl

above_length : (top : Bool) (ws : List ℕ) (k : ℕ)
    → (length (above_text top ws (shown_first top + k)) + 2 * last_count (marks_at ws (shown_first top + k)) ≡ 5 * k + 2 * last_count (marks_at ws (shown_first top)))
    × (length (above_text top ws (shown_first top + k)) ≤ 5 * k)
unfolding marks_at
above_length top ws zero =
    let z : shown_first top + 0 ≡ shown_first top = omega arith in
    (rw z (omega (arith, above_none top ws)), rw z (omega (arith, above_none top ws)))
above_length top ws (suc k) =
    let i = shown_first top + k in
    let z : shown_first top + suc k ≡ suc (shown_first top + k) = omega arith in
    let ih = above_length top ws k in
    let g : length (above_text top ws (suc i)) ≡ length (above_text top ws i) + length (older (bit ws i)) =
    ap length (next top ws i (omega arith)) ∙ length-append (above_text top ws i) (older (bit ws i)) in (
      rw z (omega (arith, g, ih.0, older_size (bit ws i) (marks_at ws i))),
      rw z (omega (arith, g, ih.1, older_most (bit ws i))),
    )

-- ---- ways out of `length_of`; f is what `first` gave, a and s count the last marks above the line and those not shown

length_is : (top : Bool) (ws : List ℕ) (c f : ℕ) → f < c → f ≡ shown_first top
    → (length (indent top (marks_at ws c)) + 2 * last_count (marks_at ws (c - 1)) ≡ 5 * (c - 1 - f) + 7 + 2 * last_count (marks_at ws f))
    × (length (indent top (marks_at ws c)) ≤ 5 * (c - 1 - f) + 7)
length_is top ws c f h e =
    let m = bit ws (c - 1) in
    let t = above_text top ws (c - 1) in
    let z : shown_first top + (c - 1 - f) ≡ c - 1 = omega arith in
    let g = rw z at (above_length top ws (c - 1 - f)) in
    let l : length (indent top (marks_at ws c)) ≡ length t + 7 =
    ap length (own_of top ws c f h e) ∙ length-append t (deepest m) ∙ ap (λ (n : ℕ). length t + n) (deepest_size m) in
    (rw (l, e) (omega (arith, g.0)), rw l (omega (arith, g.1)))

pub length_none : (top : Bool) (ws : List ℕ) (c f : ℕ) → c ≤ f → f ≡ shown_first top → 0 ≡ length (indent top (marks_at ws c))
length_none top ws c f h e = rw (own_none top ws (c) (omega arith))

pub length_less : (top : Bool) (ws : List ℕ) (c f a s : ℕ) → f < c → f ≡ shown_first top → a ≡ last_count (marks_at ws (c - 1))
    → s ≡ last_count (marks_at ws f) → 2 * a ≤ 5 * (c - 1 - f) + 7 + 2 * s
length_less top ws c f a s h e p q = omega (arith, (length_is top ws c f h e).0)

pub length_some : (top : Bool) (ws : List ℕ) (c f a s : ℕ) → f < c → f ≡ shown_first top → a ≡ last_count (marks_at ws (c - 1))
    → s ≡ last_count (marks_at ws f) → 5 * (c - 1 - f) + 7 + 2 * s - 2 * a ≡ length (indent top (marks_at ws c))
length_some top ws c f a s h e p q = omega (arith, (length_is top ws c f h e).0)

pub length_most : (top : Bool) (ws : List ℕ) (c f a s : ℕ) → f < c → f ≡ shown_first top → a ≡ last_count (marks_at ws (c - 1))
    → s ≡ last_count (marks_at ws f) → c ≤ 4160 → 5 * (c - 1 - f) + 7 + 2 * s - 2 * a ≤ 20802
length_most top ws c f a s h e p q l = omega (arith, (length_is top ws c f h e).0, (length_is top ws c f h e).1)
