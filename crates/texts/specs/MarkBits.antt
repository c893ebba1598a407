-- The marks as bits: level i, counted from 0 at the top, is digit i % 64 of word i / 64.
use Rattle.std.specs.Prelude.{◌≡◌, Bool, true, false, cond, List, [], ◌∷◌, ℕ, zero, suc, ◌+◌, ◌*◌, ◌-◌, ◌/◌, ◌%◌, ◌^◌, ◌≤◌, ◌<◌, length, get_or, set, drop, eqb, ltb}
use Rattle.std.proofs.Common.{sym, ap, ◌∙◌, mod-lt, mul_assoc, arith, pow_pos, pow_mono, pow-add, shl_exact, lit<, Fits}
use Rattle.std.proofs.Math.Nat.{mul-add-mod_self_right}
use Rattle.std.proofs.Math.Pow.{field, high, mod-mod-pow}
use Rattle.std.specs.Int.{w64}
use Rattle.texts.specs.Indent.{most}
use Rattle.texts.specs.declared.Indenter.{Indenter}

-- digit b of the word w
unfoldable pub digit : ℕ → ℕ → ℕ
digit w b = w / 2 ^ b % 2

-- level i's mark
unfoldable pub bit : List ℕ → ℕ → Bool
unfolding digit
bit ws i = eqb (digit (get_or ws (i / 64) 0) (i % 64)) 1

-- the marks of the n upper levels, the deepest first
unfoldable pub marks_at : List ℕ → ℕ → List Bool
unfolding bit
marks_at ws zero = []
marks_at ws (suc n) = bit ws n ∷ marks_at ws n

unfoldable pub marks_in : Indenter → List Bool
unfolding marks_at
marks_in x = marks_at x.levels x.count

-- `push_level_with_order`; where `most` levels are held, none is pushed
unfoldable pub pushed : Bool → List Bool → List Bool
pushed last ms = cond (ltb (length ms) most) (last ∷ ms) ms

-- `set_last` (which panics where there is no level; here nothing is changed)
abbrev pub last_set : List Bool → List Bool
last_set [] = []
last_set (m ∷ ms) = true ∷ ms

-- the l upper levels
unfoldable pub upper : ℕ → List Bool → List Bool
upper l ms = drop (length ms - l) ms

unfoldable pub kept_of : ℕ → ℕ → ℕ
kept_of count l = cond (ltb l count) l count

-- w with the mark as digit b, and nothing above it
unfoldable pub marked : ℕ → ℕ → Bool → ℕ
marked w b true = w % 2 ^ b + 2 ^ b
marked w b false = w % 2 ^ b

-- ---- the indenters themselves, with the bits that no level holds

-- x with n levels and one more, or as it is where there is no place for it
unfoldable pub put_at : Indenter → ℕ → Bool → Indenter
unfolding marked
put_at x n m =
    cond (ltb n most)
    (record { levels = set x.levels (n / 64) (marked (get_or x.levels (n / 64) 0) (n % 64) m); count = n + 1; top = x.top })
    x

unfoldable pub last_at : Indenter → Indenter
unfolding marked
last_at x =
    cond (eqb x.count 0) x
    (record {
      levels = set x.levels ((x.count - 1) / 64) (marked (get_or x.levels ((x.count - 1) / 64) 0) ((x.count - 1) % 64) true);
      count = x.count;
      top = x.top;
    })

-- ---- lent marks: back to l of the c levels, and one more

unfoldable pub level_count : ℕ → ℕ → ℕ
unfolding kept_of
level_count c l = cond (ltb (kept_of c l) most) (kept_of c l + 1) c

unfoldable pub level_words : List ℕ → ℕ → ℕ → Bool → List ℕ
unfolding kept_of marked
level_words ws c l m =
    cond (ltb (kept_of c l) most) (set ws (kept_of c l / 64) (marked (get_or ws (kept_of c l / 64) 0) (kept_of c l % 64) m)) ws

-- ---- one word

marked_is : (w b : ℕ) (m : Bool) → marked w b m ≡ cond m 1 0 * 2 ^ b + w % 2 ^ b
unfolding marked
marked_is w b true = omega arith
marked_is w b false = omega arith

pub digit_same : (w b : ℕ) (m : Bool) → digit (marked w b m) b ≡ cond m 1 0
unfolding digit
digit_same w b true = rw (marked_is, high 1 b (mod-lt w (pow_pos b)))
digit_same w b false = rw (marked_is, high 0 b (mod-lt w (pow_pos b)))

low_same : (k w d e : ℕ) → (k * 2 ^ (d + e) + w % 2 ^ (d + e)) % 2 ^ e ≡ w % 2 ^ e
low_same k w d e =
    let q : k * 2 ^ (d + e) ≡ k * 2 ^ d * 2 ^ e = rw pow-add (sym (mul_assoc k (2 ^ d) (2 ^ e))) in
    rw q (mul-add-mod_self_right (k * 2 ^ d) (2 ^ e) (w % 2 ^ (d + e)) ∙ mod-mod-pow w d e)

pub digit_low : (w b c : ℕ) (m : Bool) → c < b → digit (marked w b m) c ≡ digit w c
unfolding digit
digit_low w b c m h =
    let q : b ≡ b - (1 + c) + (1 + c) = omega arith in
    let x : marked w b m % 2 ^ (1 + c) ≡ w % 2 ^ (1 + c) = rw (marked_is, q) (low_same (cond m 1 0) w (b - (1 + c)) (1 + c)) in
    sym (field (marked w b m) 1 c) ∙ ap (λ (n : ℕ). n / 2 ^ c) x ∙ field w 1 c

-- ---- ways out of the functions on a word

pub power_is : (b : ℕ) → b < 64 → 1 * 2 ^ b % 18446744073709551616 ≡ 2 ^ b
power_is b h = shl_exact 1 b 64 (lit< tt) (omega arith) ∙ omega arith

pub power_some : (b : ℕ) → b < 64 → 0 < 1 * 2 ^ b % 18446744073709551616
power_some b h = rw (power_is b h) (pow_pos b)

pub power_small : (b : ℕ) → b < 64 → 1 * 2 ^ b % 18446744073709551616 ≤ 9223372036854775808
power_small b h = rw (power_is b h) (pow_mono {i = b} {j = 63} (omega arith))

pub marked_yes : (w b p : ℕ) (m : Bool) → m ≡ true → p ≡ 2 ^ b → w % p + p ≡ marked w b m
unfolding marked
marked_yes w b p m e q = rw (e, q)

pub marked_no : (w b p : ℕ) (m : Bool) → m ≡ false → p ≡ 2 ^ b → w % p ≡ marked w b m
unfolding marked
marked_no w b p m e q = rw (e, q)

pub marked_fits : (w p : ℕ) → 0 < p → p ≤ 9223372036854775808 → Fits w64 (w % p + p)
marked_fits w p h l = record { fits = let k : w % p < p = mod-lt w h in omega arith }
