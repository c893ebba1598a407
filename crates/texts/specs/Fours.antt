-- The levels above a line's own, eight or four a step where their marks stand in one word: the marks as a number, and stores of two levels
-- by tables of words and widths.
use Rattle.std.specs.Prelude.{◌≡◌, refl, Bool, cond, ℕ, zero, suc, ◌+◌, ◌*◌, ◌-◌, ◌/◌, ◌%◌, ◌^◌, ◌≤◌, ◌<◌, length, take, drop, eqb, ltb}
use Rattle.std.proofs.Math.Path.{sym}
use Rattle.std.proofs.Common.{ap, ◌∙◌, length-append, length-take, length-drop, lt-ltb, le-ltb, ltb-false, eq-eqb, ne_eqb}
use mathlib.Core.List.{List, [], ◌∷◌, ◌++◌, append_assoc, append-nil}
use native.Mathlib.Omega.{arith}
use Rattle.std.proofs.Math.ListN.{get_or}
use Rattle.std.proofs.Math.Pow.{shr-shr, field}
use borrow.Rule.Slice.PartMut.{put_mid}
use Rattle.basis.specs.Members.{split}
use Rattle.texts.specs.Indent.{older}
use Rattle.texts.specs.MarkBits.{digit, bit}
use Rattle.texts.specs.Wrote.{Wrote}
use Rattle.texts.specs.Laws.Wrote.{behind}
use Rattle.texts.specs.Pieces.{bytes_of, pair_word, pair_bytes, BytesLaid, Near, laid_near, near_more}
use Rattle.texts.specs.Shown.{levels_from, levels_least}
use Rattle.texts.specs.Small.{pair_is, front_two, size_two}

-- ---- two marks as a number, the upper level's the low digit

unfoldable pub odd : ℕ → Bool
odd c = eqb (c % 2) 1

unfoldable pub pair_text : ℕ → List ℕ
unfolding odd older
pair_text c = older (odd c) ++ older (odd (c / 2))

-- by number: the eight bytes as a word, and how many bytes count
abbrev pub pair_words : List ℕ
pair_words = 9409394149096068322 ∷ 2314993784428961824 ∷ 2314885530824905954 ∷ 2314885530818453536 ∷ []

abbrev pub pair_widths : List ℕ
pair_widths = 10 ∷ 8 ∷ 8 ∷ 6 ∷ []

below_four : (P : ℕ → Type 0) → P 0 → P 1 → P 2 → P 3 → (c : ℕ) → c < 4 → P c
below_four P p q r s zero h = p
below_four P p q r s (suc zero) h = q
below_four P p q r s (suc (suc zero)) h = r
below_four P p q r s (suc (suc (suc zero))) h = s
below_four P p q r s (suc (suc (suc (suc n)))) h = let z : ⊥ = omega arith in absurd z

word_is_lem : (c : ℕ) → c < 4 → get_or pair_words c 0 ≡ pair_word (odd c) (odd (c / 2))
unfolding odd pair_word
word_is_lem = below_four (λ c. get_or pair_words c 0 ≡ pair_word (odd c) (odd (c / 2))) refl refl refl refl

width_is : (c : ℕ) → c < 4 → get_or pair_widths c 0 ≡ length (pair_text c)
unfolding odd older pair_text
width_is = below_four (λ c. get_or pair_widths c 0 ≡ length (pair_text c)) refl refl refl refl

pair_least : (c : ℕ) → c < 4 → (6 ≤ length (pair_text c)) × (length (pair_text c) ≤ 10)
unfolding odd older pair_text
pair_least = below_four (λ c. (6 ≤ length (pair_text c)) × (length (pair_text c) ≤ 10)) (omega arith, omega arith)
    (omega arith, omega arith) (omega arith, omega arith) (omega arith, omega arith)

-- the word and two spaces are stored
pub code_near : (ws vs : List ℕ) (c : ℕ) {o d e : List ℕ} {n m : ℕ} → Wrote (bytes_of 8 (get_or ws c 0)) o d n
    → Wrote (32 ∷ 32 ∷ []) (take (length d - n) (drop n d)) e m → ws ≡ pair_words → vs ≡ pair_widths → c < 4
    → Near (pair_text c) o (put_mid n (length d - n) d e) (get_or vs c 0)
unfolding pair_text
code_near ws vs c {o} {d} {e} {n} {m} w v q r h =
    let b : Wrote (bytes_of 8 (get_or ws c 0) ++ (32 ∷ 32 ∷ [])) o (put_mid n (length d - n) d e) (n + m) = behind w v in
    let y : bytes_of 8 (get_or ws c 0) ++ (32 ∷ 32 ∷ []) ≡ pair_bytes (odd c) (odd (c / 2)) =
    rw (q, word_is_lem c h) (pair_is (odd c) (odd (c / 2))) in
    let x : Wrote (pair_bytes (odd c) (odd (c / 2))) o (put_mid n (length d - n) d e) (n + m) = rw y at b in
    laid_near (record {
      count = rw r (width_is c h);
      front = front_two (odd c) (odd (c / 2));
      short = (size_two (odd c) (odd (c / 2))).0;
      slack = (size_two (odd c) (odd (c / 2))).1;
      leaves = x.leaves;
      fits = x.fits;
    })

pub code_width : (vs : List ℕ) (c : ℕ) → vs ≡ pair_widths → c < 4 → get_or vs c 0 ≤ 10
code_width vs c r h = rw (r, width_is c h) (pair_least c h).1

-- ---- four marks

unfoldable pub four_text : ℕ → List ℕ
unfolding pair_text
four_text c = pair_text (c % 4) ++ pair_text (c / 4)

four_size : (c : ℕ) → length (four_text c) ≡ length (pair_text (c % 4)) + length (pair_text (c / 4))
unfolding four_text
four_size c = length-append (pair_text (c % 4)) (pair_text (c / 4))

pub four_first : (c : ℕ) (o : List ℕ) → c < 16 → length (four_text c) + 7 ≤ length o → 10 ≤ length o
four_first c o h r =
    let s = four_size c in
    let a = (pair_least (c % 4) (omega arith)).0 in
    omega arith

pub four_second : (c : ℕ) {o d : List ℕ} {n : ℕ} → Near (pair_text (c % 4)) o d n → c < 16 → length (four_text c) + 7 ≤ length o
    → 10 ≤ length (take (length d - n) (drop n d))
four_second c {o} {d} {n} w h r =
    let s = four_size c in
    let b = (pair_least (c / 4) (omega arith)).0 in
    let k : n ≡ length (pair_text (c % 4)) = w.count in
    let z : length d ≡ length o = w.same in
    rw (length-take, length-drop) (omega arith)

pub four_near : (c : ℕ) {o d e : List ℕ} {n m : ℕ} → Near (pair_text (c % 4)) o d n
    → Near (pair_text (c / 4)) (take (length d - n) (drop n d)) e m
    → Near (four_text c) o (put_mid n (length d - n) d e) (n + m)
unfolding four_text
four_near c w v = near_more w v

-- the number of the four levels from i on, of k that are left; 16 where there are fewer, or they stand in two words
unfoldable pub code_in : List ℕ → ℕ → ℕ → ℕ
code_in ws i k = cond (ltb k 4) 16 (cond (ltb 60 (i % 64)) 16 (get_or ws (i / 64) 0 / 2 ^ (i % 64) % 16))

pub code_few : (ws : List ℕ) (i k : ℕ) → k < 4 → 16 ≡ code_in ws i k
unfolding code_in
code_few ws i k h = rw (lt-ltb k 4 h)

pub code_edge : (ws : List ℕ) (i k : ℕ) → 60 < i % 64 → 4 ≤ k → 16 ≡ code_in ws i k
unfolding code_in
code_edge ws i k e h = rw (le-ltb k 4 h, lt-ltb 60 (i % 64) e)

pub code_four : (ws : List ℕ) (i k : ℕ) → i % 64 ≤ 60 → 4 ≤ k → get_or ws (i / 64) 0 / 2 ^ (i % 64) % 16 ≡ code_in ws i k
unfolding code_in
code_four ws i k e h = rw (le-ltb k 4 h, le-ltb 60 (i % 64) e)

-- ---- what a step takes

unfoldable pub few_of : ℕ → ℕ → ℕ
few_of k c = cond (ltb k 2) 1 (cond (ltb k 4) 2 (cond (ltb c 16) 4 2))

pub step_one : (k c : ℕ) → k < 2 → 1 ≡ few_of k c
unfolding few_of
step_one k c l = rw (lt-ltb k 2 l)

pub step_few : (k c : ℕ) → k < 4 → 2 ≤ k → 2 ≡ few_of k c
unfolding few_of
step_few k c l h = rw (le-ltb k 2 h, lt-ltb k 4 l)

pub step_four : (k c : ℕ) → c < 16 → 4 ≤ k → 4 ≡ few_of k c
unfolding few_of
step_four k c h l = let m : 2 ≤ k = omega arith in rw (le-ltb k 2 m, le-ltb k 4 l, lt-ltb c 16 h)

pub step_two : (k c : ℕ) → 16 ≤ c → 4 ≤ k → 2 ≡ few_of k c
unfolding few_of
step_two k c h l = let m : 2 ≤ k = omega arith in rw (le-ltb k 2 m, le-ltb k 4 l, le-ltb c 16 h)

-- ---- its text: one level, two, or four by their number

module _ (ws : List ℕ) (i k c : ℕ) (o : List ℕ) where
  pub one_room : k < 2 → length (levels_from ws i (few_of k c)) + 7 ≤ length o → 10 ≤ length o
  one_room h r =
      let e = step_one k c h in let l : 3 * 1 ≤ length (levels_from ws i 1) = levels_least ws i 1 in let q = rw (← e) at r in omega arith

  pub few_room : k < 4 → 2 ≤ k → length (levels_from ws i (few_of k c)) + 7 ≤ length o → 10 ≤ length o
  few_room h g r =
      let e = step_few k c h g in let l : 3 * 2 ≤ length (levels_from ws i 2) = levels_least ws i 2 in let q = rw (← e) at r in omega arith

  pub two_room : 16 ≤ c → 4 ≤ k → length (levels_from ws i (few_of k c)) + 7 ≤ length o → 10 ≤ length o
  two_room h g r =
      let e = step_two k c h g in let l : 3 * 2 ≤ length (levels_from ws i 2) = levels_least ws i 2 in let q = rw (← e) at r in omega arith

  pub one_near : {bs d : List ℕ} {r : ℕ} → BytesLaid (older (bit ws i)) bs o d r → k < 2 → Near (levels_from ws i (few_of k c)) o d r
  unfolding levels_from
  one_near v h = rw (← step_one k c h, append-nil) (laid_near v)

  two_levels : {bs d : List ℕ} {r : ℕ} → BytesLaid (older (bit ws i) ++ older (bit ws (i + 1))) bs o d r → Near (levels_from ws i 2) o d r
  unfolding levels_from
  two_levels v = rw append-nil (laid_near v)

  pub few_near : {bs d : List ℕ} {r : ℕ} → BytesLaid (older (bit ws i) ++ older (bit ws (i + 1))) bs o d r → k < 4 → 2 ≤ k
      → Near (levels_from ws i (few_of k c)) o d r
  few_near v h g = rw (← step_few k c h g) (two_levels v)

  pub two_near : {bs d : List ℕ} {r : ℕ} → BytesLaid (older (bit ws i) ++ older (bit ws (i + 1))) bs o d r → 16 ≤ c → 4 ≤ k
      → Near (levels_from ws i (few_of k c)) o d r
  two_near v h g = rw (← step_two k c h g) (two_levels v)

join_four : (a b c d : List ℕ) → a ++ (b ++ (c ++ (d ++ []))) ≡ (a ++ b) ++ (c ++ d)
join_four a b c d = rw append-nil (sym (append_assoc a b (c ++ d)))

-- four levels in one word
module _ (ws : List ℕ) (i c : ℕ) (b : i % 64 ≤ 60) (e : c ≡ get_or ws (i / 64) 0 / 2 ^ (i % 64) % 16) where
  abbrev v : ℕ
  v = get_or ws (i / 64) 0 / 2 ^ (i % 64)

  bit_is : (j y : ℕ) → j < 4 → v / 2 ^ j % 2 ≡ y % 2 → bit ws (i + j) ≡ odd y
  unfolding bit digit odd
  bit_is j y l h =
      let p : (i + j) / 64 ≡ i / 64 = omega arith in
      let q : (i + j) % 64 ≡ i % 64 + j = omega arith in
      rw (p, q, ← shr-shr (get_or ws (i / 64) 0) (i % 64) j, h)

  four_is : levels_from ws i 4 ≡ four_text c
  unfolding levels_from four_text pair_text
  four_is =
      let i0 : i + 0 ≡ i = omega arith in
      let i2 : i + 1 + 1 ≡ i + 2 = omega arith in
      let i3 : i + 2 + 1 ≡ i + 3 = omega arith in
      let b0 : bit ws i ≡ odd (c % 4) = rw i0 at (bit_is 0 (c % 4) (omega arith) (omega arith)) in
      let b1 : bit ws (i + 1) ≡ odd (c % 4 / 2) = bit_is 1 (c % 4 / 2) (omega arith) (omega arith) in
      let b2 : bit ws (i + 2) ≡ odd (c / 4) = bit_is 2 (c / 4) (omega arith) (omega arith) in
      let b3 : bit ws (i + 3) ≡ odd (c / 4 / 2) = bit_is 3 (c / 4 / 2) (omega arith) (omega arith) in
      rw (i2, i3, b0, b1, b2, b3) (join_four (older (odd (c % 4))) (older (odd (c % 4 / 2))) (older (odd (c / 4)))
      (older (odd (c / 4 / 2))))

module _ (ws : List ℕ) (i k c : ℕ) (h : c < 16) (g : 4 ≤ k) (is : c ≡ code_in ws i k) where
  four_in : levels_from ws i 4 ≡ four_text c
  unfolding code_in
  four_in =
      split (ltb 60 (i % 64))
      (λ q. let z : c ≡ 16 = rw (le-ltb k 4 g, q) at is in let w : ⊥ = omega arith in absurd w)
      (λ q. four_is ws i c (ltb-false 60 (i % 64) q) (rw (le-ltb k 4 g, q) at is))

  pub four_room : (o : List ℕ) → length (levels_from ws i (few_of k c)) + 7 ≤ length o → length (four_text c) + 7 ≤ length o
  four_room o r = rw (← step_four k c h g, four_in) at r

  pub four_step : {o d : List ℕ} {r : ℕ} → Near (four_text c) o d r → Near (levels_from ws i (few_of k c)) o d r
  four_step w = rw (← step_four k c h g, four_in) w

-- ---- eight marks

unfoldable pub byte_text : ℕ → List ℕ
unfolding four_text
byte_text c = four_text (c % 16) ++ four_text (c / 16)

byte_size : (c : ℕ) → length (byte_text c) ≡ length (four_text (c % 16)) + length (four_text (c / 16))
unfolding byte_text
byte_size c = length-append (four_text (c % 16)) (four_text (c / 16))

pub byte_first : (c : ℕ) (o : List ℕ) → length (byte_text c) + 7 ≤ length o → length (four_text (c % 16)) + 7 ≤ length o
byte_first c o r = let s = byte_size c in omega arith

pub byte_second : (c : ℕ) {o d : List ℕ} {n : ℕ} → Near (four_text (c % 16)) o d n → length (byte_text c) + 7 ≤ length o
    → length (four_text (c / 16)) + 7 ≤ length (take (length d - n) (drop n d))
byte_second c {o} {d} {n} w r =
    let s = byte_size c in
    let k : n ≡ length (four_text (c % 16)) = w.count in
    let z : length d ≡ length o = w.same in
    rw (length-take, length-drop) (omega arith)

pub byte_near : (c : ℕ) {o d e : List ℕ} {n m : ℕ} → Near (four_text (c % 16)) o d n
    → Near (four_text (c / 16)) (take (length d - n) (drop n d)) e m
    → Near (byte_text c) o (put_mid n (length d - n) d e) (n + m)
unfolding byte_text
byte_near c w v = near_more w v

-- the number of the eight levels from i on, of k that are left; 256 where there are fewer, or they stand in two words
unfoldable pub byte_in : List ℕ → ℕ → ℕ → ℕ
byte_in ws i k = cond (ltb k 8) 256 (cond (ltb 56 (i % 64)) 256 (get_or ws (i / 64) 0 / 2 ^ (i % 64) % 256))

pub byte_few : (ws : List ℕ) (i k : ℕ) → k < 8 → 256 ≡ byte_in ws i k
unfolding byte_in
byte_few ws i k h = rw (lt-ltb k 8 h)

pub byte_edge : (ws : List ℕ) (i k : ℕ) → 56 < i % 64 → 8 ≤ k → 256 ≡ byte_in ws i k
unfolding byte_in
byte_edge ws i k e h = rw (le-ltb k 8 h, lt-ltb 56 (i % 64) e)

pub byte_eight : (ws : List ℕ) (i k : ℕ) → i % 64 ≤ 56 → 8 ≤ k → get_or ws (i / 64) 0 / 2 ^ (i % 64) % 256 ≡ byte_in ws i k
unfolding byte_in
byte_eight ws i k e h = rw (le-ltb k 8 h, le-ltb 56 (i % 64) e)

pub byte_enough : (ws : List ℕ) (i k b : ℕ) → b < 256 → b ≡ byte_in ws i k → 8 ≤ k
unfolding byte_in
byte_enough ws i k b h is =
    split (ltb k 8)
    (λ q. let z : b ≡ 256 = rw q at is in let w : ⊥ = omega arith in absurd w)
    (λ q. ltb-false k 8 q)

-- of k levels that are left, how many are looked at where eight do not stand in one word
unfoldable pub evened_of : ℕ → ℕ → ℕ
evened_of i k = cond (eqb (i % 2) 1) 1 k

pub evened_odd : (i k : ℕ) → i % 2 ≡ 1 → 1 ≡ evened_of i k
unfolding evened_of
evened_odd i k h = rw (eq-eqb (i % 2) 1 h)

pub evened_even : (i k : ℕ) → (i % 2 ≡ 1 → ⊥) → k ≡ evened_of i k
unfolding evened_of
evened_even i k h = rw (ne_eqb (i % 2) 1 h)

-- what a step takes: eight levels, or fewer
unfoldable pub step_of : List ℕ → ℕ → ℕ → ℕ → ℕ
unfolding few_of code_in evened_of
step_of ws i k b = cond (ltb b 256) 8 (few_of (evened_of i k) (code_in ws i (evened_of i k)))

pub step_byte : (ws : List ℕ) (i k b : ℕ) → b < 256 → 8 ≡ step_of ws i k b
unfolding step_of
step_byte ws i k b h = rw (lt-ltb b 256 h)

step_rest : (ws : List ℕ) (i k b j c : ℕ) → 256 ≤ b → j ≡ evened_of i k → c ≡ code_in ws i j → few_of j c ≡ step_of ws i k b
unfolding step_of
step_rest ws i k b j c h d e = rw (le-ltb b 256 h, e, d)

pub step_fewer : (ws : List ℕ) (i k b j c r : ℕ) → r ≡ few_of j c → 256 ≤ b → j ≡ evened_of i k → c ≡ code_in ws i j → r ≡ step_of ws i k b
step_fewer ws i k b j c r q h d e = q ∙ step_rest ws i k b j c h d e

pub rest_room : (ws : List ℕ) (i k b j c : ℕ) (o : List ℕ) → 256 ≤ b → j ≡ evened_of i k → c ≡ code_in ws i j
    → length (levels_from ws i (step_of ws i k b)) + 7 ≤ length o
    → length (levels_from ws i (few_of j c)) + 7 ≤ length o
rest_room ws i k b j c o h d e r = rw (step_rest ws i k b j c h d e) r

pub rest_near : (ws : List ℕ) (i k b j c : ℕ) {o d : List ℕ} {r : ℕ} → Near (levels_from ws i (few_of j c)) o d r → 256 ≤ b → j ≡ evened_of i k
    → c ≡ code_in ws i j → Near (levels_from ws i (step_of ws i k b)) o d r
rest_near ws i k b j c w h d e = rw (← step_rest ws i k b j c h d e) w

levels_split : (ws : List ℕ) (i j k : ℕ) → levels_from ws i (j + k) ≡ levels_from ws i j ++ levels_from ws (i + j) k
unfolding levels_from
levels_split ws i zero k = let z : 0 + k ≡ k = omega arith in let y : i + 0 ≡ i = omega arith in rw (z, y)
levels_split ws i (suc j) k =
    let z : suc j + k ≡ suc (j + k) = omega arith in
    let y : i + suc j ≡ i + 1 + j = omega arith in
    rw (z, y, levels_split ws (i + 1) j k) (sym (append_assoc (older (bit ws i)) (levels_from ws (i + 1) j) (levels_from ws (i + 1 + j) k)))

module _ (ws : List ℕ) (i k b : ℕ) (h : b < 256) (is : b ≡ byte_in ws i k) where
  in_word : (i % 64 ≤ 56) × (b ≡ get_or ws (i / 64) 0 / 2 ^ (i % 64) % 256)
  unfolding byte_in
  in_word =
      split (ltb 56 (i % 64))
      (λ q. let z : b ≡ 256 = rw (le-ltb k 8 (byte_enough ws i k b h is), q) at is in let w : ⊥ = omega arith in absurd w)
      (λ q. (ltb-false 56 (i % 64) q, rw (le-ltb k 8 (byte_enough ws i k b h is), q) at is))

  eight_is : levels_from ws i 8 ≡ byte_text b
  unfolding byte_text
  eight_is =
      let l = in_word.0 in
      let e = in_word.1 in
      let p : (i + 4) / 64 ≡ i / 64 = omega arith in
      let q : (i + 4) % 64 ≡ i % 64 + 4 = omega arith in
      let u : get_or ws (i / 64) 0 / 2 ^ (i % 64 + 4) ≡ get_or ws (i / 64) 0 / 2 ^ (i % 64) / 16 =
      sym (shr-shr (get_or ws (i / 64) 0) (i % 64) 4) in
      let x : b % 16 ≡ get_or ws (i / 64) 0 / 2 ^ (i % 64) % 16 = omega arith in
      let y : b / 16 ≡ get_or ws ((i + 4) / 64) 0 / 2 ^ ((i + 4) % 64) % 16 =
      rw (p, q, u) (ap (λ (z : ℕ). z / 16) e ∙ field (get_or ws (i / 64) 0 / 2 ^ (i % 64)) 4 4) in
      levels_split ws i 4 4 ∙ rw (four_is ws i (b % 16) (omega arith) x, four_is ws (i + 4) (b / 16) (omega arith) y)

  pub eight_room : (o : List ℕ) → length (levels_from ws i (step_of ws i k b)) + 7 ≤ length o → length (byte_text b) + 7 ≤ length o
  eight_room o r = rw (← step_byte ws i k b h, eight_is) at r

  pub eight_step : {o d : List ℕ} {r : ℕ} → Near (byte_text b) o d r → Near (levels_from ws i (step_of ws i k b)) o d r
  eight_step w = rw (← step_byte ws i k b h, eight_is) w
