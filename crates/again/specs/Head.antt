-- A head of the recorded list: twelve 64-bit numbers, lowest byte first.
use Rattle.std.specs.Prelude.{◌≡◌, refl, ℕ, zero, suc, ◌+◌, ◌*◌, ◌≤◌, ◌<◌, List, [], ◌∷◌, ◌++◌, length, get_or, take, drop, set}
use Rattle.std.specs.Int.{w64, from_le_bytes}
use Rattle.std.proofs.Common.{sym, ap, ◌∙◌, add-one, arith, append_assoc, append-nil, length-append, drop_of_length-le, length-take-le, drop-cons}
use Rattle.std.proofs.lemmas.List.{set_at}
use Rattle.again.specs.declared.Seen.{Seen}

abbrev pub pair_at : List ℕ → ℕ → ℕ
pair_at xs at = get_or xs at 0 + 256 * get_or xs (at + 1) 0

unfoldable pub quad_at : List ℕ → ℕ → ℕ
quad_at xs at = pair_at xs at + 65536 * pair_at xs (at + 2)

-- the number whose lowest byte stands at `at`
unfoldable pub word_at : List ℕ → ℕ → ℕ
unfolding quad_at
word_at xs at = quad_at xs at + 4294967296 * quad_at xs (at + 4)

-- n numbers behind one another, the first of them there
unfoldable pub words_at : List ℕ → ℕ → ℕ → List ℕ
words_at xs at zero = []
words_at xs at (suc n) = words_at xs at n ++ (word_at xs (at + 8 * n) ∷ [])

-- what a call's head says: the call, its option, the room or the list's length, the answer, and two words that some calls take
abbrev pub call_in : List ℕ → ℕ
call_in head = word_at head 8

abbrev pub option_in : List ℕ → ℕ
option_in head = word_at head 16

abbrev pub room_in : List ℕ → ℕ
room_in head = word_at head 24

abbrev pub first_in : List ℕ → ℕ
first_in head = word_at head 80

abbrev pub second_in : List ℕ → ℕ
second_in head = word_at head 88

unfoldable pub recorded_in : List ℕ → Seen
recorded_in head = record {
  number = word_at head 32;
  place = word_at head 40;
  bytes = word_at head 48;
  units = word_at head 56;
  depth = word_at head 64;
  sum = word_at head 72;
}

pub quad_is : (xs : List ℕ) (at a b : ℕ) → a ≡ pair_at xs at → b ≡ pair_at xs (at + 2) → a + 65536 * b ≡ quad_at xs at
unfolding quad_at
quad_is xs at a b p q = rw (p, q)

pub word_is_lem : (xs : List ℕ) (at a b : ℕ) → a ≡ quad_at xs at → b ≡ quad_at xs (at + 4) → a + 4294967296 * b ≡ word_at xs at
unfolding word_at
word_is_lem xs at a b p q = rw (p, q)

-- eight bytes, the lowest first
pub word_of_bytes : (xs : List ℕ) (at a b c d e f g h : ℕ) → a ≡ get_or xs at 0 → b ≡ get_or xs (at + 1) 0 → c ≡ get_or xs (at + 2) 0
    → d ≡ get_or xs (at + 3) 0 → e ≡ get_or xs (at + 4) 0 → f ≡ get_or xs (at + 5) 0 → g ≡ get_or xs (at + 6) 0 → h ≡ get_or xs (at + 7) 0
    → from_le_bytes w64 (a ∷ b ∷ c ∷ d ∷ e ∷ f ∷ g ∷ h ∷ []) ≡ word_at xs at
unfolding word_at quad_at
word_of_bytes xs at a b c d e f g h i j k l m n o p =
    let r : at + 2 + 1 ≡ at + 3 = omega arith in
    let s : at + 4 + 1 ≡ at + 5 = omega arith in
    let t : at + 4 + 2 ≡ at + 6 = omega arith in
    let u : at + 6 + 1 ≡ at + 7 = omega arith in
    rw (r, s, t, u) (omega (arith, i, j, k, l, m, n, o, p))

pub recorded_is : (head : List ℕ) (n p b u d s : ℕ) → n ≡ word_at head 32 → p ≡ word_at head 40 → b ≡ word_at head 48 → u ≡ word_at head 56 → d ≡ word_at head 64
    → s ≡ word_at head 72
    → ◌≡◌ {A = Seen} (record { number = n; place = p; bytes = b; units = u; depth = d; sum = s }) (recorded_in head)
unfolding recorded_in
recorded_is head n p b u d s e f g h i j = rw (e, f, g, h, i, j)

-- the first n bytes of a slice are n
pub prefix_length : (n : ℕ) (xs : List ℕ) → n ≤ length xs → n ≡ length (take n xs)
prefix_length n xs l = sym (length-take-le n xs l)

-- ---- a list that is filled with numbers

-- the number i of ws is filled
unfoldable pub one_filled : List ℕ → ℕ → ℕ → List ℕ → List ℕ
one_filled xs at i ws = set ws i (word_at xs (at + 8 * i))

-- the first i of ws are filled
unfoldable pub filled_to : List ℕ → ℕ → ℕ → List ℕ → List ℕ
filled_to xs at i ws = words_at xs at i ++ drop i ws

length_words : (xs : List ℕ) (at n : ℕ) → length (words_at xs at n) ≡ n
unfolding words_at
length_words xs at zero = refl
length_words xs at (suc n) =
    let e : length (words_at xs at n) ≡ n = length_words xs at n in
    length-append (words_at xs at n) (word_at xs (at + 8 * n) ∷ []) ∙ omega (arith, e)

pub fill_none : (xs ws : List ℕ) (at : ℕ) → ws ≡ filled_to xs at 0 ws
unfolding filled_to words_at
fill_none xs ws at = refl

pub one_filled_lem : (xs ws vs : List ℕ) (at i w : ℕ) → vs ≡ set ws i w → w ≡ word_at xs (at + 8 * i) → vs ≡ one_filled xs at i ws
unfolding one_filled
one_filled_lem xs ws vs at i w e q = e ∙ ap (λ (x : ℕ). set ws i x) q

pub fill_next : (xs ws vs us : List ℕ) (at i : ℕ) → vs ≡ filled_to xs at i ws → us ≡ one_filled xs at i vs → i < length vs → length vs ≡ length ws
    → us ≡ filled_to xs at (i + 1) ws
unfolding filled_to one_filled words_at
fill_next xs ws vs us at i e q l k =
    let w : ℕ = word_at xs (at + 8 * i) in
    let d : drop i ws ≡ get_or ws i 0 ∷ drop (suc i) ws = drop-cons ws i 0 (omega (arith, k)) in
    let t : set vs i w ≡ words_at xs at i ++ (w ∷ drop (suc i) ws) =
    ap (λ (m : List ℕ). set m i w) (e ∙ ap (λ (m : List ℕ). words_at xs at i ++ m) d)
    ∙ set_at (words_at xs at i) (get_or ws i 0) (drop (suc i) ws) w i (length_words xs at i) in
    q ∙ t ∙ rw add-one (sym (append_assoc (words_at xs at i) (word_at xs (at + 8 * i) ∷ []) (drop (suc i) ws)))

pub fill_end : (xs ws vs : List ℕ) (at i : ℕ) → vs ≡ filled_to xs at i ws → length vs ≤ i → i ≤ length ws → length vs ≡ length ws
    → vs ≡ words_at xs at (length ws)
unfolding filled_to
fill_end xs ws vs at i e l k q =
    let z : i ≡ length ws = omega (arith, q) in
    e ∙ ap (λ (j : ℕ). words_at xs at j ++ drop j ws) z
    ∙ ap (λ (m : List ℕ). words_at xs at (length ws) ++ m) (drop_of_length-le ws {i = length ws} (omega arith))
    ∙ append-nil (words_at xs at (length ws))
