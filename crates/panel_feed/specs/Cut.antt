-- How much of a line a panel of some columns shows: whole characters of UTF-8, one a column.
use Rattle.std.specs.Prelude.{◌≡◌, refl, Bool, true, false, cond, List, [], ◌∷◌, ℕ, zero, suc, ◌+◌, ◌-◌, ◌≤◌, ◌<◌, length, get_or, take, drop, ltb, eqb}
use Rattle.std.proofs.Common.{sym, ◌∙◌, add-one, arith, drop-cons, length-take-le, lt-ltb, le-ltb}
use Rattle.std.proofs.lemmas.Bool.{eqb-false}
use Rattle.basis.specs.Members.{split, no_both}

-- bytes 128 to 191 go on with a character, all others start one
unfoldable pub starts : ℕ → Bool
starts b = cond (ltb b 128) true (ltb 191 b)

-- the byte starts a character for which no column is left
unfoldable pub over : ℕ → ℕ → Bool
unfolding starts
over columns b = cond (starts b) (eqb columns 0) false

-- the columns that are left behind the byte
unfoldable pub after : ℕ → ℕ → ℕ
unfolding starts
after columns b = cond (starts b) (columns - 1) columns

-- the bytes of the longest beginning of the line that the columns hold
unfoldable pub cut_at : ℕ → List ℕ → ℕ
unfolding over after
cut_at columns [] = 0
cut_at columns (b ∷ bs) = elim (over columns b) [ true ↦ 0 | false ↦ suc (cut_at (after columns b) bs) ]

nothing_left : (xs : List ℕ) (i : ℕ) → length xs ≤ i → drop i xs ≡ []
nothing_left [] zero l = refl
nothing_left [] (suc i) l = refl
nothing_left (x ∷ xs) zero l = let f : ⊥ = omega arith in absurd f
nothing_left (x ∷ xs) (suc i) l = nothing_left xs i (omega arith)

-- ---- what that means

cut_yes : (columns b : ℕ) (bs : List ℕ) → over columns b ≡ true → cut_at columns (b ∷ bs) ≡ 0
unfolding cut_at
cut_yes columns b bs e = rw (e, cut_at)

cut_no : (columns b : ℕ) (bs : List ℕ) → over columns b ≡ false → cut_at columns (b ∷ bs) ≡ suc (cut_at (after columns b) bs)
unfolding cut_at
cut_no columns b bs e = rw (e, cut_at)

over_starts : (columns b : ℕ) → over columns b ≡ true → starts b ≡ true
unfolding over
over_starts columns b e = split (starts b) (λ t. t) (λ f. no_both (over columns b) e (rw (f, over, cond)))

-- the cut never falls inside a character: it is the line's end, or the next byte starts a character
pub cut_whole : (columns : ℕ) (xs : List ℕ) → cut_at columns xs < length xs → starts (get_or xs (cut_at columns xs) 0) ≡ true
unfolding cut_at
cut_whole columns [] l = let f : ⊥ = omega arith in absurd f
cut_whole columns (b ∷ bs) l =
    split (over columns b)
    (λ t. rw (cut_yes columns b bs t) (over_starts columns b t))
    (λ f. rw (cut_no columns b bs f) (cut_whole (after columns b) bs (let z = cut_no columns b bs f in omega arith)))

-- how many characters start in a text
unfoldable pub characters : List ℕ → ℕ
unfolding starts
characters [] = 0
characters (b ∷ bs) = cond (starts b) 1 0 + characters bs

one_more : (columns b k : ℕ) → over columns b ≡ false → k ≤ after columns b → cond (starts b) 1 0 + k ≤ columns
unfolding over after
one_more columns b k f l =
    split (starts b)
    (λ t.
    let z : columns ≡ 0 → ⊥ = eqb-false columns 0 (rw (t, over, cond) at f) in
    let a : after columns b ≡ columns - 1 = rw (t, after, cond) in
    rw (t, cond) (omega (arith, a, ltb_of columns z)))
    (λ u.
    let a : after columns b ≡ columns = rw (u, after, cond) in
    rw (u, cond) (omega (arith, a)))
  where
    ltb_of : (n : ℕ) → (n ≡ 0 → ⊥) → 0 < n
    ltb_of n f = omega (arith, f)

-- and the columns hold what it leaves
pub cut_fits : (columns : ℕ) (xs : List ℕ) → characters (take (cut_at columns xs) xs) ≤ columns
unfolding cut_at characters
cut_fits columns [] = omega arith
cut_fits columns (b ∷ bs) =
    split (over columns b)
    (λ t. rw (cut_yes columns b bs t) (omega arith))
    (λ f. rw (cut_no columns b bs f) (one_more columns b (characters (take (cut_at (after columns b) bs) bs)) f (cut_fits (after columns b) bs)))

-- ---- the ways through the code

pub starts_low : (b : ℕ) → b < 128 → true ≡ starts b
unfolding starts
starts_low b l = rw (lt-ltb b 128 l, cond)

pub starts_high : (b : ℕ) (r : Bool) → 128 ≤ b → r ≡ ltb 191 b → r ≡ starts b
unfolding starts
starts_high b r l e = rw (le-ltb b 128 l, cond) e

pub over_start : (columns b : ℕ) (s r : Bool) → s ≡ true → s ≡ starts b → r ≡ eqb columns 0 → r ≡ over columns b
unfolding over
over_start columns b s r t q e = let z : starts b ≡ true = sym q ∙ t in rw (z, cond) e

pub over_inner : (columns b : ℕ) (s : Bool) → s ≡ false → s ≡ starts b → false ≡ over columns b
unfolding over
over_inner columns b s t q = let z : starts b ≡ false = sym q ∙ t in rw (z, cond)

pub after_inner : (columns b : ℕ) (s : Bool) → s ≡ false → s ≡ starts b → columns ≡ after columns b
unfolding after
after_inner columns b s t q = let z : starts b ≡ false = sym q ∙ t in rw (z, cond)

pub after_start : (columns b r : ℕ) (s : Bool) → s ≡ true → s ≡ starts b → r ≡ columns - 1 → r ≡ after columns b
unfolding after
after_start columns b r s t q e = let z : starts b ≡ true = sym q ∙ t in rw (z, cond) e

module _ (xs : List ℕ) (columns left i : ℕ) (e : i + cut_at left (drop i xs) ≡ cut_at columns xs) where
  pub cut_stop : (b : ℕ) (s : Bool) → i < length xs → s ≡ true → s ≡ over left b → b ≡ get_or xs i 0 → i ≡ cut_at columns xs
  cut_stop b s l t q p =
      let o : over left (get_or xs i 0) ≡ true = rw (← p) (sym q ∙ t) in
      let z : cut_at left (drop i xs) ≡ 0 = rw (drop-cons xs i 0 l) (cut_yes left (get_or xs i 0) (drop (suc i) xs) o) in
      omega (arith, z, e)

  pub cut_next : (b r : ℕ) (s : Bool) → i < length xs → s ≡ false → s ≡ over left b → b ≡ get_or xs i 0 → r ≡ after left b
      → i + 1 + cut_at r (drop (i + 1) xs) ≡ cut_at columns xs
  cut_next b r s l t q p a =
      let o : over left (get_or xs i 0) ≡ false = rw (← p) (sym q ∙ t) in
      let z : cut_at left (drop i xs) ≡ suc (cut_at (after left (get_or xs i 0)) (drop (suc i) xs)) =
      rw (drop-cons xs i 0 l) (cut_no left (get_or xs i 0) (drop (suc i) xs) o) in
      let y : cut_at r (drop (i + 1) xs) ≡ cut_at (after left (get_or xs i 0)) (drop (suc i) xs) = rw (add-one, a, p) in
      omega (arith, z, e, y)

  pub cut_end : length xs ≤ i → i ≡ cut_at columns xs
  unfolding cut_at
  cut_end l =
      let z : cut_at left (drop i xs) ≡ 0 = rw (nothing_left xs i l) in
      omega (arith, z, e)

-- the first n bytes of a room are n
pub prefix_length : (n : ℕ) (xs : List ℕ) → n ≤ length xs → n ≡ length (take n xs)
prefix_length n xs l = sym (length-take-le n xs l)
