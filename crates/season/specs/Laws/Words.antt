-- The ways through the steps of a joining, and that a report written and read is the same.
use Rattle.std.specs.Prelude.{◌≡◌, refl, Bool, true, false, not, length, get_or, take, replicate, leb}
use Rattle.std.proofs.Math.Path.{sym, ap}
use Rattle.std.proofs.Common.{◌∙◌, drop-cons, length-take-le, take_at, get_or-append-add, lt-ltb, le-ltb, leb-true, leb-false, ltb-true, eq-eqb, ne_eqb}
use mathlib.Core.List.{List, [], ◌∷◌, ◌++◌, append_assoc}
use Rattle.std.proofs.Math.Option.{Option, none, some}
use Prim.Native.Nat.{ℕ, zero, suc, ◌+◌, ◌-◌, ◌≤◌, ◌<◌}
use native.Mathlib.Omega.{arith}
use Rattle.std.proofs.Math.Numerals.{add-one}
use Rattle.std.proofs.Math.ListN.{drop, set}
use Rattle.std.proofs.Math.Seq.{take-suc, set_at}
use Rattle.std.proofs.lemmas.List.{get_or_at}
use Rattle.std.proofs.lemmas.Bool.{not-true, not-false}
use Rattle.basis.specs.Members.{split}
use Rattle.basis.specs.Below.{all_below, below_at, below_step, below_fails}
use Rattle.std.specs.Prelude.{Option as Maybe, Some, None, Result, Ok, Err}
use Rattle.season.specs.declared.Refusal.{Refusal}
use Rattle.season.specs.declared.Refusal.TheVariants as R
use Rattle.season.specs.declared.Deep.{Deep}
use Rattle.basis.specs.Lists.{all}
use Rattle.season.specs.Report.{Report, sum, sums, deeper, join, empty, files}
use Rattle.season.specs.Words.{deep_in, report_of, named, words_of}
use Rattle.season.specs.Steps.{pair_fits, added, files_in, total_of, deep_of}

pub pair_is : (ws vs : List ℕ) (i a b : ℕ) → a ≤ 18446744073709551615 → a ≡ get_or ws i 0 → b ≡ get_or vs i 0 → leb b (18446744073709551615 - a) ≡ pair_fits ws vs i
unfolding pair_fits
pair_is ws vs i a b h p q =
    rw (← p, ← q)
    (split (leb b (18446744073709551615 - a))
    (λ t. t ∙ sym (lt-ltb (a + b) 18446744073709551616 (omega (arith, leb-true b (18446744073709551615 - a) t))))
    (λ t. t ∙ sym (le-ltb (a + b) 18446744073709551616 (omega (arith, leb-false b (18446744073709551615 - a) t)))))

pub pair_sum : (ws vs : List ℕ) (i a b : ℕ) → all_below (pair_fits ws vs) 24 ≡ true → i < 24 → a ≡ get_or ws i 0 → b ≡ get_or vs i 0 → a + b < 18446744073709551616
unfolding pair_fits
pair_sum ws vs i a b h l p q = rw (p, q) (ltb-true (get_or ws i 0 + get_or vs i 0) 18446744073709551616 (below_at (pair_fits ws vs) 24 h i l))

pub added_none : (ws vs : List ℕ) → ws ≡ added ws vs 0
unfolding added
added_none ws vs = refl

pub sums_snoc : (x y : List ℕ) (a b : ℕ) → length x ≡ length y → sums (x ++ (a ∷ [])) (y ++ (b ∷ [])) ≡ sums x y ++ ((a + b) ∷ [])
sums_snoc [] [] a b h = refl
sums_snoc [] (d ∷ y) a b h = let z : ⊥ = omega arith in absurd z
sums_snoc (c ∷ x) [] a b h = let z : ⊥ = omega arith in absurd z
sums_snoc (c ∷ x) (d ∷ y) a b h = ap (λ (l : List ℕ). (c + d) ∷ l) (sums_snoc x y a b (omega arith))

pub length_sums_take : (ws vs : List ℕ) (i : ℕ) → i ≤ length ws → i ≤ length vs → length (sums (take i ws) (take i vs)) ≡ i
length_sums_take ws vs zero h l = refl
length_sums_take [] vs (suc i) h l = let z : ⊥ = omega arith in absurd z
length_sums_take (a ∷ ws) [] (suc i) h l = let z : ⊥ = omega arith in absurd z
length_sums_take (a ∷ ws) (b ∷ vs) (suc i) h l = ap suc (length_sums_take ws vs i (omega arith) (omega arith))

added_cons : (ws vs : List ℕ) (i : ℕ) → i < length ws → added ws vs i ≡ sums (take i ws) (take i vs) ++ (get_or ws i 0 ∷ drop (suc i) ws)
unfolding added
added_cons ws vs i h = ap (λ (l : List ℕ). sums (take i ws) (take i vs) ++ l) (drop-cons ws i 0 h)

module _ (ws vs list : List ℕ) (i : ℕ) (inv : list ≡ added ws vs i) (full : length ws ≡ 27) (full' : length vs ≡ 27) (h : i < 24) where
  -- what is read is still the word that was lent
  pub added_read : get_or list i 0 ≡ get_or ws i 0
  added_read =
      rw inv (rw (added_cons ws vs i (omega arith))
      (get_or_at (sums (take i ws) (take i vs)) (get_or ws i 0) (drop (suc i) ws) 0 i (length_sums_take ws vs i (omega arith) (omega arith))))

  pub added_next : (l : List ℕ) (a b : ℕ) → a ≡ get_or list i 0 → b ≡ get_or vs i 0 → l ≡ set list i (a + b) → l ≡ added ws vs (i + 1)
  unfolding added
  added_next l a b p q e =
      let t : set list i (a + b) ≡ sums (take i ws) (take i vs) ++ ((a + b) ∷ drop (suc i) ws) =
      ap (λ (m : List ℕ). set m i (a + b)) (inv ∙ added_cons ws vs i (omega arith))
      ∙ set_at (sums (take i ws) (take i vs)) (get_or ws i 0) (drop (suc i) ws) (a + b) i (length_sums_take ws vs i (omega arith) (omega arith)) in
      let s : sums (take (suc i) ws) (take (suc i) vs) ≡ sums (take i ws) (take i vs) ++ ((a + b) ∷ []) =
      rw (take-suc ws i 0 (omega arith), take-suc vs i 0 (omega arith), p ∙ added_read, q)
      (sums_snoc (take i ws) (take i vs) (get_or ws i 0) (get_or vs i 0) (length-take-le i ws (omega arith) ∙ sym (length-take-le i vs (omega arith)))) in
      e ∙ t ∙ sym (rw add-one (ap (λ (m : List ℕ). m ++ drop (suc i) ws) s ∙ append_assoc (sums (take i ws) (take i vs)) ((a + b) ∷ []) (drop (suc i) ws)))

  pub added_fits : (a b : ℕ) → all_below (pair_fits ws vs) 24 ≡ true → a ≡ get_or list i 0 → b ≡ get_or vs i 0 → a + b < 18446744073709551616
  added_fits a b k p q = pair_sum ws vs i a b k h (p ∙ added_read) q

pub added_end : (ws vs list : List ℕ) (i : ℕ) → list ≡ added ws vs i → i ≤ 24 → 24 ≤ i → list ≡ added ws vs 24
added_end ws vs list i e h l = let z : i ≡ 24 = omega arith in rw z at e

-- a call's flag t, tested as `if !t { return false; }`
pub flag_step : (p : ℕ → Bool) (i : ℕ) (t : Bool) → all_below p i ≡ true → t ≡ p i → not t ≡ false → all_below p (i + 1) ≡ true
flag_step p i t h q e = below_step p i h (sym q ∙ not-false t e)

pub flag_fails : (p : ℕ → Bool) (i n : ℕ) (t : Bool) → i < n → t ≡ p i → not t ≡ true → false ≡ all_below p n
flag_fails p i n t h q e = below_fails p i n h (sym q ∙ not-true t e)

-- ---- what a lent report may hold

at_word : (c ys : List ℕ) (n m : ℕ) → length c ≡ 24 → 24 + n ≡ m → get_or (c ++ ys) m 0 ≡ get_or ys n 0
at_word c ys n m h e = let z : length c + n ≡ m = omega arith in rw z at (get_or-append-add c ys n 0)

back : (c : List ℕ) (o : Option (ℕ × ℕ)) → length c ≡ 24 → report_of (c ++ named o) ≡ record { counts = c; deepest = o }
unfolding report_of deep_in
back c none h = rw (take_at c (0 ∷ 0 ∷ 0 ∷ []) 24 h, at_word c (0 ∷ 0 ∷ 0 ∷ []) 2 26 h refl, deep_in)
back c (some p) h =
    let ys = p.0 ∷ p.1 ∷ 1 ∷ [] in
    rw (take_at c ys 24 h, at_word c ys 2 26 h refl, deep_in, at_word c ys 0 24 h refl, at_word c ys 1 25 h refl)

-- a report that a season makes is the same written and read
pub words_back : (r : Report) → length r.counts ≡ 24 → report_of (words_of r) ≡ r
unfolding words_of
words_back r h = back r.counts r.deepest h

-- Lent words need not be such: with 1 in word 24 and no file named, joining the empty report puts 0 there.
unfoldable pub stray : List ℕ
stray = replicate 24 0 ++ (1 ∷ 0 ∷ 0 ∷ [])

pub stray_changes : words_of (join (report_of stray) empty) ≡ replicate 27 0
unfolding words_of join report_of deep_in empty files stray
stray_changes = refl

-- ---- the number of files

sum_snoc : (x : List ℕ) (a : ℕ) → sum (x ++ (a ∷ [])) ≡ sum x + a
sum_snoc [] a = omega arith
sum_snoc (b ∷ x) a = rw (sum_snoc x a) (omega arith)

files_one : (ws : List ℕ) (i : ℕ) → i < length ws → files_in ws (suc i) ≡ files_in ws i + get_or ws i 0
unfolding files_in
files_one ws i h = ap sum (take-suc ws i 0 h) ∙ sum_snoc (take i ws) (get_or ws i 0)

files_more : (ws : List ℕ) (i k : ℕ) → i + k ≤ length ws → files_in ws i ≤ files_in ws (i + k)
files_more ws i zero h = let z : i + 0 ≡ i = omega arith in rw z (omega arith)
files_more ws i (suc k) h =
    let z : i + suc k ≡ suc (i + k) = omega arith in rw z (omega (arith, files_more ws i k (omega arith), files_one ws (i + k) (omega arith)))

pub files_start : (ws : List ℕ) → 0 ≡ files_in ws 0
unfolding files_in
files_start ws = refl

module _ (ws : List ℕ) (i s a : ℕ) (inv : s ≡ files_in ws i) (full : length ws ≡ 27) (h : i < 19) (q : a ≡ get_or ws i 0) where
  pub files_next : s + a ≡ files_in ws (i + 1)
  files_next = rw add-one (omega (arith, files_one ws i (omega arith)))

  pub files_wide : 18446744073709551615 - a < s → a ≤ 18446744073709551615 → Err R.Wide ≡ total_of (files_in ws 19)
  unfolding total_of
  files_wide g l =
      let z : suc i + (18 - i) ≡ 19 = omega arith in
      let m : files_in ws (suc i) ≤ files_in ws 19 = rw z at (files_more ws (suc i) (18 - i) (omega arith)) in
      let n : 18446744073709551616 ≤ files_in ws 19 = omega (arith, files_one ws i (omega arith)) in
      rw (le-ltb (files_in ws 19) 18446744073709551616 n, total_of)

pub files_end : (ws : List ℕ) (i s : ℕ) → s ≡ files_in ws i → i ≤ 19 → 19 ≤ i → s ≤ 18446744073709551615
    → Ok s ≡ total_of (files_in ws 19)
unfolding total_of
files_end ws i s e h l g =
    let z : i ≡ 19 = omega arith in
    let y : s ≡ files_in ws 19 = e ∙ ap (files_in ws) z in
    rw (lt-ltb (files_in ws 19) 18446744073709551616 (omega arith), total_of) (ap (λ (n : ℕ). Ok n) y)

-- ---- the deepest file

pub narrow_pair : (d f : ℕ) → d ≤ 18446744073709551615 → f ≤ 18446744073709551615 → Ok (Some (record { depth = d; first = f })) ≡ deep_of (some (d, f))
unfolding deep_of
narrow_pair d f h g = rw (lt-ltb d 18446744073709551616 (omega arith), all, lt-ltb f 18446744073709551616 (omega arith), all, deep_of)

pub later_wide : (d f n : ℕ) → 18446744073709551615 - n < f → n ≤ 18446744073709551615 → d ≤ 18446744073709551615
    → Err R.Wide ≡ deep_of (some (d, n + f))
unfolding deep_of
later_wide d f n h l g = rw (lt-ltb d 18446744073709551616 (omega arith), all, le-ltb (n + f) 18446744073709551616 (omega arith), all, deep_of)

pub later_fits : (d f n : ℕ) → f ≤ 18446744073709551615 - n → n ≤ 18446744073709551615 → d ≤ 18446744073709551615
    → Ok (Some (record { depth = d; first = n + f })) ≡ deep_of (some (d, n + f))
later_fits d f n h l g = narrow_pair d (n + f) g (omega arith)

pub in_none : (ws : List ℕ) → get_or ws 26 0 ≡ 0 → deep_in ws ≡ none
unfolding deep_in
in_none ws e = rw (eq-eqb (get_or ws 26 0) 0 e, deep_in)

pub in_some : (ws : List ℕ) → (get_or ws 26 0 ≡ 0 → ⊥) → deep_in ws ≡ some (get_or ws 24 0, get_or ws 25 0)
unfolding deep_in
in_some ws e = rw (ne_eqb (get_or ws 26 0) 0 e, deep_in)

deep_of_none : Ok None ≡ deep_of none
unfolding deep_of
deep_of_none = refl

module _ (ws vs : List ℕ) (n a b : ℕ) (qa : a ≡ get_or ws 26 0) (qb : b ≡ get_or vs 26 0) where
  by_two : (o p : Option (ℕ × ℕ)) (r : Result (Maybe Deep) Refusal) → deep_in ws ≡ o → deep_in vs ≡ p → r ≡ deep_of (deeper n o p) → r ≡ deep_of (deeper n (deep_in ws) (deep_in vs))
  by_two o p r e f h = rw (e, f) h

  pub deep_none : b ≡ 0 → a ≡ 0 → Ok None ≡ deep_of (deeper n (deep_in ws) (deep_in vs))
  deep_none y x = by_two none none _ (in_none ws (sym qa ∙ x)) (in_none vs (sym qb ∙ y)) deep_of_none

  module _ (d f : ℕ) (qd : d ≡ get_or ws 24 0) (qf : f ≡ get_or ws 25 0) where
    some_first : (a ≡ 0 → ⊥) → deep_in ws ≡ some (d, f)
    some_first x = in_some ws (λ z. x (qa ∙ z)) ∙ sym (ap (λ (k : ℕ). some (k, f)) qd ∙ ap (λ (k : ℕ). some (get_or ws 24 0, k)) qf)

    pub deep_first : b ≡ 0 → (a ≡ 0 → ⊥) → d ≤ 18446744073709551615 → f ≤ 18446744073709551615
        → Ok (Some (record { depth = d; first = f })) ≡ deep_of (deeper n (deep_in ws) (deep_in vs))
    deep_first y x h g = by_two (some (d, f)) none _ (some_first x) (in_none vs (sym qb ∙ y)) (narrow_pair d f h g)

  module _ (e g : ℕ) (qe : e ≡ get_or vs 24 0) (qg : g ≡ get_or vs 25 0) where
    some_second : (b ≡ 0 → ⊥) → deep_in vs ≡ some (e, g)
    some_second y = in_some vs (λ z. y (qb ∙ z)) ∙ sym (ap (λ (k : ℕ). some (k, g)) qe ∙ ap (λ (k : ℕ). some (get_or vs 24 0, k)) qg)

    pub deep_second : (r : Result (Maybe Deep) Refusal) → a ≡ 0 → (b ≡ 0 → ⊥) → r ≡ deep_of (some (e, n + g)) → r ≡ deep_of (deeper n (deep_in ws) (deep_in vs))
    deep_second r x y h = by_two none (some (e, g)) r (in_none ws (sym qa ∙ x)) (some_second y) h

    module _ (d f : ℕ) (qd : d ≡ get_or ws 24 0) (qf : f ≡ get_or ws 25 0) where
      pub deep_more : (r : Result (Maybe Deep) Refusal) → d < e → (a ≡ 0 → ⊥) → (b ≡ 0 → ⊥) → r ≡ deep_of (some (e, n + g)) → r ≡ deep_of (deeper n (deep_in ws) (deep_in vs))
      deep_more r l x y h = by_two (some (d, f)) (some (e, g)) r (some_first d f qd qf x) (some_second y) (h ∙ ap deep_of (sym (rw (lt-ltb d e l, deeper) refl)))

      pub deep_less : e ≤ d → (a ≡ 0 → ⊥) → (b ≡ 0 → ⊥) → d ≤ 18446744073709551615 → f ≤ 18446744073709551615
          → Ok (Some (record { depth = d; first = f })) ≡ deep_of (deeper n (deep_in ws) (deep_in vs))
      deep_less l x y h k =
          by_two (some (d, f)) (some (e, g)) _ (some_first d f qd qf x) (some_second y) (narrow_pair d f h k ∙ ap deep_of (sym (rw (le-ltb d e l, deeper) refl)))
