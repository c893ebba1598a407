-- Joining two lent reports: the ways through the code.
use Rattle.std.specs.Prelude.{◌≡◌, Bool, false, not, ◌&&◌, List, [], ◌∷◌, ◌++◌, ℕ, zero, suc, ◌+◌, ◌-◌, ◌≤◌, ◌<◌, length, get_or, take, drop, set, eqb}
use Rattle.std.proofs.Math.Path.{refl, sym, ap}
use Rattle.std.proofs.Common.{◌∙◌, arith, length-drop, take-suc, take-take}
use Rattle.std.proofs.Math.Bool.{true, and-false}
use Rattle.std.proofs.Math.Option.{Option, none, some}
use Rattle.std.proofs.Math.Seq.{length-take-le}
use borrow.Author.Tests.{lt-ltb, le-ltb, ltb-true, ltb-false, eq-eqb, ne_eqb, not-true, not-false}
use Rattle.basis.specs.Lists.{all}
use Rattle.basis.specs.Guard.{guard}
use Rattle.basis.specs.Laws.Guard.{guard_no, guard_yes}
use Rattle.basis.specs.Members.{split, clash}
use Rattle.basis.specs.Below.{all_below}
use Rattle.std.specs.Prelude.{Option as Maybe, Some, None, Result, Ok, Err}
use Rattle.season.specs.declared.Refusal.{Refusal}
use Rattle.season.specs.declared.Refusal.TheVariants as R
use Rattle.season.specs.declared.Deep.{Deep}
use Rattle.season.specs.Report.{sum, sums, narrow, numbers, deeper, join, files, fits_widths}
use Rattle.season.specs.Words.{report_of, deep_in, named, words_of, both, join_by, join_words}
use Rattle.season.specs.Steps.{pair_fits, added, files_in, total_of, shown_deep, no_deep, deep_of, plan_of, three_put, refusal_number, number_said}
use Rattle.season.specs.Laws.Reports.{files_join}
use Rattle.season.specs.Laws.Words.{sums_snoc, length_sums_take}

-- ---- the three tests

all_snoc : (p : ℕ → Bool) (x : List ℕ) (a : ℕ) → all p (x ++ (a ∷ [])) ≡ (all p x && p a)
all_snoc p [] a = split (p a) (λ t. rw (t, all)) (λ t. rw (t, all))
all_snoc p (b ∷ x) a = split (p b) (λ t. rw (t, all) (all_snoc p x a)) (λ t. rw (t, all))

counts_all : (ws vs : List ℕ) (i : ℕ) → i ≤ length ws → i ≤ length vs → all narrow (sums (take i ws) (take i vs)) ≡ all_below (pair_fits ws vs) i
unfolding all_below pair_fits
counts_all ws vs zero h l = refl
counts_all ws vs (suc i) h l =
    rw (take-suc ws i 0 (omega arith), take-suc vs i 0 (omega arith))
    (ap (all narrow) (sums_snoc (take i ws) (take i vs) (get_or ws i 0) (get_or vs i 0) (length-take-le i ws (omega arith)
    ∙ sym (length-take-le i vs (omega arith))))
    ∙ all_snoc narrow (sums (take i ws) (take i vs)) (get_or ws i 0 + get_or vs i 0)
    ∙ ap (λ (b : Bool). b && narrow (get_or ws i 0 + get_or vs i 0)) (counts_all ws vs i (omega arith) (omega arith)))

files_report : (ws : List ℕ) → files (report_of ws) ≡ files_in ws 19
unfolding files report_of files_in
files_report ws = ap sum (take-take 19 24 ws (omega arith))

total_narrow : (N : ℕ) → narrow N ≡ true → total_of N ≡ Ok N
unfolding total_of
total_narrow N t = rw (t, total_of)

total_wide : (N : ℕ) → narrow N ≡ false → total_of N ≡ Err R.Wide
unfolding total_of
total_wide N t = rw (t, total_of)

deep_guard : (o : Option (ℕ × ℕ)) → deep_of o ≡ guard (all narrow (numbers o)) no_deep (Ok (shown_deep o))
unfolding deep_of guard
deep_guard o = split (all narrow (numbers o)) (λ t. rw (t, deep_of)) (λ t. rw (t, deep_of))

module _ (ws vs : List ℕ) (full : length ws ≡ 27) (full' : length vs ≡ 27) where
  counts_is : all narrow (both ws vs).counts ≡ all_below (pair_fits ws vs) 24
  unfolding join report_of
  counts_is = counts_all ws vs 24 (omega arith) (omega arith)

  full_one : length (report_of ws).counts ≡ 24
  unfolding report_of
  full_one = length-take-le 24 ws (omega arith)

  full_two : length (report_of vs).counts ≡ 24
  unfolding report_of
  full_two = length-take-le 24 vs (omega arith)

  files_is : files (both ws vs) ≡ files_in ws 19 + files_in vs 19
  files_is = files_join (report_of ws) (report_of vs) full_one full_two ∙ rw (files_report ws, files_report vs)

  deep_is : (both ws vs).deepest ≡ deeper (files_in ws 19) (deep_in ws) (deep_in vs)
  unfolding join report_of
  deep_is = ap (λ (n : ℕ). deeper n (deep_in ws) (deep_in vs)) (files_report ws)

  fits_is : fits_widths (both ws vs) ≡ (all_below (pair_fits ws vs) 24
      && (narrow (files_in ws 19 + files_in vs 19) && all narrow (numbers (deeper (files_in ws 19) (deep_in ws) (deep_in vs)))))
  unfolding fits_widths
  fits_is = rw (counts_is, files_is, deep_is)

  not_counts : all_below (pair_fits ws vs) 24 ≡ false → fits_widths (both ws vs) ≡ false
  not_counts e = fits_is ∙ rw e

  not_files : 18446744073709551616 ≤ files_in ws 19 + files_in vs 19 → fits_widths (both ws vs) ≡ false
  not_files h = fits_is ∙ rw (le-ltb (files_in ws 19 + files_in vs 19) 18446744073709551616 h) (and-false (all_below (pair_fits ws vs) 24))

  plan_no : fits_widths (both ws vs) ≡ false → no_deep ≡ plan_of ws vs
  unfolding plan_of
  plan_no e = guard_no no_deep (Ok (shown_deep (both ws vs).deepest)) (fits_widths (both ws vs)) e

  pub plan_counts : (t : Bool) → t ≡ all_below (pair_fits ws vs) 24 → not t ≡ true → no_deep ≡ plan_of ws vs
  plan_counts t q e = plan_no (not_counts (sym q ∙ not-true t e))

  total_no : (N : ℕ) → total_of N ≡ Err R.Wide → 18446744073709551616 ≤ N
  total_no N e =
      split (narrow N)
      (λ t. clash (let z : Ok N ≡ Err R.Wide = sym (total_narrow N t) ∙ e in cc))
      (λ t. ltb-false N 18446744073709551616 t)

  total_yes : (N n : ℕ) → total_of N ≡ Ok n → (N < 18446744073709551616) × (n ≡ N)
  total_yes N n e =
      split (narrow N)
      (λ t. (ltb-true N 18446744073709551616 t, let z : Ok n ≡ Ok N = sym e ∙ total_narrow N t in cc))
      (λ t. clash (let z : Ok n ≡ Err R.Wide = sym e ∙ total_wide N t in cc))

  total_err : (N : ℕ) (x : Refusal) → total_of N ≡ Err x → x ≡ R.Wide
  total_err N x e =
      split (narrow N)
      (λ t. clash (let z : Ok N ≡ Err x = sym (total_narrow N t) ∙ e in cc))
      (λ t. let z : Err R.Wide ≡ Err x = sym (total_wide N t) ∙ e in cc)

  module _ (f : Result ℕ Refusal) (q : f ≡ total_of (files_in ws 19)) where
    pub plan_first : (x : Refusal) → f ≡ Err x → Err x ≡ plan_of ws vs
    plan_first x e =
        let z : x ≡ R.Wide = total_err (files_in ws 19) x (sym q ∙ e) in
        rw z (plan_no (not_files (omega (arith, total_no (files_in ws 19) (rw z at (sym q ∙ e))))))

    pub plan_second : (g : Result ℕ Refusal) (x : Refusal) → g ≡ total_of (files_in vs 19) → g ≡ Err x → Err x ≡ plan_of ws vs
    plan_second g x p e =
        let z : x ≡ R.Wide = total_err (files_in vs 19) x (sym p ∙ e) in
        rw z (plan_no (not_files (omega (arith, total_no (files_in vs 19) (rw z at (sym p ∙ e))))))

    module _ (g : Result ℕ Refusal) (p : g ≡ total_of (files_in vs 19)) (n m : ℕ) (ef : f ≡ Ok n) (eg : g ≡ Ok m) where
      pub plan_sum : 18446744073709551615 - n < m → no_deep ≡ plan_of ws vs
      plan_sum h =
          let a = total_yes (files_in ws 19) n (sym q ∙ ef) in let b = total_yes (files_in vs 19) m (sym p ∙ eg) in
          plan_no (not_files (omega (arith, a.0, a.1, b.1)))

      pub plan_deep : (t : Bool) (r : Result (Maybe Deep) Refusal) → t ≡ all_below (pair_fits ws vs) 24 → not t ≡ false → m ≤ 18446744073709551615 - n
          → r ≡ deep_of (deeper n (deep_in ws) (deep_in vs)) → r ≡ plan_of ws vs
      unfolding plan_of
      plan_deep t r k e h j =
          let a = total_yes (files_in ws 19) n (sym q ∙ ef) in let b = total_yes (files_in vs 19) m (sym p ∙ eg) in
          let c : all_below (pair_fits ws vs) 24 ≡ true = sym k ∙ not-false t e in
          let l : narrow (files_in ws 19 + files_in vs 19) ≡ true = lt-ltb (files_in ws 19
          + files_in vs 19) 18446744073709551616 (omega (arith, a.0, a.1, b.1)) in
          let o : Option (ℕ × ℕ) = deeper (files_in ws 19) (deep_in ws) (deep_in vs) in
          let v : fits_widths (both ws vs) ≡ all narrow (numbers o) = fits_is ∙ rw (c, l) refl in
          let j2 : r ≡ deep_of o = rw a.1 at j in
          j2 ∙ deep_guard o ∙ ap (λ (x : Bool). guard x no_deep (Ok (shown_deep o))) (sym v)
          ∙ ap (λ (x : Option (ℕ × ℕ)). guard (fits_widths (both ws vs)) no_deep (Ok (shown_deep x))) (sym deep_is)

-- ---- the ways through the call; d is the plan

plan_yes : (ws vs : List ℕ) (d : Maybe Deep) → plan_of ws vs ≡ Ok d → (fits_widths (both ws vs) ≡ true) × (d ≡ shown_deep (both ws vs).deepest)
unfolding plan_of guard
plan_yes ws vs d q =
    split (fits_widths (both ws vs))
    (λ t. (t, let z : Ok (shown_deep (both ws vs).deepest) ≡ Ok d = rw t at q in cc))
    (λ t. clash (let z : no_deep ≡ Ok d = rw t at q in cc))

plan_err : (ws vs : List ℕ) (x : Refusal) → plan_of ws vs ≡ Err x → (fits_widths (both ws vs) ≡ false) × (x ≡ R.Wide)
unfolding plan_of guard
plan_err ws vs x q =
    split (fits_widths (both ws vs))
    (λ t. clash (let z : Ok (shown_deep (both ws vs).deepest) ≡ Err x = rw t at q in cc))
    (λ t. (t, let z : Err R.Wide ≡ Err x = rw t at q in cc))

module _ {X : Type 0} (ws vs : List ℕ) (short wide done y : X) where
  pub by_one : (length ws ≡ 27 → ⊥) → y ≡ short → y ≡ join_by ws vs short wide done
  unfolding join_by
  by_one h e = e ∙ guard_no short _ (eqb (length ws) 27) (ne_eqb (length ws) 27 h)

  pub by_two : length ws ≡ 27 → (length vs ≡ 27 → ⊥) → y ≡ short → y ≡ join_by ws vs short wide done
  unfolding join_by
  by_two l h e = guard_yes short _ (eqb (length ws) 27) y (eq-eqb (length ws) 27 l) (e ∙ guard_no short _ (eqb (length vs) 27) (ne_eqb (length vs) 27 h))

  module _ (r : Result (Maybe Deep) Refusal) (q : r ≡ plan_of ws vs) (l : length ws ≡ 27) (m : length vs ≡ 27) where
    pub by_wide : (x : Refusal) → r ≡ Err x → y ≡ wide → y ≡ join_by ws vs short wide done
    unfolding join_by
    by_wide x t e =
        guard_yes short _ (eqb (length ws) 27) y (eq-eqb (length ws) 27 l)
        (guard_yes short _ (eqb (length vs) 27) y (eq-eqb (length vs) 27 m)
        (e ∙ guard_no wide done (fits_widths (both ws vs)) (plan_err ws vs x (sym q ∙ t)).0))

    pub by_done : (d : Maybe Deep) → r ≡ Ok d → y ≡ done → y ≡ join_by ws vs short wide done
    unfolding join_by
    by_done d t e =
        guard_yes short _ (eqb (length ws) 27) y (eq-eqb (length ws) 27 l)
        (guard_yes short _ (eqb (length vs) 27) y (eq-eqb (length vs) 27 m)
        (guard_yes wide done (fits_widths (both ws vs)) y (plan_yes ws vs d (sym q ∙ t)).0 e))

-- a refusal of the plan is 14
pub plan_number : (ws vs : List ℕ) (r : Result (Maybe Deep) Refusal) (x : Refusal) → r ≡ plan_of ws vs → r ≡ Err x → refusal_number x ≡ 14
plan_number ws vs r x q t = rw (plan_err ws vs x (sym q ∙ t)).1 refl

and_first : (a b : Bool) → (a && b) ≡ true → a ≡ true
and_first true b e = refl
and_first false b e = clash (let z : false ≡ true = e in cc)

pub plan_fits : (ws vs : List ℕ) (r : Result (Maybe Deep) Refusal) (d : Maybe Deep) → r ≡ plan_of ws vs → r ≡ Ok d → length ws ≡ 27 → length vs ≡ 27
    → all_below (pair_fits ws vs) 24 ≡ true
plan_fits ws vs r d q t l m = and_first _ _ (sym (fits_is ws vs l m) ∙ (plan_yes ws vs d (sym q ∙ t)).0)

-- ---- the words

pub three_none : (list l1 l2 l3 : List ℕ) → l1 ≡ set list 24 0 → l2 ≡ set l1 25 0 → l3 ≡ set l2 26 0 → l3 ≡ three_put list None
unfolding three_put
three_none list l1 l2 l3 e f g = rw (g, f, e)

pub three_some : (list l1 l2 l3 : List ℕ) (d : Deep) → l1 ≡ set list 24 d.depth → l2 ≡ set l1 25 d.first → l3 ≡ set l2 26 1 → l3 ≡ three_put list (Some d)
unfolding three_put
three_some list l1 l2 l3 d e f g = rw (g, f, e)

pub put_at_lem : (c t : List ℕ) (j m v : ℕ) → length c + j ≡ m → set (c ++ t) m v ≡ c ++ set t j v
put_at_lem [] t j m v h = let z : m ≡ j = omega arith in rw z
put_at_lem (x ∷ c) t j zero v h = let z : ⊥ = omega arith in absurd z
put_at_lem (x ∷ c) t j (suc m) v h = ap (λ (l : List ℕ). x ∷ l) (put_at_lem c t j m v (omega arith))

last_three : (t : List ℕ) (a b e : ℕ) → length t ≡ 3 → set (set (set t 0 a) 1 b) 2 e ≡ a ∷ b ∷ e ∷ []
last_three [] a b e k = let z : ⊥ = omega arith in absurd z
last_three (x ∷ []) a b e k = let z : ⊥ = omega arith in absurd z
last_three (x ∷ y ∷ []) a b e k = let z : ⊥ = omega arith in absurd z
last_three (x ∷ y ∷ z ∷ []) a b e k = refl
last_three (x ∷ y ∷ z ∷ (w ∷ t)) a b e k = let u : ⊥ = omega arith in absurd u

puts_three : (c t : List ℕ) (a b e : ℕ) → length c ≡ 24 → length t ≡ 3 → set (set (set (c ++ t) 24 a) 25 b) 26 e ≡ c ++ (a ∷ b ∷ e ∷ [])
puts_three c t a b e h k =
    ap (λ (l : List ℕ). set (set l 25 b) 26 e) (put_at_lem c t 0 24 a (omega arith))
    ∙ ap (λ (l : List ℕ). set l 26 e) (put_at_lem c (set t 0 a) 1 25 b (omega arith))
    ∙ put_at_lem c (set (set t 0 a) 1 b) 2 26 e (omega arith)
    ∙ ap (λ (l : List ℕ). c ++ l) (last_three t a b e k)

three_is : (c t : List ℕ) (o : Option (ℕ × ℕ)) → length c ≡ 24 → length t ≡ 3 → three_put (c ++ t) (shown_deep o) ≡ c ++ named o
unfolding three_put
three_is c t none h k = puts_three c t 0 0 0 h k
three_is c t (some p) h k = puts_three c t p.0 p.1 1 h k

pub words_done : (ws vs l m : List ℕ) (r : Result (Maybe Deep) Refusal) (d : Maybe Deep) → r ≡ plan_of ws vs → r ≡ Ok d → length ws ≡ 27 → length vs ≡ 27
    → l ≡ added ws vs 24 → m ≡ three_put l d → m ≡ join_words ws vs
unfolding words_of join report_of added plan_of
words_done ws vs l m r d q t h k e f =
    by_done ws vs ws ws (words_of (both ws vs)) m r q h k d t
    (f ∙ rw ((plan_yes ws vs d (sym q ∙ t)).1, e)
    (three_is (sums (take 24 ws) (take 24 vs)) (drop 24 ws) (both ws vs).deepest (length_sums_take ws vs 24 (omega arith) (omega arith))
    (length-drop 24 ws ∙ omega arith)))

-- ---- the number of an answer is that of one answer

pub number_said_one : (a b : Result (Unit {0}) Refusal) → number_said a ≡ number_said b → a ≡ b
number_said_one (Ok u) (Ok v) e = refl
number_said_one (Ok u) (Err R.Short) e = absurd (omega arith)
number_said_one (Ok u) (Err R.Wide) e = absurd (omega arith)
number_said_one (Err R.Short) (Ok v) e = absurd (omega arith)
number_said_one (Err R.Short) (Err R.Short) e = refl
number_said_one (Err R.Short) (Err R.Wide) e = absurd (omega arith)
number_said_one (Err R.Wide) (Ok v) e = absurd (omega arith)
number_said_one (Err R.Wide) (Err R.Short) e = absurd (omega arith)
number_said_one (Err R.Wide) (Err R.Wide) e = refl
