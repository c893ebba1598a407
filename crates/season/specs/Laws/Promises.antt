-- What order 8 asks of the public words: the joining rule, associativity and unit, and when 14 comes.
use Rattle.std.specs.Prelude.{◌≡◌, refl, Bool, List, ℕ, length, eqb}
use Rattle.std.proofs.Math.Path.{sym, ap}
use Rattle.std.proofs.Common.{◌∙◌, arith, length-append, length-take-le}
use Rattle.std.proofs.Math.Bool.{true, false, true≢false}
use Rattle.std.proofs.Math.Option.{Option, none, some}
use borrow.Author.Tests.{eq-eqb, eqb-true}
use Rattle.basis.specs.Guard.{guard}
use Rattle.basis.specs.Members.{split}
use Rattle.season.specs.Report.{Report, Joining, whole, wide, join, empty, fits_widths, joined_reports, or_kept}
use Rattle.season.specs.Words.{report_of, named, words_of, both, join_by, join_number, join_words}
use Rattle.season.specs.Laws.Reports.{Full, join_full, empty_full, join_assoc, join_empty, empty_join}
use Rattle.season.specs.Laws.Words.{words_back}

named_long : (o : Option (ℕ × ℕ)) → length (named o) ≡ 3
named_long none = refl
named_long (some p) = refl

-- ---- the words of full reports

pub words_long : (r : Report) → Full r → length (words_of r) ≡ 27
unfolding words_of
words_long r f = length-append r.counts (named r.deepest) ∙ omega (arith, f, named_long r.deepest)

pub joined_yes : (r s : Report) → fits_widths (join r s) ≡ true → joined_reports r s ≡ whole (join r s)
unfolding joined_reports
joined_yes r s h = rw (h, joined_reports)

joined_no : (r s : Report) → fits_widths (join r s) ≡ false → joined_reports r s ≡ wide
unfolding joined_reports
joined_no r s h = rw (h, joined_reports)

-- a joining that is done fits
pub whole_fits : (x y z : Report) → joined_reports x y ≡ whole z → fits_widths (join x y) ≡ true
whole_fits x y z h =
    split (fits_widths (join x y)) (λ u. u)
    (λ u. absurd (true≢false (ap (λ (j : Joining). elim j [ whole w ↦ false | wide ↦ true ]) (sym (joined_no x y u) ∙ h))))

module _ (r s : Report) (f : Full r) (g : Full s) where
  both_is : both (words_of r) (words_of s) ≡ join r s
  both_is = ap (λ (x : Report). join x (report_of (words_of s))) (words_back r f) ∙ ap (join r) (words_back s g)

  -- past the lengths
  pub by_fits : {X : Type 0} (a b c : X) → join_by (words_of r) (words_of s) a b c ≡ guard (fits_widths (join r s)) b c
  unfolding join_by guard
  by_fits a b c =
      rw (eq-eqb (length (words_of r)) 27 (words_long r f), eq-eqb (length (words_of s)) 27 (words_long s g), both_is)

  -- "14 if a count would pass its width", exactly
  pub join_wide : fits_widths (join r s) ≡ false → join_number (words_of r) (words_of s) ≡ 14
  unfolding guard
  join_wide h = by_fits 10 14 0 ∙ rw h

  pub join_fits : fits_widths (join r s) ≡ true → join_number (words_of r) (words_of s) ≡ 0
  unfolding guard
  join_fits h = by_fits 10 14 0 ∙ rw h

  -- the words are those of the joined report, or "report unchanged"
  pub join_words_lem : join_words (words_of r) (words_of s) ≡ words_of (or_kept r (joined_reports r s))
  unfolding guard
  join_words_lem =
      by_fits (words_of r) (words_of r) (words_of (both (words_of r) (words_of s)))
      ∙ split (fits_widths (join r s))
      (λ t. rw (t, both_is, joined_yes r s t))
      (λ t. rw (t, joined_no r s t))

  pub kept_full : Full (or_kept r (joined_reports r s))
  kept_full =
      split (fits_widths (join r s))
      (λ t. rw (joined_yes r s t) (join_full r s f g))
      (λ t. rw (joined_no r s t) f)

-- ---- "joining is associative where none of the joinings gets 14, the empty report its unit"

module _ (r s t a b c : Report) (f : Full r) (g : Full s) where
  whole_is : (x y z : Report) → joined_reports x y ≡ whole z → join x y ≡ z
  unfolding joined_reports
  whole_is x y z h =
      split (fits_widths (join x y))
      (λ u. let k : whole (join x y) ≡ whole z = sym (joined_yes x y u) ∙ h in ap (or_kept x) k)
      (λ u. absurd (never (sym (joined_no x y u) ∙ h)))
    where
      never : wide ≡ whole z → ⊥
      never e = true≢false (ap (λ (j : Joining). elim j [ whole w ↦ false | wide ↦ true ]) e)

  pub joined_assoc : joined_reports r s ≡ whole a → joined_reports a t ≡ whole b → joined_reports s t ≡ whole c → joined_reports r c ≡ whole b
  joined_assoc h k l =
      let q : join r c ≡ b =
      ap (join r) (sym (whole_is s t c l)) ∙ sym (join_assoc r s t f g) ∙ ap (λ (x : Report). join x t) (whole_is r s a h) ∙ whole_is a t b k in
      let v : fits_widths (join r c) ≡ true = ap fits_widths (q ∙ sym (whole_is a t b k)) ∙ whole_fits a t b k in
      joined_yes r c v ∙ ap whole q

pub joined_empty : (r : Report) → Full r → fits_widths r ≡ true → joined_reports r empty ≡ whole r
joined_empty r f h = joined_yes r empty (ap fits_widths (join_empty r f) ∙ h) ∙ ap whole (join_empty r f)

pub empty_joined : (r : Report) → Full r → fits_widths r ≡ true → joined_reports empty r ≡ whole r
empty_joined r f h = joined_yes empty r (ap fits_widths (empty_join r f) ∙ h) ∙ ap whole (empty_join r f)

-- ---- the same of lent words, whatever they hold

past_tests : (p q t : Bool) → ◌≡◌ {A = ℕ} (guard p 10 (guard q 10 (guard t 14 0))) 0 → (p ≡ true) × (q ≡ true) × (t ≡ true)
unfolding guard
past_tests true true true h = (refl, refl, refl)
past_tests true true false h = let z : ⊥ = omega arith in absurd z
past_tests true false t h = let z : ⊥ = omega arith in absurd z
past_tests false q t h = let z : ⊥ = omega arith in absurd z

full_of : (ws : List ℕ) → length ws ≡ 27 → Full (report_of ws)
unfolding report_of
full_of ws h = length-take-le 24 ws (omega arith)

module _ (ws vs : List ℕ) (h : join_number ws vs ≡ 0) where
  tests : (eqb (length ws) 27 ≡ true) × (eqb (length vs) 27 ≡ true) × (fits_widths (both ws vs) ≡ true)
  unfolding join_by
  tests = past_tests (eqb (length ws) 27) (eqb (length vs) 27) (fits_widths (both ws vs)) h

  full_first : Full (report_of ws)
  full_first = full_of ws (eqb-true (length ws) 27 tests.0)

  full_second : Full (report_of vs)
  full_second = full_of vs (eqb-true (length vs) 27 tests.1)

  done_words : join_words ws vs ≡ words_of (both ws vs)
  unfolding join_by guard
  done_words = rw (tests.0, tests.1, tests.2)

  -- a joining that is done reads as both reports joined
  pub done_reads : report_of (join_words ws vs) ≡ join (report_of ws) (report_of vs)
  done_reads = ap report_of done_words ∙ words_back (both ws vs) (join_full (report_of ws) (report_of vs) full_first full_second)

-- "joining is associative where none of the four joinings gets 14"
pub words_assoc : (us vs ws : List ℕ) → join_number us vs ≡ 0 → join_number (join_words us vs) ws ≡ 0 → join_number vs ws ≡ 0 → join_number us (join_words vs ws) ≡ 0
    → join_words (join_words us vs) ws ≡ join_words us (join_words vs ws)
words_assoc us vs ws a b c d =
    done_words (join_words us vs) ws b
    ∙ ap (λ (r : Report). words_of (join r (report_of ws))) (done_reads us vs a)
    ∙ ap words_of (join_assoc (report_of us) (report_of vs) (report_of ws) (full_first us vs a) (full_second us vs a))
    ∙ ap (λ (r : Report). words_of (join (report_of us) r)) (sym (done_reads vs ws c))
    ∙ sym (done_words us (join_words vs ws) d)

-- "the empty report its unit", of every report that was written
module _ (r : Report) (f : Full r) (h : fits_widths r ≡ true) where
  pub words_empty : join_words (words_of r) (words_of empty) ≡ words_of r
  words_empty = join_words_lem r empty f empty_full ∙ ap (λ (j : Joining). words_of (or_kept r j)) (joined_empty r f h)

  pub empty_words : join_words (words_of empty) (words_of r) ≡ words_of r
  empty_words = join_words_lem empty r empty_full f ∙ ap (λ (j : Joining). words_of (or_kept empty j)) (empty_joined r f h)
