-- Laws of a requirement's line, one for each way out.
use Rattle.std.specs.Prelude.{◌≡◌, Bool, true, false, not, List, [], ◌++◌, ℕ, ◌+◌, ◌-◌, ◌≤◌, ◌<◌, eqb, leb, Some, None}
use Rattle.std.proofs.Common.{sym, ◌∙◌, arith, length-append}
use Rattle.std.proofs.Math.ListN.{length}
use borrow.Author.Tests.{eq-eqb, ne_eqb, lt-leb, le-leb, leb-true, leb-false, not-true, not-false}
use Rattle.basis.specs.Members.{split}
use Rattle.basis.specs.Quote.{utf8}
use Rattle.records.specs.Tables.{Tables}
use Rattle.records.specs.Views.{requirement_text}
use Rattle.texts.specs.Wrote.{Wrote}
use Rattle.texts.specs.Laws.Wrote.{wrote_none}
use Rattle.texts.specs.Indent.{indent}
use Rattle.texts.specs.MarkBits.{marks_at, marks_in}
use Rattle.texts.specs.Levels.{marks_count}
use Rattle.lines.specs.Said.{run_lead, run_tail, run_said, words_size}
use Rattle.lines.specs.Tried.{Tried, tried_wrote, tried_full}

-- ---- `fits`

pub fits_no : (room fixed more : ℕ) → room < fixed → false ≡ leb (fixed + more) room
fits_no room fixed more h = sym (lt-leb (fixed + more) room (omega arith))

pub fits_by : (room fixed more : ℕ) → fixed ≤ room → leb more (room - fixed) ≡ leb (fixed + more) room
fits_by room fixed more h =
    split (leb more (room - fixed))
    (λ q. let k : more ≤ room - fixed = leb-true more (room - fixed) q in q ∙ sym (le-leb (fixed + more) room (omega arith)))
    (λ q. let k : room - fixed < more = leb-false more (room - fixed) q in q ∙ sym (lt-leb (fixed + more) room (omega arith)))

-- ---- the wordings

module _ (top : Bool) (w : ℕ) where
  pub lead_is : w ≡ 0 → top ≡ true → run_lead top w ≡ utf8 "No candidates were found for "
  unfolding run_lead
  lead_is a b = rw (eq-eqb w 0 a, b)

  pub lead_below : w ≡ 0 → top ≡ false → run_lead top w ≡ []
  unfolding run_lead
  lead_below a b = rw (eq-eqb w 0 a, b)

  pub lead_other : (w ≡ 0 → ⊥) → run_lead top w ≡ []
  unfolding run_lead
  lead_other a = rw (ne_eqb w 0 a)

  pub stop_is : w ≡ 0 → top ≡ true → run_tail top w ≡ utf8 ".\n"
  unfolding run_tail
  stop_is a b = rw (eq-eqb w 0 a, b)

  pub found_is : w ≡ 0 → top ≡ false → run_tail top w ≡ utf8 ", for which no candidates were found.\n"
  unfolding run_tail
  found_is a b = rw (eq-eqb w 0 a, b)

  pub options_is : w ≡ 1 → top ≡ true → run_tail top w ≡ utf8 " can be installed with any of the following options:\n"
  unfolding run_tail
  options_is c b = rw (c, b)

  pub which_options_is : w ≡ 1 → top ≡ false → run_tail top w ≡ utf8 ", which can be installed with any of the following options:\n"
  unfolding run_tail
  which_options_is c b = rw (c, b)

  pub viable_is : (w ≡ 0 → ⊥) → (w ≡ 1 → ⊥) → top ≡ true → run_tail top w ≡ utf8 " cannot be installed because there are no viable options:\n"
  unfolding run_tail
  viable_is a c b = rw (ne_eqb w 0 a, ne_eqb w 1 c, b)

  pub which_viable_is : (w ≡ 0 → ⊥) → (w ≡ 1 → ⊥) → top ≡ false → run_tail top w ≡ utf8 ", which cannot be installed because there are no viable options:\n"
  unfolding run_tail
  which_viable_is a c b = rw (ne_eqb w 0 a, ne_eqb w 1 c, b)

  module _ (n : ℕ) where
    pub lead_room : w ≡ 0 → top ≡ true → length (run_lead top w) ≤ n → 29 ≤ n
    lead_room a b h = rw (lead_is a b) at h

    pub stop_room : w ≡ 0 → top ≡ true → length (run_tail top w) ≤ n → 2 ≤ n
    stop_room a b h = rw (stop_is a b) at h

    pub found_room : w ≡ 0 → top ≡ false → length (run_tail top w) ≤ n → 38 ≤ n
    found_room a b h = rw (found_is a b) at h

    pub options_room : w ≡ 1 → top ≡ true → length (run_tail top w) ≤ n → 53 ≤ n
    options_room c b h = rw (options_is c b) at h

    pub which_options_room : w ≡ 1 → top ≡ false → length (run_tail top w) ≤ n → 60 ≤ n
    which_options_room c b h = rw (which_options_is c b) at h

    pub viable_room : (w ≡ 0 → ⊥) → (w ≡ 1 → ⊥) → top ≡ true → length (run_tail top w) ≤ n → 58 ≤ n
    viable_room a c b h = rw (viable_is a c b) at h

    pub which_viable_room : (w ≡ 0 → ⊥) → (w ≡ 1 → ⊥) → top ≡ false → length (run_tail top w) ≤ n → 65 ≤ n
    which_viable_room a c b h = rw (which_viable_is a c b) at h

  module _ {o d : List ℕ} {r : ℕ} where
    pub lead_wrote : w ≡ 0 → top ≡ true → Wrote (utf8 "No candidates were found for ") o d r → Wrote (run_lead top w) o d r
    lead_wrote a b h = rw (lead_is a b) h

    pub stop_wrote : w ≡ 0 → top ≡ true → Wrote (utf8 ".\n") o d r → Wrote (run_tail top w) o d r
    stop_wrote a b h = rw (stop_is a b) h

    pub found_wrote : w ≡ 0 → top ≡ false → Wrote (utf8 ", for which no candidates were found.\n") o d r → Wrote (run_tail top w) o d r
    found_wrote a b h = rw (found_is a b) h

    pub options_wrote : w ≡ 1 → top ≡ true → Wrote (utf8 " can be installed with any of the following options:\n") o d r
        → Wrote (run_tail top w) o d r
    options_wrote c b h = rw (options_is c b) h

    pub which_options_wrote : w ≡ 1 → top ≡ false → Wrote (utf8 ", which can be installed with any of the following options:\n") o d r
        → Wrote (run_tail top w) o d r
    which_options_wrote c b h = rw (which_options_is c b) h

    pub viable_wrote : (w ≡ 0 → ⊥) → (w ≡ 1 → ⊥) → top ≡ true → Wrote (utf8 " cannot be installed because there are no viable options:\n") o d r
        → Wrote (run_tail top w) o d r
    viable_wrote a c b h = rw (viable_is a c b) h

    pub which_viable_wrote : (w ≡ 0 → ⊥) → (w ≡ 1 → ⊥) → top ≡ false → Wrote (utf8 ", which cannot be installed because there are no viable options:\n") o d r
        → Wrote (run_tail top w) o d r
    which_viable_wrote a c b h = rw (which_viable_is a c b) h

  pub lead_below_wrote : (o : List ℕ) → w ≡ 0 → top ≡ false → Wrote (run_lead top w) o o 0
  lead_below_wrote o a b = rw (lead_below a b) wrote_none

  pub lead_other_wrote : (o : List ℕ) → (w ≡ 0 → ⊥) → Wrote (run_lead top w) o o 0
  lead_other_wrote o a = rw (lead_other a) wrote_none

  pub stop_size : w ≡ 0 → top ≡ true → 31 ≡ words_size top w
  unfolding words_size
  stop_size a b = rw (stop_is a b, lead_is a b)

  pub found_size : w ≡ 0 → top ≡ false → 38 ≡ words_size top w
  unfolding words_size
  found_size a b = rw (found_is a b, lead_below a b)

  pub options_size : w ≡ 1 → top ≡ true → 53 ≡ words_size top w
  unfolding words_size
  options_size c b = rw (options_is c b, lead_other (λ q. omega arith))

  pub which_options_size : w ≡ 1 → top ≡ false → 60 ≡ words_size top w
  unfolding words_size
  which_options_size c b = rw (which_options_is c b, lead_other (λ q. omega arith))

  pub viable_size : (w ≡ 0 → ⊥) → (w ≡ 1 → ⊥) → top ≡ true → 58 ≡ words_size top w
  unfolding words_size
  viable_size a c b = rw (viable_is a c b, lead_other a)

  pub which_viable_size : (w ≡ 0 → ⊥) → (w ≡ 1 → ⊥) → top ≡ false → 65 ≡ words_size top w
  unfolding words_size
  which_viable_size a c b = rw (which_viable_is a c b, lead_other a)

pub ruleset leads = (lead_room, lead_wrote, lead_below_wrote, lead_other_wrote)

pub ruleset tails = (
  stop_room,
  stop_wrote,
  found_room,
  found_wrote,
  options_room,
  options_wrote,
  which_options_room,
  which_options_wrote,
  viable_room,
  viable_wrote,
  which_viable_room,
  which_viable_wrote,
)

pub ruleset sizes = (stop_size, found_size, options_size, which_options_size, viable_size, which_viable_size)

-- ---- the line

pub tail_some : (top : Bool) (w : ℕ) → 0 < length (run_tail top w)
unfolding run_tail
tail_some true w = split (eqb w 0) (λ q. rw q (omega arith)) (λ q. split (eqb w 1) (λ e. rw (q, e) (omega arith)) (λ e. rw (q, e) (omega arith)))
tail_some false w = split (eqb w 0) (λ q. rw q (omega arith)) (λ q. split (eqb w 1) (λ e. rw (q, e) (omega arith)) (λ e. rw (q, e) (omega arith)))

-- a: the indent's length, s: that of the wording, text: the requirement's
module _ (T : Tables) (top : Bool) (ws : List ℕ) (n w q : ℕ) (text : List ℕ) (is : text ≡ requirement_text T q) where
  run_is : run_said T top (marks_at ws n) w q ≡ indent top (marks_at ws n) ++ run_lead (eqb n 1) w ++ text ++ run_tail (eqb n 1) w
  unfolding run_said marks_in
  run_is = let c : length (marks_at ws n) ≡ n = marks_count (record { levels = ws; count = n; top = top }) in rw (is, c)

  run_size : length (run_said T top (marks_at ws n) w q) ≡ length (indent top (marks_at ws n)) + (length (run_lead (eqb n 1) w) + length (run_tail (eqb n 1) w))
      + length text
  run_size = rw (run_is, length-append, length-append, length-append) (omega arith)

  pub run_wrote : (o d : List ℕ) (r : ℕ) → Wrote (indent top (marks_at ws n) ++ run_lead (eqb n 1) w ++ text ++ run_tail (eqb n 1) w) o d r
      → Tried (run_said T top (marks_at ws n) w q) o d (Some r)
  run_wrote o d r h =
      let l = run_size in
      let z = tail_some (eqb n 1) w in
      tried_wrote (rw run_is h) (omega arith)

  module _ (o : List ℕ) (a s : ℕ) (f : Bool) (fi : f ≡ leb (a + s + length text) (length o)) (ai : a ≡ length (indent top (marks_at ws n)))
      (si : s ≡ words_size (eqb n 1) w) where
    s_is : s ≡ length (run_lead (eqb n 1) w) + length (run_tail (eqb n 1) w)
    unfolding words_size
    s_is = si

    pub run_full : not f ≡ true → Tried (run_said T top (marks_at ws n) w q) o o None
    run_full e =
        let l = run_size in
        let k = s_is in
        let h : length o < a + s + length text = leb-false (a + s + length text) (length o) (sym fi ∙ not-true f e) in
        tried_full (run_said T top (marks_at ws n) w q) o (omega arith)

    pub run_room : not f ≡ false → length (indent top (marks_at ws n)) + (length (run_lead (eqb n 1) w) + length (run_tail (eqb n 1) w)) + length text ≤ length o
    run_room e =
        let k = s_is in
        let h : a + s + length text ≤ length o = leb-true (a + s + length text) (length o) (sym fi ∙ not-false f e) in
        omega arith
