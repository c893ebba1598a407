-- Laws of a package's line, one for each way out.
use Rattle.std.specs.Prelude.{◌≡◌, Bool, true, false, not, List, ◌++◌, ℕ, ◌+◌, ◌≤◌, ◌<◌, eqb, leb, Some, None}
use Rattle.std.proofs.Common.{sym, ◌∙◌}
use native.Mathlib.Omega.{arith}
use Rattle.std.proofs.Math.ListN.{length, length-append}
use borrow.Author.Tests.{eq-eqb, ne_eqb, leb-true, leb-false, not-true, not-false}
use Rattle.basis.specs.Members.{split}
use Rattle.basis.specs.Quote.{utf8}
use Rattle.records.specs.Tables.{Tables}
use Rattle.records.specs.Views.{reason_text}
use Rattle.texts.specs.Wrote.{Wrote}
use Rattle.texts.specs.Indent.{indent}
use Rattle.plan.specs.Fields.{tag_in, reason_in, text_length}
use Rattle.plan.specs.Texts.{package_in}
use Rattle.lines.specs.Said.{package_tail, tail_size, package_said}
use Rattle.lines.specs.Tried.{Tried, tried_wrote, tried_full}

-- ---- what stands behind the package

module _ (T : Tables) (t why : ℕ) where
  reason_is : t ≡ 0 → package_tail T t why ≡ utf8 " is excluded because " ++ reason_text T why ++ utf8 "\n"
  unfolding package_tail
  reason_is a = rw (eq-eqb t 0 a)

  bare_is : t ≡ 1 → package_tail T t why ≡ utf8 "\n"
  unfolding package_tail
  bare_is b = rw b

  conflicts_is : t ≡ 2 → package_tail T t why ≡ utf8 ", which conflicts with the versions reported above.\n"
  unfolding package_tail
  conflicts_is c = rw c

  constrain_is : t ≡ 3 → package_tail T t why ≡ utf8 " would constrain\n"
  unfolding package_tail
  constrain_is d = rw d

  require_is : (t ≡ 0 → ⊥) → (t ≡ 1 → ⊥) → (t ≡ 2 → ⊥) → (t ≡ 3 → ⊥) → package_tail T t why ≡ utf8 " would require\n"
  unfolding package_tail
  require_is a b c d = rw (ne_eqb t 0 a, ne_eqb t 1 b, ne_eqb t 2 c, ne_eqb t 3 d)

  pub reason_room : (text : List ℕ) (n : ℕ) → t ≡ 0 → text ≡ reason_text T why → length (package_tail T t why) ≤ n → 22 + length text ≤ n
  reason_room text n a e h =
      let l : length (package_tail T t why) ≡ 21 + length text + 1 = rw (reason_is a, ← e) (omega (arith, length-append text (utf8 "\n"))) in
      omega arith

  pub reason_wrote : (text o d : List ℕ) (r : ℕ) → t ≡ 0 → text ≡ reason_text T why → Wrote (utf8 " is excluded because " ++ text ++ utf8 "\n") o d r
      → Wrote (package_tail T t why) o d r
  reason_wrote text o d r a e h = rw (reason_is a, ← e) h

  pub bare_room : (n : ℕ) → t ≡ 1 → length (package_tail T t why) ≤ n → 1 ≤ n
  bare_room n b h = rw (bare_is b) at h

  pub bare_wrote : (o x : List ℕ) (r : ℕ) → t ≡ 1 → Wrote (utf8 "\n") o x r → Wrote (package_tail T t why) o x r
  bare_wrote o x r b h = rw (bare_is b) h

  pub conflicts_room : (n : ℕ) → t ≡ 2 → length (package_tail T t why) ≤ n → 52 ≤ n
  conflicts_room n c h = rw (conflicts_is c) at h

  pub conflicts_wrote : (o x : List ℕ) (r : ℕ) → t ≡ 2 → Wrote (utf8 ", which conflicts with the versions reported above.\n") o x r
      → Wrote (package_tail T t why) o x r
  conflicts_wrote o x r c h = rw (conflicts_is c) h

  pub constrain_room : (n : ℕ) → t ≡ 3 → length (package_tail T t why) ≤ n → 17 ≤ n
  constrain_room n d h = rw (constrain_is d) at h

  pub constrain_wrote : (o x : List ℕ) (r : ℕ) → t ≡ 3 → Wrote (utf8 " would constrain\n") o x r
      → Wrote (package_tail T t why) o x r
  constrain_wrote o x r d h = rw (constrain_is d) h

  pub require_room : (n : ℕ) → (t ≡ 0 → ⊥) → (t ≡ 1 → ⊥) → (t ≡ 2 → ⊥) → (t ≡ 3 → ⊥) → length (package_tail T t why) ≤ n → 15 ≤ n
  require_room n a b c d h = rw (require_is a b c d) at h

  pub require_wrote : (o x : List ℕ) (r : ℕ) → (t ≡ 0 → ⊥) → (t ≡ 1 → ⊥) → (t ≡ 2 → ⊥) → (t ≡ 3 → ⊥) → Wrote (utf8 " would require\n") o x r
      → Wrote (package_tail T t why) o x r
  require_wrote o x r a b c d h = rw (require_is a b c d) h

module _ (t : ℕ) where
  pub reason_size : t ≡ 0 → 22 ≡ tail_size t
  unfolding tail_size
  reason_size a = rw (eq-eqb t 0 a)

  pub bare_size : t ≡ 1 → 1 ≡ tail_size t
  unfolding tail_size
  bare_size b = rw b

  pub conflicts_size : t ≡ 2 → 52 ≡ tail_size t
  unfolding tail_size
  conflicts_size c = rw c

  pub constrain_size : t ≡ 3 → 17 ≡ tail_size t
  unfolding tail_size
  constrain_size d = rw d

  pub require_size : (t ≡ 0 → ⊥) → (t ≡ 1 → ⊥) → (t ≡ 2 → ⊥) → (t ≡ 3 → ⊥) → 15 ≡ tail_size t
  unfolding tail_size
  require_size a b c d = rw (ne_eqb t 0 a, ne_eqb t 1 b, ne_eqb t 2 c, ne_eqb t 3 d)

pub ruleset package_tails =
    (reason_room, reason_wrote, bare_room, bare_wrote, conflicts_room, conflicts_wrote, constrain_room, constrain_wrote, require_room, require_wrote)

pub ruleset package_sizes = (reason_size, bare_size, conflicts_size, constrain_size, require_size)

module _ (T : Tables) (t why : ℕ) where
  tail_long : (t ≡ 0 → ⊥) → length (package_tail T t why) ≡ tail_size t
  unfolding package_tail tail_size
  tail_long a =
      split (eqb t 1) (λ b. rw (ne_eqb t 0 a, b)) (λ b. split (eqb t 2) (λ c. rw (ne_eqb t 0 a, b, c)) (λ c.
      split (eqb t 3) (λ d. rw (ne_eqb t 0 a, b, c, d)) (λ d. rw (ne_eqb t 0 a, b, c, d))))

  pub tail_some : 0 < length (package_tail T t why)
  unfolding package_tail
  tail_some =
      split (eqb t 0) (λ a. rw (a, length-append) (omega arith))
      (λ a. split (eqb t 1) (λ b. rw (a, b) (omega arith)) (λ b. split (eqb t 2) (λ c. rw (a, b, c) (omega arith)) (λ c.
      split (eqb t 3) (λ d. rw (a, b, c, d) (omega arith)) (λ d. rw (a, b, c, d) (omega arith)))))

  pub fits_reason : (f : Bool) (text : List ℕ) (fixed room s : ℕ) → f ≡ leb (fixed + s + length text) room → s ≡ tail_size t → t ≡ 0 → text ≡ reason_text T why
      → f ≡ leb (fixed + length (package_tail T t why)) room
  unfolding tail_size
  fits_reason f text fixed room s fi si a e =
      let k : s ≡ 22 = rw (eq-eqb t 0 a) at si in
      let l : length (package_tail T t why) ≡ 21 + length text + 1 = rw (reason_is T t why a, ← e) (omega (arith, length-append text (utf8 "\n"))) in
      let z : fixed + s + length text ≡ fixed + length (package_tail T t why) = omega arith in
      rw (← z) fi

  pub fits_other : (fixed room s : ℕ) → s ≡ tail_size t → (t ≡ 0 → ⊥) → leb (fixed + s) room ≡ leb (fixed + length (package_tail T t why)) room
  fits_other fixed room s si a = rw (tail_long a, si)

-- ---- the line; a: the indent's length, x: the package's

module _ (T : Tables) (p : List ℕ) (top : Bool) (ms : List Bool) (n t why : ℕ) (ti : t ≡ tag_in p n) (wi : why ≡ reason_in p n) where
  line_is : package_said T p top ms n ≡ indent top ms ++ package_in T p n ++ package_tail T t why
  unfolding package_said
  line_is = rw (ti, wi)

  line_size : length (package_said T p top ms n) ≡ length (indent top ms) + length (package_in T p n) + length (package_tail T t why)
  line_size = rw (line_is, length-append, length-append)

  pub line_wrote : (o d : List ℕ) (r : ℕ) → Wrote (indent top ms ++ package_in T p n ++ package_tail T t why) o d r
      → Tried (package_said T p top ms n) o d (Some r)
  line_wrote o d r h = let l = line_size in let z = tail_some T t why in tried_wrote (rw line_is h) (omega arith)

  module _ (o : List ℕ) (a x : ℕ) (f : Bool) (fi : f ≡ leb (a + x + length (package_tail T t why)) (length o)) (ai : a ≡ length (indent top ms))
      (xi : x ≡ text_length p n) (sized : text_length p n ≡ length (package_in T p n)) where
    pub line_full : not f ≡ true → Tried (package_said T p top ms n) o o None
    line_full e =
        let l = line_size in
        let h : length o < a + x + length (package_tail T t why) = leb-false (a + x + length (package_tail T t why)) (length o) (sym fi ∙ not-true f e) in
        tried_full (package_said T p top ms n) o (omega arith)

    pub line_room : not f ≡ false → length (indent top ms) + length (package_in T p n) + length (package_tail T t why) ≤ length o
    line_room e =
        let h : a + x + length (package_tail T t why) ≤ length o = leb-true (a + x + length (package_tail T t why)) (length o) (sym fi ∙ not-false f e) in
        omega arith
