-- What the program counts as it goes through the list.
use Rattle.std.specs.Prelude.{◌≡◌, ℕ, ◌+◌, ◌%◌, ◌^◌, cond, List, ◌==◌, ◌≢◌}
use Rattle.std.proofs.Common.{sym, ◌∙◌, eq-eqb, ne_eqb}
use Rattle.replay.specs.declared.Course.TheVariants.{Broken, Whole}
use Rattle.replay.specs.declared.Tally.{Tally}
use Rattle.again.specs.Head.{word_at}

-- the list goes no further
abbrev pub stopped_at : Tally → Tally
stopped_at t = record { files = t.files; answers = t.answers; differ = t.differ; course = Broken }

-- one answer more
abbrev pub one_more : Tally → ℕ → Tally
one_more t d = record { files = t.files; answers = (t.answers + 1) % 2 ^ 64; differ = d; course = t.course }

-- the end, whole where its counts are those that were met
unfoldable pub ended_by : List ℕ → Tally → Tally
ended_by head t =
    cond (t.files == word_at head 8)
    (cond (t.answers == word_at head 16) (record { files = t.files; answers = t.answers; differ = t.differ; course = Whole }) (stopped_at t))
    (stopped_at t)

-- ---- the ways through the code

pub other_files : (head : List ℕ) (t r : Tally) (f : ℕ) → (t.files ≢ f) → f ≡ word_at head 8 → r ≡ stopped_at t → r ≡ ended_by head t
unfolding ended_by
other_files head t r f n q e =
    let z : t.files ≡ word_at head 8 → ⊥ = λ p. n (p ∙ sym q) in
    rw (ne_eqb t.files (word_at head 8) z, cond) e

pub other_answers : (head : List ℕ) (t r : Tally) (f a : ℕ) → (t.answers ≢ a) → a ≡ word_at head 16 → t.files ≡ f → f ≡ word_at head 8
    → r ≡ stopped_at t → r ≡ ended_by head t
unfolding ended_by
other_answers head t r f a n q h p e =
    let z : t.answers ≡ word_at head 16 → ⊥ = λ x. n (x ∙ sym q) in
    rw (eq-eqb t.files (word_at head 8) (h ∙ p), cond, ne_eqb t.answers (word_at head 16) z) e

pub same_counts : (head : List ℕ) (t : Tally) (f a : ℕ) → t.answers ≡ a → a ≡ word_at head 16 → t.files ≡ f → f ≡ word_at head 8
    → ◌≡◌ {A = Tally} (record { files = f; answers = a; differ = t.differ; course = Whole }) (ended_by head t)
unfolding ended_by
same_counts head t f a k q h p = rw (eq-eqb t.files (word_at head 8) (h ∙ p), cond, eq-eqb t.answers (word_at head 16) (k ∙ q), ← h, ← k)

pub more_answers : (t : Tally) (a d : ℕ) → a ≡ (t.answers + 1) % 2 ^ 64
    → ◌≡◌ {A = Tally} (record { files = t.files; answers = a; differ = d; course = t.course }) (one_more t d)
more_answers t a d e = rw e
