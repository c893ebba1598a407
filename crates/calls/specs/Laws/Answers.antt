-- How the code comes to the answer of a check.
use Rattle.std.specs.Prelude.{◌≡◌, refl, List, ℕ, Ok, Err}
use Rattle.std.proofs.Common.{ap, ◌∙◌}
use Rattle.records.specs.Read.{Reading, good, bad, read_of}
use Rattle.store.specs.declared.Size.{Size}
use Rattle.graph.specs.Files.{Made, outcome_by, outcome_of}
use Rattle.graph.specs.Checked.{Checks, checks_outcome}
use Rattle.calls.specs.declared.Answer.{Answer}
use Rattle.calls.specs.Answers.{refusal_of, outcome_answer, check_by, check_of}

-- ---- the ways through the code

check_outcome : (file : List ℕ) → outcome_answer (outcome_of file) ≡ check_of file
unfolding check_of outcome_of
check_outcome file = go (read_of file)
  where
    go : (y : Reading) → outcome_answer (outcome_by y) ≡ check_by y
    go (bad k p) = refl
    go (good T) = refl

-- m is what the file makes
module _ (file g : List ℕ) (m : Made) (x : Answer) where
  pub check_refused : (k p : ℕ) → m ≡ Err (record { number = k; place = p }) → Checks file g m → x ≡ refusal_of k p → x ≡ check_of file
  check_refused k p e R h = h ∙ ap outcome_answer (checks_outcome file g m R (Err (record { number = k; place = p })) e) ∙ check_outcome file

  pub check_whole : (s : Size) → m ≡ Ok s → Checks file g m → x ≡ refusal_of 0 0 → x ≡ check_of file
  check_whole s e R h = h ∙ ap outcome_answer (checks_outcome file g m R (Ok s) e) ∙ check_outcome file
