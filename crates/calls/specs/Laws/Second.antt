-- Edition 2 over the contract of `urzulempa_explain_edition`, for every file, option and room. Edition 1's contract is `urzulempa_explain`'s own.
use Rattle.std.specs.Prelude.{◌≡◌, List, ℕ, ◌≤◌, length, take}
use Rattle.std.proofs.Common.{arith}
use Rattle.records.specs.Tables.{Tables}
use Rattle.store.specs.Graph.{Graph}
use Rattle.explanation.specs.Openings.{how_many, openings_of, once_of}
use Rattle.explanation.specs.Contract.{Drawn}
use Rattle.explanation.specs.Laws.Contract.{file_demand, file_depth}
use Rattle.explanation.specs.Laws.Second as Second
use Rattle.calls.specs.declared.Answer.{Answer}
use Rattle.calls.specs.Says.{Says, result_by}

module _ (file : List ℕ) (opt : ℕ) (out left : List ℕ) (r : Answer) (S : Says 2 file opt out left r) where
  -- "In edition 2 refusal 11 is never given"
  pub second_never : r.number ≡ 11 → ⊥
  second_never = Second.second_never file opt (length out) (result_by r S.text) S.is

  -- "all openings in the whole text together are at most g + u": of all lines, those that the room did not take included
  pub second_openings : how_many (openings_of 2 S.is.turns file opt) ≤ once_of file
  second_openings = Second.second_openings S.is.turns file opt

  -- of the lines that it took
  pub second_written : how_many (take r.units (openings_of 2 S.is.turns file opt)) ≤ once_of file
  second_written = Second.second_written file opt (length out) (result_by r S.text) S.is

  module _ (T : Tables) (G : Graph) (x : Drawn 2 file opt T G) where
    -- a file that is drawn is done where there is room
    pub second_done : (file_demand 2 file opt T G x).size ≤ length out → (r.number ≡ 0) × (r.place ≡ 0)
    second_done h = let d = Second.second_done file opt T G x (length out) (result_by r S.text) S.is h in (d.0, d.1)

    -- and no branch of it opens more than all together may
    pub second_deep : r.depth ≤ once_of file
    second_deep = rw (Second.second_bound file opt T G x) at (file_depth 2 file opt T G x (length out) (result_by r S.text) S.is)
