-- Why a sound file is not one that gets none of 1 to 7: here 8 comes before a Learnt in the core, which salvage replaces.
use Rattle.std.specs.Prelude.{◌≡◌, refl, List, [], ◌∷◌, ◌++◌, ℕ, ◌+◌, ◌-◌, ◌/◌, ◌%◌, length, replicate}
use Rattle.basis.specs.Lists.{concat_map, upto}
use Rattle.records.specs.Shapes.{cut, shape_of}
use Rattle.records.specs.Read.{read_from}
use Rattle.graph.specs.Graphs.{refused}
use Rattle.graph.specs.Files.{outcome_of}
use Rattle.salvage.specs.Salvage as S
use Rattle.reader.specs.Pieces.{pieces, joined}
use Rattle.salvage.specs.Salvage.{verdict_of, mend_from, salvage_of, Salvage}

abbrev rec : ℕ → ℕ → ℕ → ℕ → ℕ → List ℕ → List ℕ
rec k f a b c t = k ∷ f ∷ a % 256 ∷ a / 256 ∷ b % 256 ∷ b / 256 ∷ c % 256 ∷ c / 256 ∷ t ++ replicate (24 - length t) 0

abbrev times : ℕ → List ℕ → List ℕ
times n r = concat_map (λ _. r) (upto n 0)

-- one solvable, ten times the candidate of a requirement; a gate whose partner is the root, ten times; eleven times the gate
-- requires it, which makes 1,100 edges; then a Learnt: 37 records
abbrev late : List ℕ
late =
    rec 1 1 0 0 0 (120 ∷ []) ++ rec 2 1 0 0 0 (49 ∷ []) ++ rec 4 1 0 0 0 (120 ∷ []) ++ times 10 (rec 5 0 0 0 0 [])
    ++ rec 7 0 0 0 0 [] ++ rec 7 0 1 3 0 [] ++ times 10 (rec 25 1 1 0 0 []) ++ times 11 (rec 19 1 1 0 0 []) ++ rec 18 1 0 0 0 []

abbrev listed : Salvage → List ℕ
listed (S.repaired out ls d) = ls
listed (S.refused n i) = n ∷ i ∷ []

-- 8, at clause 20
pub late_eight : outcome_of late ≡ refused 8 20
unfolding outcome_of read_from cut shape_of
late_eight = refl

-- and record 36 is replaced
pub late_replaced : listed (salvage_of late) ≡ 36 ∷ []
unfolding salvage_of pieces joined mend_from verdict_of shape_of
late_replaced = refl
