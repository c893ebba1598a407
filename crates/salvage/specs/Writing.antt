-- How the repaired file is written: the file is copied, then the listed records are overwritten.
use Rattle.std.specs.Prelude.{◌≡◌, cond, List, [], ◌∷◌, ℕ, ◌+◌, ◌*◌, ◌-◌, ◌/◌, length, take, leb}
use Rattle.std.proofs.Math.Seq.{paste}
use Rattle.basis.specs.Guard.{guard}
use Rattle.salvage.specs.declared.Salvaged.{Salvaged}
use Rattle.salvage.specs.Salvage.{blank}
use Rattle.salvage.specs.Lent.{refusal_of, done_of, fits_lent}

-- record l of d, if it is there, "kind 16 with flag 0 and all else zero"
unfoldable pub blank_at : List ℕ → ℕ → List ℕ
blank_at d l = guard (leb (32 * l + 32) (length d)) d (paste d (32 * l) blank 32)

unfoldable pub blanks : List ℕ → List ℕ → List ℕ
unfolding blank_at
blanks [] d = d
blanks (l ∷ ls) d = blanks ls (blank_at d l)

-- whole records
abbrev pub whole_of : List ℕ → ℕ
whole_of file = 32 * (length file / 32)

-- what is answered and left where the first k numbers of `found` are the records to replace
pub record SalvageLaid (file found : List ℕ) (k : ℕ) (room list : List ℕ) (r : Salvaged) (room' list' : List ℕ) : Type 0 where
  pub answer : r ≡ cond (fits_lent (whole_of file) k (length room) (length list)) (done_of (whole_of file) k (length file - whole_of file)) (refusal_of 10 0)
  pub in_room : room' ≡ cond (fits_lent (whole_of file) k (length room) (length list)) (blanks (take k found) (paste room 0 file (whole_of file))) room
  pub in_list : list' ≡ cond (fits_lent (whole_of file) k (length room) (length list)) (paste list 0 found k) list
