-- A file as pieces of 32 bytes, one a record, and a copy over a part of a list.
use Rattle.std.specs.Prelude.{◌≡◌, List, [], ◌∷◌, ◌++◌, ℕ, zero, suc, take, drop}
use Rattle.std.proofs.Math.Seq.{paste}

-- the first n records of a file, 32 bytes each: "Records of 32 bytes, no header"
unfoldable pub pieces : ℕ → List ℕ → List (List ℕ)
pieces zero s = []
pieces (suc n) s = take 32 s ∷ pieces n (drop 32 s)

-- `slice::concat`: the pieces, one behind another
unfoldable pub joined : List (List ℕ) → List ℕ
joined [] = []
joined (x ∷ xs) = x ++ joined xs

-- o is d, with its n elements from `at` on those of s
pub record Pasted {A : Type 0} (d : List A) (at : ℕ) (s : List A) (n : ℕ) (o : List A) : Type 0 where
  pub is : o ≡ paste d at s n
