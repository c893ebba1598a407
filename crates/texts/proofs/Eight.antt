-- The bytes of a word as std's `to_le_bytes` gives them, the lowest first.
use Rattle.std.proofs.Common.{◌≡◌, refl, ℕ}
use Rattle.std.proofs.Math.Nat.{div-div-eq-div-mul}
use Rattle.std.specs.Int.{w64, to_le_bytes}
use Rattle.texts.specs.Pieces.{bytes_of}

pub le_bytes : (w : ℕ) → to_le_bytes w64 w ≡ bytes_of 8 w
unfolding bytes_of
le_bytes w = simp div-div-eq-div-mul refl
