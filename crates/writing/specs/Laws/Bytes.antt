-- A row with its own number set in it.
use Rattle.std.specs.Prelude.{◌≡◌, List, ℕ, ◌+◌, ◌*◌, ◌/◌, ◌%◌, ◌<◌, length, get_or, set}
use Rattle.std.proofs.Common.{ap, ◌∙◌, arith, length-set, get_or-set_other}
use Rattle.std.proofs.lemmas.List.{set-get_or}
use Rattle.records.specs.Shapes.{rec_of}
use Rattle.writing.specs.Arranged.{numbered, rank_of, rank}

pub numbered_length : (n : ℕ) (s : List ℕ) → length (numbered n s) ≡ length s
numbered_length n s = rw (length-set, length-set)

low_byte : (x y : ℕ) → x < 256 → (x + 256 * y) % 256 ≡ x
low_byte x y h = omega arith

high_byte : (x y : ℕ) → x < 256 → y < 256 → (x + 256 * y) / 256 % 256 ≡ y
high_byte x y h k = omega arith

-- the two bytes of field a
abbrev pub Low : List ℕ → Type 0
Low s = (get_or s 2 0 < 256) × (get_or s 3 0 < 256)

-- a row that has its own number keeps its bytes
pub numbered_same : (n : ℕ) (s : List ℕ) → Low s → (rec_of s).a ≡ n → numbered n s ≡ s
numbered_same n s p e =
    rw (← e, low_byte (get_or s 2 0) (get_or s 3 0) p.0, high_byte (get_or s 2 0) (get_or s 3 0) p.0 p.1, set-get_or s 2 0, set-get_or s 3 0)

-- and its kind
pub numbered_rank : (k n : ℕ) (x : List ℕ) → rank x ≡ k → rank (numbered n x) ≡ k
numbered_rank k n x h =
    let a : get_or (numbered n x) 0 0 ≡ get_or x 0 0 =
    get_or-set_other (set x 2 (n % 256)) 3 0 (n / 256 % 256) 0 (λ z. (let f : ⊥ = omega arith in f))
    ∙ get_or-set_other x 2 0 (n % 256) 0 (λ z. (let f : ⊥ = omega arith in f)) in
    ap rank_of a ∙ h
