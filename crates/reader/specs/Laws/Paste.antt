-- The copy of n elements over a part of a list, one by one.
use Rattle.std.specs.Prelude.{◌≡◌, List, ℕ, ◌+◌, ◌≤◌, ◌<◌, length, set, get_or}
use Rattle.std.proofs.Common.{sym, ◌∙◌, arith, add-one}
use Rattle.std.proofs.Math.Seq.{paste-zero, paste-suc}
use Rattle.reader.specs.Pieces.{Pasted}

pub pasted_none : {A : Type 0} (d : List A) (at : ℕ) (s : List A) → Pasted d at s 0 d
pasted_none d at s = record { is = paste-zero d at s }

pub pasted_more : {A : Type 0} (d : List A) (at : ℕ) (s : List A) (i n : ℕ) (o : List A) (x : A)
    → Pasted d at s i o → i < n → at + n ≤ length d → n ≤ length s → Pasted d at s (i + 1) (set o (at + i) (get_or s i x))
pasted_more d at s i n o x p h k l = record { is = rw (p.is, add-one) (paste-suc d at s i x (omega arith) (omega arith)) }

pub pasted_all : {A : Type 0} (d : List A) (at : ℕ) (s : List A) (i n : ℕ) (o : List A) → Pasted d at s i o → i ≤ n → n ≤ i → Pasted d at s n o
pasted_all d at s i n o p h k = let e : i ≡ n = omega arith in rw e at p

-- what is left is determined
pub pasted_one : (d : List ℕ) (at : ℕ) (s : List ℕ) (n : ℕ) (o q : List ℕ) → Pasted d at s n o → Pasted d at s n q → o ≡ q
pasted_one d at s n o q a b = a.is ∙ sym b.is
