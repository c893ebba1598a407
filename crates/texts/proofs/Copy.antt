-- A loop that copies one list over another from the front, one store a turn.
use mathlib.Core.Path.{◌≡◌, refl, ap}
use mathlib.Core.List.{List, [], ◌∷◌, ◌++◌}
use Prim.Native.Nat.{ℕ, zero, suc, ◌+◌, ◌<◌, ◌≤◌}
use native.Mathlib.Nat.{not-suc-le-zero, le_of_suc-le-suc}
use native.Mathlib.Numerals.{add-one}
use native.Mathlib.Omega.{arith}
use lib.ListN.{length, set, take, drop, get_or}
use lib.Seq.{take-length}
use Rattle.texts.specs.Wrote.{Wrote}

-- the first i of s stand over d
pub record Copied (s d o : List ℕ) (i : ℕ) : Type 0 where
  is : o ≡ take i s ++ drop i d

step : (s d : List ℕ) (i : ℕ) → i < length s → i < length d
    → set (take i s ++ drop i d) i (get_or s i 0) ≡ take (suc i) s ++ drop (suc i) d
step [] d i h k = absurd (not-suc-le-zero h)
step (x ∷ s) [] i h k = absurd (not-suc-le-zero k)
step (x ∷ s) (y ∷ d) zero h k = refl
step (x ∷ s) (y ∷ d) (suc i) h k = ap (λ (l : List ℕ). x ∷ l) (step s d i (le_of_suc-le-suc h) (le_of_suc-le-suc k))

pub none : {s d : List ℕ} → Copied s d d 0
none = record { is = refl }

pub more : (s d o : List ℕ) (i : ℕ) → i < length s → length s ≤ length d → Copied s d o i
    → Copied s d (set o i (get_or s i 0)) (i + 1)
more s d o i h k w = record { is = rw (w.is, add-one) (step s d i h (omega arith)) }

pub last : {s d o : List ℕ} {i : ℕ} → i ≤ length s → length s ≤ i → length s ≤ length d → Copied s d o i → Wrote s d o (length s)
last {s} {d} {o} {i} a b k w =
    let h : i ≡ length s = omega arith in
    record { count = refl; leaves = rw (w.is, h, take-length s); fits = k }

pub ruleset copies = (none, more, last)
