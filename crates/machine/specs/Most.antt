-- "With at most 126 solvable nodes the bound of demand 3 is at most 2,079": a group has two packages or more.
use Rattle.std.specs.Prelude.{◌≡◌, refl, Bool, true, ℕ, ◌+◌, ◌*◌, ◌-◌, ◌≤◌, leb}
use Rattle.std.proofs.Common.{mul-le-mul_left, arith, leb-true}
use Rattle.basis.specs.Below.{all_below, below_at}

-- with g groups, and all other packages unmerged
abbrev small : ℕ → Bool
small g = leb (g + (g + 1) * (126 - 2 * g)) 2079

table : all_below small 64 ≡ true
unfolding all_below
table = refl

pub at_most : (g u : ℕ) → 2 * g + u ≤ 126 → g + (g + 1) * u ≤ 2079
at_most g u h =
    let a : g + (g + 1) * (126 - 2 * g) ≤ 2079 = leb-true _ _ (below_at small 64 table g (omega arith)) in
    let m : (g + 1) * u ≤ (g + 1) * (126 - 2 * g) = mul-le-mul_left (g + 1) (omega arith) in
    omega arith
