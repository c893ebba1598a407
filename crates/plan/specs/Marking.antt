-- Order 11 in the packed plan: "every package, merged or not, is reported when first shown". The walk reports the packages whose head has the bit
-- "merged", so edition 2 sets it in every head. No other field of the plan changes.
use Rattle.std.specs.Prelude.{Bool, true, false, cond, List, ℕ, zero, suc, ◌+◌, ◌/◌, ◌%◌, get_or, set, eqb}

-- a head with its bit set
unfoldable pub marked : ℕ → ℕ
marked w = cond (eqb (w / 33554432 % 2) 1) w (w + 33554432)

-- the heads of the nodes below n are marked
unfoldable pub mark_to : ℕ → List ℕ → List ℕ
mark_to zero p = p
mark_to (suc n) p = set (mark_to n p) n (marked (get_or p n 0))

-- the plan as an edition reads it (machine/specs/Edition.antt: reading)
unfoldable pub read_as : Bool → List ℕ → List ℕ
read_as true p = mark_to 128 p
read_as false p = p
