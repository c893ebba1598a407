-- A test as the number 0 or 1, counted.
use Rattle.std.specs.Prelude.{◌≡◌, ℕ, ◌≤◌, Bool, true, false}
use Rattle.std.proofs.Common.{arith}
use Rattle.std.specs.Int.{from_bool}
use Rattle.groups.specs.Multi.{bump}

pub bool_bump : (b : Bool) (t : ℕ) → t ≡ from_bool b → t ≡ bump b 0
bool_bump true t e = e
bool_bump false t e = e

pub bool_small : (b : Bool) (t : ℕ) → t ≡ from_bool b → t ≤ 1
bool_small true t e = omega arith
bool_small false t e = omega arith
