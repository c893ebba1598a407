-- The one law of a table's limit: where the test lets one more record in, the table stays within its limit.
use Rattle.std.specs.Prelude.{◌≡◌, true, ℕ, ◌+◌, ◌≤◌, ltb}
use Rattle.std.proofs.Common.{arith, ltb-true}

pub grow : (limit n : ℕ) → ltb n limit ≡ true → n + 1 ≤ limit
grow limit n e = omega (arith, ltb-true n limit e)
