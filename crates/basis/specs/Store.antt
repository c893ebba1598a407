-- A read and a store that are total: past the end a read gives 0 and a store does nothing.
use Rattle.std.specs.Prelude.{◌≡◌, List, ℕ, ◌≤◌, length, get_or, set}
use Rattle.std.proofs.Common.{sym}
use Rattle.std.proofs.Math.ListN.{get_or-eq_default}
use Rattle.std.proofs.Math.Seq.{set_out}

pub get_out : (t : List ℕ) (at : ℕ) → length t ≤ at → 0 ≡ get_or t at 0
get_out t at h = sym (get_or-eq_default t 0 h)

pub put_out : (t : List ℕ) (at v : ℕ) → length t ≤ at → t ≡ set t at v
put_out t at v h = sym (set_out t at v h)

-- what a call gave, and what a pattern found it to be
pub meet : {A : Type 0} (r x y : A) → r ≡ x → r ≡ y → x ≡ y
meet r x y p q = rw p at q
