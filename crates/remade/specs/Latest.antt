-- The recorded calls 13 to 17, made again.
use Rattle.std.specs.Prelude.{◌≡◌, refl, List, ℕ, zero, suc}
use Rattle.std.proofs.Common.{sym, ◌∙◌}
use Rattle.calls.specs.WhatIf.{SaysWhatIf}
use Rattle.again.specs.declared.Seen.{Seen}
use Rattle.again.specs.Seen.{no_call, blank}
use Rattle.remade.specs.declared.rooms.RoomCall.TheVariants as R
use Rattle.remade.specs.Room.{RoomHung, RoomAnswers, RoomShown, told_if_one, hung_one}
use Rattle.remade.specs.Asked.{asks_in}
use Rattle.again.specs.Walls.{blank_wide, spots_in, ends_in}

-- the call with number k + 13, on a room of n bytes, a list of n entries or one of n numbers: list the nodes with one more exclusion, of
-- solvable s for reason t; explain with it; write the text of the wall display; read such a text, for the nodes' list of n numbers beside
-- one of 4,096, or for the edges' list of n beside one of 256
unfoldable pub FromThirteen : List ℕ → ℕ → ℕ → ℕ → ℕ → ℕ → Seen → Type 0
FromThirteen file zero opt s t n r = r ≡ asks_in file s t n
FromThirteen file (suc zero) opt s t n r = RoomShown (SaysWhatIf file s t opt) (blank n) r
FromThirteen file (suc (suc zero)) opt s t n r = RoomShown (RoomHung file) (blank n) r
FromThirteen file (suc (suc (suc zero))) opt s t n r = r ≡ spots_in file (blank_wide n) (blank_wide 4096)
FromThirteen file (suc (suc (suc (suc zero)))) opt s t n r = r ≡ ends_in file (blank_wide 256) (blank_wide n)
FromThirteen file (suc (suc (suc (suc (suc k))))) opt s t n r = r ≡ no_call

-- two results that it allows are equal
pub from_thirteen_one : (file : List ℕ) (k opt s t n : ℕ) (r q : Seen) → FromThirteen file k opt s t n r → FromThirteen file k opt s t n q → r ≡ q
unfolding FromThirteen
from_thirteen_one file zero opt s t n r q R Q = R ∙ sym Q
from_thirteen_one file (suc zero) opt s t n r q R Q = told_if_one file s t opt (blank n) r q R Q
from_thirteen_one file (suc (suc zero)) opt s t n r q R Q = hung_one file (blank n) r q R Q
from_thirteen_one file (suc (suc (suc zero))) opt s t n r q R Q = R ∙ sym Q
from_thirteen_one file (suc (suc (suc (suc zero)))) opt s t n r q R Q = R ∙ sym Q
from_thirteen_one file (suc (suc (suc (suc (suc k))))) opt s t n r q R Q = R ∙ sym Q

-- ---- the ways through the code

module _ (file : List ℕ) (k opt s t n : ℕ) (r : Seen) where
  pub at_asked : k ≡ 0 → r ≡ asks_in file s t n → FromThirteen file k opt s t n r
  unfolding FromThirteen
  at_asked q e = rw q e

  pub at_told_if : k ≡ 1 → RoomShown (RoomAnswers file (R.WhatIf s t opt)) (blank n) r → FromThirteen file k opt s t n r
  unfolding FromThirteen RoomAnswers
  at_told_if q e = rw q e

  pub at_hung : k ≡ 2 → RoomShown (RoomAnswers file R.Wall) (blank n) r → FromThirteen file k opt s t n r
  unfolding FromThirteen RoomAnswers
  at_hung q e = rw q e

  pub at_spots : k ≡ 3 → r ≡ spots_in file (blank_wide n) (blank_wide 4096) → FromThirteen file k opt s t n r
  unfolding FromThirteen
  at_spots q e = rw q e

  pub at_ends : k ≡ 4 → r ≡ ends_in file (blank_wide 256) (blank_wide n) → FromThirteen file k opt s t n r
  unfolding FromThirteen
  at_ends q e = rw q e

pub at_no_latest : (file : List ℕ) (k opt s t n : ℕ) (r : Seen) → (k ≡ 0 → ⊥) → (k ≡ 1 → ⊥) → (k ≡ 2 → ⊥) → (k ≡ 3 → ⊥) → (k ≡ 4 → ⊥) → r ≡ no_call
    → FromThirteen file k opt s t n r
unfolding FromThirteen
at_no_latest file zero opt s t n r a b c d f e = absurd (a refl)
at_no_latest file (suc zero) opt s t n r a b c d f e = absurd (b refl)
at_no_latest file (suc (suc zero)) opt s t n r a b c d f e = absurd (c refl)
at_no_latest file (suc (suc (suc zero))) opt s t n r a b c d f e = absurd (d refl)
at_no_latest file (suc (suc (suc (suc zero)))) opt s t n r a b c d f e = absurd (f refl)
at_no_latest file (suc (suc (suc (suc (suc k))))) opt s t n r a b c d f e = e
