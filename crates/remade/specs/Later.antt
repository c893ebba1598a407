-- The recorded calls 10 to 12, made again.
use Rattle.std.specs.Prelude.{◌≡◌, refl, List, ℕ, zero, suc}
use Rattle.std.proofs.Common.{sym, ◌∙◌}
use Rattle.again.specs.declared.Seen.{Seen}
use Rattle.again.specs.Seen.{no_call, blank}
use Rattle.again.specs.Changes.{held_in, changes_in}
use Rattle.remade.specs.declared.rooms.RoomCall.TheVariants as R
use Rattle.remade.specs.Room.{RoomMade, RoomAnswers, RoomShown, made_one}

-- the call with number k + 10, on a room of n bytes: read the settings, by a reader of version opt; change setting s to t, by a writer
-- of version opt; write the file that the rows make
unfoldable pub FromTen : List ℕ → ℕ → ℕ → ℕ → ℕ → ℕ → Seen → Type 0
FromTen file zero opt s t n r = r ≡ held_in file opt
FromTen file (suc zero) opt s t n r = r ≡ changes_in file opt s t n
FromTen file (suc (suc zero)) opt s t n r = RoomShown (RoomMade file) (blank n) r
FromTen file (suc (suc (suc k))) opt s t n r = r ≡ no_call

-- two results that it allows are equal
pub from_ten_one : (file : List ℕ) (k opt s t n : ℕ) (r q : Seen) → FromTen file k opt s t n r → FromTen file k opt s t n q → r ≡ q
unfolding FromTen
from_ten_one file zero opt s t n r q R Q = R ∙ sym Q
from_ten_one file (suc zero) opt s t n r q R Q = R ∙ sym Q
from_ten_one file (suc (suc zero)) opt s t n r q R Q = made_one file (blank n) r q R Q
from_ten_one file (suc (suc (suc k))) opt s t n r q R Q = R ∙ sym Q

-- ---- the ways through the code

module _ (file : List ℕ) (k opt s t n : ℕ) (r : Seen) where
  pub at_held : k ≡ 0 → r ≡ held_in file opt → FromTen file k opt s t n r
  unfolding FromTen
  at_held q e = rw q e

  pub at_changed : k ≡ 1 → r ≡ changes_in file opt s t n → FromTen file k opt s t n r
  unfolding FromTen
  at_changed q e = rw q e

  pub at_wrote : k ≡ 2 → RoomShown (RoomAnswers file R.Write) (blank n) r → FromTen file k opt s t n r
  unfolding FromTen RoomAnswers
  at_wrote q e = rw q e

pub at_no_later : (file : List ℕ) (k opt s t n : ℕ) (r : Seen) → (k ≡ 0 → ⊥) → (k ≡ 1 → ⊥) → (k ≡ 2 → ⊥) → r ≡ no_call → FromTen file k opt s t n r
unfolding FromTen
at_no_later file zero opt s t n r a b c e = absurd (a refl)
at_no_later file (suc zero) opt s t n r a b c e = absurd (b refl)
at_no_later file (suc (suc zero)) opt s t n r a b c e = absurd (c refl)
at_no_later file (suc (suc (suc k))) opt s t n r a b c e = e
