-- The text that fits a room: units, the answer, and how many units are taken.
use Rattle.std.specs.Prelude.{true, false, cond, List, [], ◌∷◌, ℕ, ◌-◌, max, length, leb}
use Rattle.basis.specs.Lists.{concat_map}

-- "A unit is a line, or in the graph text the opening, one edge or the closing brace": its bytes, a line's with the newline.
-- `openings`: how many packages are opened on its branch, itself included; 0 in the graph text.
pub record TextUnit : Type 0 where
  pub bytes : List ℕ
  pub openings : ℕ

-- "An answer holds number, place, bytes, units, depth"; and the bytes written
pub record Result : Type 0 where
  pub number : ℕ
  pub place : ℕ
  pub bytes : ℕ
  pub units : ℕ
  pub depth : ℕ
  pub text : List ℕ

-- "Each line is written behind the earlier ones in the lent room"
abbrev pub text_of : List TextUnit → List ℕ
text_of us = concat_map (λ u. u.bytes) us

-- "the largest number of openings on one branch among the lines written"
abbrev pub depth_of : List TextUnit → ℕ
depth_of [] = 0
depth_of (u ∷ us) = max u.openings (depth_of us)

-- what is answered when these units are written: "An answer holds number, place, bytes, units, depth"
abbrev pub written : ℕ → ℕ → List TextUnit → Result
written num place us =
    record { number = num; place = place; bytes = length (text_of us); units = length us; depth = depth_of us; text = text_of us }

-- units are taken while they fit: "exactly the first units of the text"
abbrev pub fitting : ℕ → List TextUnit → List TextUnit
fitting room [] = []
fitting room (u ∷ us) = elim (leb (length u.bytes) room) [ true ↦ u ∷ fitting (room - length u.bytes) us | false ↦ [] ]

-- 10: "the next unit doesn't fit the room", place "units written"; `num` and `place` answer for a text that fits whole
abbrev pub fit : ℕ → ℕ → ℕ → List TextUnit → Result
fit num place room us =
    cond (leb (length (text_of us)) room) (written num place us) (let w = fitting room us in written 10 (length w) w)
