-- What a writer leaves in the room that it was lent, and one writer behind another: "Each line is written behind the
-- earlier ones in the lent room".
use Rattle.std.specs.Prelude.{◌≡◌, List, ◌++◌, ℕ, ◌≤◌, length, drop}

-- the text at the start of the room, and the room's old bytes behind it: "lent bytes past those written stay"
abbrev pub over : List ℕ → List ℕ → List ℕ
over text room = text ++ drop (length text) room

-- a writer of `text` was lent `room` and left `left` in it; r, its answer, is how many bytes it wrote
pub record Wrote (text room left : List ℕ) (r : ℕ) : Type 0 where
  pub count : r ≡ length text
  pub leaves : left ≡ over text room
  pub fits : length text ≤ length room
