-- Writing a record file from rows (document 02, order 1): the file or the refusal, the answer, and what becomes of the lent room.
use Rattle.std.specs.Prelude.{◌≡◌, cond, List, ◌++◌, map, ℕ, ◌*◌, ◌/◌, ◌%◌, length, drop, leb, eqb}
use Rattle.records.specs.Shapes.{rec_of}
use Rattle.records.specs.Tables.{no_tables}
use Rattle.records.specs.Read.{Reading, good, bad, read_from}
use Rattle.reader.specs.Pieces.{pieces, joined}
use Rattle.writing.specs.declared.Written.{Written}
use Rattle.writing.specs.Arranged.{rows_of, arranged}

-- what `write_of` gives: the file, or a refusal with its place
pub data File : Type 0 where
  written : List ℕ → File
  refused : ℕ → ℕ → File

-- "Tables whose file would get 3 to 6 get that refusal, its place in that file", and so does an unknown kind its 2; then
-- "1 when the file would pass 65,536 bytes"
abbrev pub judged_file : Reading → List (List ℕ) → File
judged_file (bad n i) ys = refused n i
judged_file (good T) ys = cond (leb (32 * length ys) 65536) (written (joined ys)) (refused 1 0)

-- "A `rows_len` that is no multiple of 32 is 1, place 0, before all others"
unfoldable pub write_of : List ℕ → File
unfolding pieces arranged
write_of rows =
    cond (eqb (length rows % 32) 0)
    (judged_file (read_from (map rec_of (arranged (rows_of rows))) 0 no_tables) (arranged (rows_of rows)))
    (refused 1 0)

-- a refusal's number and place: "nothing written"
abbrev pub refusal_of : ℕ → ℕ → Written
refusal_of n i = record { number = n; place = i; bytes = 0; units = 0 }

-- "else done with bytes, units = records"
abbrev pub done_of : ℕ → Written
done_of b = record { number = 0; place = 0; bytes = b; units = b / 32 }

-- "then 10 when it doesn't fit", n bytes being lent
abbrev pub answer_for : File → ℕ → Written
answer_for (refused k i) n = refusal_of k i
answer_for (written out) n = cond (leb (length out) n) (done_of (length out)) (refusal_of 10 0)

-- "nothing written" on a refusal; bytes past those written stay
abbrev pub room_for : File → List ℕ → List ℕ
room_for (refused k i) room = room
room_for (written out) room = cond (leb (length out) (length room)) (out ++ drop (length out) room) room

-- the answer for n bytes of room (`answer_for`)
unfoldable pub write_answer : List ℕ → ℕ → Written
unfolding write_of
write_answer rows n = answer_for (write_of rows) n

-- what becomes of the room (`room_for`)
unfoldable pub write_room : List ℕ → List ℕ → List ℕ
unfolding write_of
write_room rows room = room_for (write_of rows) room

-- the two equations of the contract together
pub record Leaves (rows room : List ℕ) (r : Written) (room' : List ℕ) : Type 0 where
  pub answer : r ≡ write_answer rows (length room)
  pub in_room : room' ≡ write_room rows room
