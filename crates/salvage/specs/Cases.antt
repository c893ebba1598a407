-- Small files by computation; each wrong program of order 7 answers one of them otherwise.
use Rattle.std.specs.Prelude.{◌≡◌, refl, List, [], ◌∷◌, ◌++◌, ℕ, ◌-◌, ◌/◌, ◌%◌, length, replicate}
use Rattle.records.specs.Shapes.{rec_of, shape_of}
use Rattle.records.specs.Tables.{Tables}
use Rattle.salvage.specs.Salvage.{Replaced, Stops}
use Rattle.reader.specs.Pieces.{pieces, joined}
use Rattle.salvage.specs.Salvage.{blank, verdict_of, mend_from, repaired, refused, salvage_of}
use Rattle.salvage.specs.Lent.{refusal_of, done_of, salvage_answer, salvage_room, salvage_list}

-- kind, byte 1, a, b, c, text
abbrev rec : ℕ → ℕ → ℕ → ℕ → ℕ → List ℕ → List ℕ
rec k f a b c t = k ∷ f ∷ a % 256 ∷ a / 256 ∷ b % 256 ∷ b / 256 ∷ c % 256 ∷ c / 256 ∷ t ++ replicate (24 - length t) 0

abbrev root : List ℕ
root = rec 7 0 0 0 0 []

-- the root requires requirement 0, which is not there: 4
abbrev lost : List ℕ
lost = rec 19 1 0 0 0 []

-- clause c decided variable 0
abbrev decided : ℕ → List ℕ
decided c = rec 8 0 0 c 0 []

-- ---- clauses are mended

pub nothing : salvage_of [] ≡ repaired [] [] 0
unfolding salvage_of pieces joined mend_from verdict_of
nothing = refl

-- a clause that gets 4 is replaced, and not dropped
pub replaced : salvage_of (root ++ lost) ≡ repaired (root ++ blank) (1 ∷ []) 0
unfolding salvage_of pieces joined mend_from verdict_of shape_of
replaced = refl

-- one that gets 3, by its flag; and one that gets 5, by the root where a solvable is wanted
pub replaced_by_shape : salvage_of (rec 16 2 0 0 0 []) ≡ repaired blank (0 ∷ []) 0
unfolding salvage_of pieces joined mend_from verdict_of shape_of
replaced_by_shape = refl

pub replaced_by_origin : salvage_of (root ++ rec 20 0 0 0 0 []) ≡ repaired (root ++ blank) (1 ∷ []) 0
unfolding salvage_of pieces joined mend_from verdict_of shape_of
replaced_by_origin = refl

-- a Learnt in the core is replaced; outside it stays
pub learnt_in_core : salvage_of (rec 18 1 0 0 0 []) ≡ repaired blank (0 ∷ []) 0
unfolding salvage_of pieces joined mend_from verdict_of shape_of
learnt_in_core = refl

pub learnt_outside : salvage_of (rec 18 0 0 0 0 []) ≡ repaired (rec 18 0 0 0 0 []) [] 0
unfolding salvage_of pieces joined mend_from verdict_of shape_of
learnt_outside = refl

-- "so clause numbers hold": record 8 names clause 0, which was replaced
pub counted : salvage_of (root ++ lost ++ decided 0) ≡ repaired (root ++ blank ++ decided 0) (1 ∷ []) 0
unfolding salvage_of pieces joined mend_from verdict_of shape_of
counted = refl

-- the repaired records count, and no clause stands before this one
pub counted_none : salvage_of (root ++ decided 0 ++ lost) ≡ refused 4 1
unfolding salvage_of pieces joined mend_from verdict_of shape_of
counted_none = refl

-- ---- the length

-- "drop the bytes after the last whole record"
pub dropped : salvage_of (root ++ 19 ∷ 1 ∷ 0 ∷ []) ≡ repaired root [] 3
unfolding salvage_of pieces joined mend_from verdict_of shape_of
dropped = refl

-- "1 only for above 65,536"
pub long : salvage_of (replicate 65537 0) ≡ refused 1 0
unfolding salvage_of
long = refl

-- ---- what stops the repair

-- 2 first, even for a record that is all zero
pub unknown : salvage_of (root ++ replicate 32 0) ≡ refused 2 1
unfolding salvage_of pieces joined mend_from verdict_of shape_of
unknown = refl

-- 3 of a name, 4 of a solvable, 4 of a second record 8: kinds 1 to 8 are not mended
pub name_stops : salvage_of (rec 1 0 0 0 0 []) ≡ refused 3 0
unfolding salvage_of pieces joined mend_from verdict_of shape_of
name_stops = refl

pub solvable_stops : salvage_of (rec 2 1 0 0 0 (49 ∷ [])) ≡ refused 4 0
unfolding salvage_of pieces joined mend_from verdict_of shape_of
solvable_stops = refl

pub second_stops : salvage_of (root ++ lost ++ decided 0 ++ decided 0) ≡ refused 4 3
unfolding salvage_of pieces joined mend_from verdict_of shape_of
second_stops = refl

-- ---- the clauses' table full

abbrev holding : ℕ → Tables
holding n = record {
  names = [];
  solvables = [];
  version_sets = [];
  requirements = [];
  candidates = [];
  reasons = [];
  variables = [];
  assigned = [];
  clauses = replicate n (rec_of blank);
}

-- "A clause past 1,024 is 6 even where 3 would come first"; and where it is a Learnt in the core
pub full_by_shape : verdict_of (holding 1024) (rec_of (rec 16 2 0 0 0 [])) ≡ Stops 6
unfolding verdict_of shape_of
full_by_shape = refl

pub full_by_learnt : verdict_of (holding 1024) (rec_of (rec 18 1 0 0 0 [])) ≡ Stops 6
unfolding verdict_of shape_of
full_by_learnt = refl

pub last_by_shape : verdict_of (holding 1023) (rec_of (rec 16 2 0 0 0 [])) ≡ Replaced
unfolding verdict_of shape_of
last_by_shape = refl

-- ---- the lent places

abbrev file : List ℕ
file = root ++ lost ++ 7 ∷ []

-- just enough of both
pub enough : salvage_answer file 64 1 ≡ done_of 64 1 1
unfolding salvage_answer salvage_of pieces joined mend_from verdict_of shape_of
enough = refl

-- one short
pub short_room : salvage_answer file 63 1 ≡ refusal_of 10 0
unfolding salvage_answer salvage_of pieces joined mend_from verdict_of shape_of
short_room = refl

pub short_list : salvage_answer file 64 0 ≡ refusal_of 10 0
unfolding salvage_answer salvage_of pieces joined mend_from verdict_of shape_of
short_list = refl

-- bytes and numbers past those written stay
pub room_past : salvage_room file (replicate 66 9) 3 ≡ root ++ blank ++ (9 ∷ 9 ∷ [])
unfolding salvage_room salvage_of pieces joined mend_from verdict_of shape_of
room_past = refl

pub list_past : salvage_list file 66 (5 ∷ 6 ∷ 7 ∷ []) ≡ 1 ∷ 6 ∷ 7 ∷ []
unfolding salvage_list salvage_of pieces joined mend_from verdict_of shape_of
list_past = refl
