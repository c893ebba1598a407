-- What `salvage` answers, and what it leaves in the lent room and the lent list (document 02, order 7).
use Rattle.std.specs.Prelude.{Bool, cond, ◌&&◌, List, ◌++◌, ℕ, length, drop, leb}
use Rattle.salvage.specs.declared.Salvaged.{Salvaged}
use Rattle.salvage.specs.Salvage.{Salvage, repaired, refused, salvage_of}

-- "On a refusal these are 0": bytes, replaced and dropped
abbrev pub refusal_of : ℕ → ℕ → Salvaged
refusal_of n i = record { number = n; place = i; bytes = 0; replaced = 0; dropped = 0 }

-- "bytes = the repaired file's length, replaced = how many numbers the list got, dropped"
abbrev pub done_of : ℕ → ℕ → ℕ → Salvaged
done_of b k d = record { number = 0; place = 0; bytes = b; replaced = k; dropped = d }

-- b bytes and k numbers go into n bytes and m numbers; else "10 if either lent place is short"
abbrev pub fits_lent : ℕ → ℕ → ℕ → ℕ → Bool
fits_lent b k n m = leb b n && leb k m

-- "then 10 if either lent place is short"; n bytes and m numbers are lent
abbrev pub answer_for : Salvage → ℕ → ℕ → Salvaged
answer_for (refused k i) n m = refusal_of k i
answer_for (repaired out ls d) n m = cond (fits_lent (length out) (length ls) n m) (done_of (length out) (length ls) d) (refusal_of 10 0)

-- "on any refusal both are as before"; bytes and numbers past those written stay
abbrev pub room_for : Salvage → List ℕ → ℕ → List ℕ
room_for (refused k i) room m = room
room_for (repaired out ls d) room m = cond (fits_lent (length out) (length ls) (length room) m) (out ++ drop (length out) room) room

-- the same for the list: "on any refusal both are as before"
abbrev pub list_for : Salvage → ℕ → List ℕ → List ℕ
list_for (refused k i) n list = list
list_for (repaired out ls d) n list = cond (fits_lent (length out) (length ls) n (length list)) (ls ++ drop (length ls) list) list

-- the answer for n bytes of room and m numbers of list (`answer_for`)
unfoldable pub salvage_answer : List ℕ → ℕ → ℕ → Salvaged
unfolding salvage_of
salvage_answer file n m = answer_for (salvage_of file) n m

-- what becomes of the room, beside m numbers of list (`room_for`)
unfoldable pub salvage_room : List ℕ → List ℕ → ℕ → List ℕ
unfolding salvage_of
salvage_room file room m = room_for (salvage_of file) room m

-- what becomes of the list, beside n bytes of room (`list_for`)
unfoldable pub salvage_list : List ℕ → ℕ → List ℕ → List ℕ
unfolding salvage_of
salvage_list file n list = list_for (salvage_of file) n list
