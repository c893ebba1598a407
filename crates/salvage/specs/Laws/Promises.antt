-- What order 7 promises, over the contract of the call: "A repaired file never gets 1 to 7" (here 1 to 6 and no Learnt in the core), "a sound
-- file comes back unchanged, and no byte outside the listed places differs", "on any refusal both are as before".
use Rattle.std.specs.Prelude.{◌≡◌, Bool, ℕ, ◌+◌, ◌*◌, ◌/◌, ◌≤◌, ◌<◌, length, get_or, take}
use Rattle.std.proofs.Math.Path.{refl}
use Rattle.std.proofs.Common.{ap, arith, take_at, drop_at}
use Rattle.std.proofs.Math.Bool.{true, false, cond}
use mathlib.Core.List.{List, ◌++◌, map}
use Rattle.std.proofs.Math.ListN.{drop}
use borrow.Author.Tests.{le-leb}
use Rattle.basis.specs.Members.{clash, In}
use Rattle.records.specs.declared.Table.TheVariants.{Clauses}
use Rattle.records.specs.Shapes.{records_of}
use Rattle.index.specs.Steps.{is_in}
use Rattle.salvage.specs.declared.Salvaged.{Salvaged}
use Rattle.salvage.specs.Salvage.{blank, Salvage, repaired, refused, salvage_of}
use Rattle.salvage.specs.Lent.{done_of, refusal_of, fits_lent, answer_for, room_for, list_for, salvage_answer, salvage_room, salvage_list}
use Rattle.salvage.specs.Laws.Mending.{Rising}
use Rattle.salvage.specs.Laws.Repaired.{Sound, refused_numbered, repaired_length, repaired_dropped, repaired_sound, repaired_rising}
use Rattle.salvage.specs.Laws.Repaired.{repaired_clauses, repaired_blank, repaired_bytes, sound_unchanged}

-- a call that is done
record Done (file room list : List ℕ) : Type 0 where
  pub out : List ℕ
  pub listed : List ℕ
  pub rest : ℕ
  pub is : salvage_of file ≡ repaired out listed rest
  pub fit : fits_lent (length out) (length listed) (length room) (length list) ≡ true

module _ (file room list : List ℕ) where
  by_fit : (out ls : List ℕ) (d : ℕ) → salvage_of file ≡ repaired out ls d → (b : Bool) → fits_lent (length out) (length ls) (length room) (length list) ≡ b
      → (cond b (done_of (length out) (length ls) d) (refusal_of 10 0)).number ≡ 0 → Done file room list
  by_fit out ls d e true q h = record { out = out; listed = ls; rest = d; is = e; fit = q }
  by_fit out ls d e false q h = clash (cc)

  by_salvage : (S : Salvage) → salvage_of file ≡ S → (answer_for S (length room) (length list)).number ≡ 0 → Done file room list
  by_salvage (repaired out ls d) e h = by_fit out ls d e (fits_lent (length out) (length ls) (length room) (length list)) refl h
  by_salvage (refused n p) e h = let z : 1 ≤ n = refused_numbered file n p e in let f : ⊥ = omega arith in absurd f

-- the repaired file stands at the front of the room
abbrev pub out_in : List ℕ → List ℕ → List ℕ → List ℕ
out_in file room list = take (salvage_answer file (length room) (length list)).bytes (salvage_room file room (length list))

-- and the numbers of the replaced records at the front of the list
abbrev pub listed_in : List ℕ → List ℕ → List ℕ → List ℕ
listed_in file room list = take (salvage_answer file (length room) (length list)).replaced (salvage_list file (length room) list)

-- the call is done
module _ (file room list : List ℕ) (zero_is : (salvage_answer file (length room) (length list)).number ≡ 0) where
  done : Done file room list
  unfolding salvage_answer
  done = by_salvage file room list (salvage_of file) refl zero_is

  answer_is : salvage_answer file (length room) (length list) ≡ done_of (length done.out) (length done.listed) done.rest
  unfolding salvage_answer
  answer_is = rw (done.is, done.fit)

  room_is : salvage_room file room (length list) ≡ done.out ++ drop (length done.out) room
  unfolding salvage_room
  room_is = rw (done.is, done.fit)

  list_is : salvage_list file (length room) list ≡ done.listed ++ drop (length done.listed) list
  unfolding salvage_list
  list_is = rw (done.is, done.fit)

  out_is : out_in file room list ≡ done.out
  out_is = rw (answer_is, room_is) (take_at done.out (drop (length done.out) room) (length done.out) refl)

  listed_is : listed_in file room list ≡ done.listed
  listed_is = rw (answer_is, list_is) (take_at done.listed (drop (length done.listed) list) (length done.listed) refl)

  -- what room, list and answer hold is what the definition says
  pub done_is : salvage_of file ≡ repaired (out_in file room list) (listed_in file room list) (salvage_answer file (length room) (length list)).dropped
  done_is = rw (out_is, listed_is, answer_is) done.is

  -- "drop the bytes after the last whole record"
  pub done_length : length (out_in file room list) ≡ 32 * (length file / 32)
  done_length = repaired_length file _ _ _ done_is

  pub done_dropped : length (out_in file room list) + (salvage_answer file (length room) (length list)).dropped ≡ length file
  done_dropped = repaired_dropped file _ _ _ done_is

  pub done_bytes : (salvage_answer file (length room) (length list)).bytes ≡ length (out_in file room list)
  done_bytes = rw out_is (ap (λ (r : Salvaged). r.bytes) answer_is)

  pub done_replaced : (salvage_answer file (length room) (length list)).replaced ≡ length (listed_in file room list)
  done_replaced = rw listed_is (ap (λ (r : Salvaged). r.replaced) answer_is)

  -- bytes of the room and numbers of the list past those written stay
  pub rest_of_room : drop (length (out_in file room list)) (salvage_room file room (length list)) ≡ drop (length (out_in file room list)) room
  rest_of_room = rw (out_is, room_is) (drop_at done.out (drop (length done.out) room) (length done.out) refl)

  pub rest_of_list : drop (length (listed_in file room list)) (salvage_list file (length room) list) ≡ drop (length (listed_in file room list)) list
  rest_of_list = rw (listed_is, list_is) (drop_at done.listed (drop (length done.listed) list) (length done.listed) refl)

  -- "A repaired file never gets 1 to 7": it is read whole, and no Learnt is in the core
  pub done_sound : Sound (out_in file room list)
  done_sound = repaired_sound file _ _ _ done_is

  -- "lists the replaced record numbers in order"
  pub done_rising : Rising 0 (length (out_in file room list) / 32) (listed_in file room list)
  done_rising = repaired_rising file _ _ _ done_is

  -- each listed record is "kind 16 with flag 0 and all else zero"
  pub done_blank : (i : ℕ) → i < length (out_in file room list) / 32 → In i (listed_in file room list) → take 32 (drop (32 * i) (out_in file room list)) ≡ blank
  done_blank = repaired_blank file _ _ _ done_is

  -- "no byte outside the listed places differs"
  pub done_same : (k : ℕ) → k < length (out_in file room list) → (In (k / 32) (listed_in file room list) → ⊥) → get_or (out_in file room list) k 0 ≡ get_or file k 0
  done_same = repaired_bytes file _ _ _ done_is

  -- "so clause numbers hold": a clause stands where one stood, and nowhere else
  pub done_clauses : map (is_in Clauses) (records_of (out_in file room list)) ≡ map (is_in Clauses) (records_of file)
  done_clauses = repaired_clauses file _ _ _ done_is

-- "a sound file comes back unchanged", nothing listed and nothing dropped
module _ (file room list : List ℕ) (sound : Sound file) (enough : length file ≤ length room) where
  pub sound_answer : salvage_answer file (length room) (length list) ≡ done_of (length file) 0 0
  unfolding salvage_answer
  sound_answer = rw (sound_unchanged file sound, le-leb (length file) (length room) enough, le-leb 0 (length list) (omega arith))

  pub sound_room : salvage_room file room (length list) ≡ file ++ drop (length file) room
  unfolding salvage_room
  sound_room = rw (sound_unchanged file sound, le-leb (length file) (length room) enough, le-leb 0 (length list) (omega arith))

  pub sound_list : salvage_list file (length room) list ≡ list
  unfolding salvage_list
  sound_list = rw (sound_unchanged file sound, le-leb (length file) (length room) enough, le-leb 0 (length list) (omega arith))

-- repairing a repaired file, into a room that holds it, changes nothing
module _ (file room list room₂ list₂ : List ℕ) (zero_is : (salvage_answer file (length room) (length list)).number ≡ 0)
    (enough : length (out_in file room list) ≤ length room₂) where
  pub again_answer : salvage_answer (out_in file room list) (length room₂) (length list₂) ≡ done_of (length (out_in file room list)) 0 0
  again_answer = sound_answer (out_in file room list) room₂ list₂ (done_sound file room list zero_is) enough

  pub again_room : salvage_room (out_in file room list) room₂ (length list₂) ≡ out_in file room list ++ drop (length (out_in file room list)) room₂
  again_room = sound_room (out_in file room list) room₂ list₂ (done_sound file room list zero_is) enough

  pub again_list : salvage_list (out_in file room list) (length room₂) list₂ ≡ list₂
  again_list = sound_list (out_in file room list) room₂ list₂ (done_sound file room list zero_is) enough

-- "on any refusal both are as before"
module _ (file room list : List ℕ) (not-zero : (salvage_answer file (length room) (length list)).number ≡ 0 → ⊥) where
  pub refused_room : salvage_room file room (length list) ≡ room
  unfolding salvage_answer salvage_room
  refused_room = go (salvage_of file) not-zero
    where
      by_room : (out ls : List ℕ) (d : ℕ) (b : Bool) → ((cond b (done_of (length out) (length ls) d) (refusal_of 10 0)).number ≡ 0 → ⊥)
          → cond b (out ++ drop (length out) room) room ≡ room
      by_room out ls d true h = absurd (h refl)
      by_room out ls d false h = refl

      go : (S : Salvage) → ((answer_for S (length room) (length list)).number ≡ 0 → ⊥) → room_for S room (length list) ≡ room
      go (refused n p) h = refl
      go (repaired out ls d) h = by_room out ls d (fits_lent (length out) (length ls) (length room) (length list)) h

  pub refused_list : salvage_list file (length room) list ≡ list
  unfolding salvage_answer salvage_list
  refused_list = go (salvage_of file) not-zero
    where
      by_list : (out ls : List ℕ) (d : ℕ) (b : Bool) → ((cond b (done_of (length out) (length ls) d) (refusal_of 10 0)).number ≡ 0 → ⊥)
          → cond b (ls ++ drop (length ls) list) list ≡ list
      by_list out ls d true h = absurd (h refl)
      by_list out ls d false h = refl

      go : (S : Salvage) → ((answer_for S (length room) (length list)).number ≡ 0 → ⊥) → list_for S (length room) list ≡ list
      go (refused n p) h = refl
      go (repaired out ls d) h = by_list out ls d (fits_lent (length out) (length ls) (length room) (length list)) h
