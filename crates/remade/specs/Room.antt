-- What a recorded call that is lent a room alone shows when it is made again.
use Rattle.std.specs.Prelude.{◌≡◌, List, ℕ, ◌≤◌, length, take, replicate}
use Rattle.std.proofs.Common.{sym, ◌∙◌}
use Rattle.texts.specs.Wrote.{over}
use Rattle.calls.specs.declared.Answer.{Answer}
use Rattle.calls.specs.Says.{Says}
use Rattle.calls.specs.Laws.Says.{says_one}
use Rattle.calls.specs.Plain.{plain_option}
use Rattle.calls.specs.Air.{SaysAir}
use Rattle.calls.specs.Laws.Air.{says_air_one}
use Rattle.calls.specs.WhatIf.{SaysWhatIf}
use Rattle.calls.specs.Laws.WhatIf.{says_what_if_one}
use Rattle.charts.specs.Draws.{result_answer, draw_file}
use Rattle.charts.specs.Wall.{export_file}
use Rattle.calls.specs.Write.{written_answer}
use Rattle.writing.specs.Write.{write_answer, write_room}
use Rattle.again.specs.declared.Seen.{Seen}
use Rattle.remade.specs.declared.rooms.RoomCall.{RoomCall}
use Rattle.remade.specs.declared.rooms.RoomCall.TheVariants as R
use Rattle.again.specs.Sum.{sum_of}
use Rattle.again.specs.Seen.{seen_of, answer_in, blank, take_blank, both_one}

-- the graph text: what the room holds after the call, and the answer
pub record RoomDrawn (file : List ℕ) (opt : ℕ) (out left : List ℕ) (a : Answer) : Type 0 where
  pub says : a ≡ result_answer (draw_file file opt (length out))
  pub leaves : left ≡ over (draw_file file opt (length out)).text out

-- the text of the wall display
pub record RoomHung (file out left : List ℕ) (a : Answer) : Type 0 where
  pub says : a ≡ result_answer (export_file file (length out))
  pub leaves : left ≡ over (export_file file (length out)).text out

-- the file that the rows make
pub record RoomMade (rows out left : List ℕ) (a : Answer) : Type 0 where
  pub says : a ≡ written_answer (write_answer rows (length out))
  pub leaves : left ≡ write_room rows out

-- the eight calls: explain, explain plainly, explain by edition 2, explain in the air profile, explain with one more exclusion, of solvable
-- s for reason t, draw, write the text of the wall display, write the file that the rows make
unfoldable pub RoomAnswers : List ℕ → RoomCall → List ℕ → List ℕ → Answer → Type 0
RoomAnswers file (R.Explain opt) = Says 1 file opt
RoomAnswers file R.Plain = Says 1 file plain_option
RoomAnswers file (R.Second opt) = Says 2 file opt
RoomAnswers file (R.Air opt) = SaysAir file opt
RoomAnswers file (R.WhatIf s t opt) = SaysWhatIf file s t opt
RoomAnswers file (R.Graph opt) = RoomDrawn file opt
RoomAnswers file R.Wall = RoomHung file
RoomAnswers file R.Write = RoomMade file

-- a call that does R with its room, in the room `out`: the answer, and the checksum of what it leaves there
pub record RoomShown (R : List ℕ → List ℕ → Answer → Type 0) (out : List ℕ) (r : Seen) : Type 0 where
  pub left : List ℕ
  pub does : R out left (answer_in r)
  pub sums : r.sum ≡ sum_of left

-- two results that it allows are equal, if R determines answer and room
pub shown_one : (R : List ℕ → List ℕ → Answer → Type 0)
    → ((out left right : List ℕ) (a b : Answer) → R out left a → R out right b → (a ≡ b) × (left ≡ right)) → (out : List ℕ) (r q : Seen) → RoomShown R out r
    → RoomShown R out q → r ≡ q
shown_one R one out r q S T =
    both_one r q S.left T.left S.sums T.sums (one out S.left T.left (answer_in r) (answer_in q) S.does T.does)

pub told_one : (e : ℕ) (file : List ℕ) (opt : ℕ) (out : List ℕ) (r q : Seen) → RoomShown (Says e file opt) out r → RoomShown (Says e file opt) out q → r ≡ q
told_one e file opt = shown_one (Says e file opt) (says_one e file opt)

pub aired_one : (file : List ℕ) (opt : ℕ) (out : List ℕ) (r q : Seen) → RoomShown (SaysAir file opt) out r → RoomShown (SaysAir file opt) out q → r ≡ q
aired_one file opt = shown_one (SaysAir file opt) (says_air_one file opt)

pub told_if_one : (file : List ℕ) (s t opt : ℕ) (out : List ℕ) (r q : Seen) → RoomShown (SaysWhatIf file s t opt) out r → RoomShown (SaysWhatIf file s t opt) out q
    → r ≡ q
told_if_one file s t opt = shown_one (SaysWhatIf file s t opt) (says_what_if_one file s t opt)

pub drew_one : (file : List ℕ) (opt : ℕ) (out : List ℕ) (r q : Seen) → RoomShown (RoomDrawn file opt) out r → RoomShown (RoomDrawn file opt) out q → r ≡ q
drew_one file opt = shown_one (RoomDrawn file opt) (λ out left right a b A B. (A.says ∙ sym B.says, A.leaves ∙ sym B.leaves))

pub hung_one : (file out : List ℕ) (r q : Seen) → RoomShown (RoomHung file) out r → RoomShown (RoomHung file) out q → r ≡ q
hung_one file = shown_one (RoomHung file) (λ out left right a b A B. (A.says ∙ sym B.says, A.leaves ∙ sym B.leaves))

pub made_one : (rows out : List ℕ) (r q : Seen) → RoomShown (RoomMade rows) out r → RoomShown (RoomMade rows) out q → r ≡ q
made_one rows = shown_one (RoomMade rows) (λ out left right a b A B. (A.says ∙ sym B.says, A.leaves ∙ sym B.leaves))

-- ---- the ways through the code

module _ (file : List ℕ) (k : RoomCall) (out left : List ℕ) (a : Answer) where
  pub by_explain : (opt : ℕ) → k ≡ R.Explain opt → Says 1 file opt out left a → RoomAnswers file k out left a
  unfolding RoomAnswers
  by_explain opt q e = rw q e

  pub by_plain : k ≡ R.Plain → Says 1 file plain_option out left a → RoomAnswers file k out left a
  unfolding RoomAnswers
  by_plain q e = rw q e

  pub by_second : (opt : ℕ) → k ≡ R.Second opt → Says 2 file opt out left a → RoomAnswers file k out left a
  unfolding RoomAnswers
  by_second opt q e = rw q e

  pub by_air : (opt : ℕ) → k ≡ R.Air opt → SaysAir file opt out left a → RoomAnswers file k out left a
  unfolding RoomAnswers
  by_air opt q e = rw q e

  pub by_asking : (s t opt : ℕ) → k ≡ R.WhatIf s t opt → SaysWhatIf file s t opt out left a → RoomAnswers file k out left a
  unfolding RoomAnswers
  by_asking s t opt q e = rw q e

  pub by_drawing : (opt : ℕ) → k ≡ R.Graph opt → a ≡ result_answer (draw_file file opt (length out)) → left ≡ over (draw_file file opt (length out)).text out
      → RoomAnswers file k out left a
  unfolding RoomAnswers
  by_drawing opt q e l = rw q (record { says = e; leaves = l })

  pub by_hanging : k ≡ R.Wall → a ≡ result_answer (export_file file (length out)) → left ≡ over (export_file file (length out)).text out
      → RoomAnswers file k out left a
  unfolding RoomAnswers
  by_hanging q e l = rw q (record { says = e; leaves = l })

  pub by_making : k ≡ R.Write → a ≡ written_answer (write_answer file (length out)) → left ≡ write_room file out → RoomAnswers file k out left a
  unfolding RoomAnswers
  by_making q e l = rw q (record { says = e; leaves = l })

pub shown_in : (file : List ℕ) (k : RoomCall) (out left : List ℕ) (a : Answer) (m : ℕ) (r : Seen) → RoomAnswers file k out left a → m ≡ sum_of left
    → r ≡ seen_of a m → RoomShown (RoomAnswers file k) out r
shown_in file k out left a m r A p q = rw q (record { left = left; does = A; sums = p })

pub shown_blank : (R : List ℕ → List ℕ → Answer → Type 0) (n : ℕ) (r : Seen) → RoomShown R (take n (replicate 65536 165)) r → n ≤ 65536 → RoomShown R (blank n) r
shown_blank R n r S l = rw (take_blank {A = ℕ} 165 n 65536 l) at S
