-- Writing unit by unit from nothing gives the units that fit, and what stands behind them stays.
use Rattle.std.specs.Prelude.{◌≡◌, drop}
use Rattle.std.proofs.Math.Path.{refl}
use Rattle.std.proofs.Common.{sym, ap, ◌∙◌, length-append, length-drop, drop-drop}
use mathlib.Core.List.{List, [], ◌∷◌, ◌++◌, map, append-nil, append_assoc}
use Prim.Native.Nat.{ℕ, ◌+◌, ◌≤◌, ◌<◌, max}
use native.Mathlib.Omega.{arith}
use Rattle.std.proofs.Math.ListN.{length}
use Rattle.std.proofs.Math.Seq.{take-append_seam, drop-append_seam}
use borrow.Author.Tests.{leb-false}
use Rattle.basis.specs.Members.{split}
use Rattle.machine.specs.Units.{TextUnit, Result, text_of, fit}
use Rattle.machine.specs.Fit.{text_append}
use Rattle.machine.specs.Tally.{Tally, tally_none, tally_line, tally_whole, tally_full}
use Rattle.texts.specs.Wrote.{over}
use Rattle.drawing.specs.declared.PenAnswer.{PenAnswer}
use Rattle.drawing.specs.Draw.{Sketch, drawing_units}
use Rattle.drawing.specs.Graphviz.{unit_of, fit_units, draw_shown, answer_in}
use Rattle.drawing.specs.Pen.{takes, put_in, answer_after, room_after, Adds, takes_fits}

abbrev going : ℕ → ℕ → PenAnswer
going at n = record { number = 0; place = 0; bytes = at; units = n; depth = 0 }

-- u behind t in the room o
put_over : (t u o : List ℕ) → put_in (over t o) (length t) u ≡ over (t ++ u) o
put_over t u o =
    let x = drop (length t) o in
    let h : drop (length t + length u) (t ++ x) ≡ drop (length u) x = sym (drop-drop (length u) (length t) (t ++ x))
    ∙ ap (drop (length u)) (drop-append_seam t x) in
    rw (take-append_seam t x, h, length-append, ← drop-drop) (sym (append_assoc t u (drop (length u) x)))

over_long : (t o : List ℕ) → length t ≤ length o → length (over t o) ≡ length o
over_long t o h = rw (length-append, length-drop) (omega arith)

-- ws are written, us are left
record Stands (ws : List TextUnit) (at n : ℕ) (o : List ℕ) : Type 0 where
  tally : Tally ws at n 0
  fits : at ≤ length o

record Ends (R : Result) (o : List ℕ) (b : List ℕ) (q : PenAnswer) : Type 0 where
  answer : q ≡ answer_in R
  room : b ≡ over R.text o

module _ (o : List ℕ) where
  ends : (us : List (List ℕ)) (ws : List TextUnit) (at n : ℕ) → Stands ws at n o
      → Ends (fit 0 0 (length o) (ws ++ map unit_of us)) o (room_after us (over (text_of ws) o) (going at n)) (answer_after (length o) us (going at n))
  unfolding answer_after room_after
  ends [] ws at n S =
      let e : fit 0 0 (length o) (ws ++ []) ≡ record { number = 0; place = 0; bytes = at; units = n; depth = 0; text = text_of ws } =
      rw append-nil (tally_whole 0 0 (length o) ws at n 0 (text_of ws) S.tally refl S.fits) in
      rw e (record { answer = refl; room = refl })
  ends (u ∷ us) ws at n S =
      let l : length (over (text_of ws) o) ≡ length o = over_long (text_of ws) o (let b = S.tally.bytes in let f = S.fits in omega arith) in
      split (takes (length o) u (going at n))
      (λ t.
      let h : at + length u ≤ length o = takes_fits (length o) u (going at n) t in
      let m : max 0 0 ≡ 0 = omega arith in
      let q : Tally (ws ++ (unit_of u ∷ [])) (at + length u) (n + 1) 0 = rw m at (tally_line ws at n 0 u 0 S.tally) in
      let r = ends us (ws ++ (unit_of u ∷ [])) (at + length u) (n + 1) (record { tally = q; fits = h }) in
      let a : (ws ++ (unit_of u ∷ [])) ++ map unit_of us ≡ ws ++ (unit_of u ∷ map unit_of us) = append_assoc ws (unit_of u ∷ []) (map unit_of us) in
      let x : text_of (ws ++ (unit_of u ∷ [])) ≡ text_of ws ++ u = text_append ws (unit_of u ∷ []) ∙ rw append-nil in
      let y : put_in (over (text_of ws) o) at u ≡ over (text_of (ws ++ (unit_of u ∷ []))) o = rw (S.tally.bytes, put_over (text_of ws) u o, x) in
      rw (l, t, answer_after, room_after, y) (rw a at r))
      (λ t.
      let h : length o < at + length u = leb-false (at + length u) (length o) t in
      let e = tally_full 0 0 (length o) ws at n 0 (text_of ws) S.tally refl S.fits (unit_of u) (map unit_of us) h in
      rw (l, t, answer_after, room_after, e) (record { answer = refl; room = refl }))

-- the whole text, from an empty answer
module _ (D : Sketch) (o b : List ℕ) (q : PenAnswer) (A : Adds (drawing_units D) o (record { number = 0; place = 0; bytes = 0; units = 0; depth = 0 }) b q) where
  whole : Ends (draw_shown D (length o)) o b q
  unfolding draw_shown fit_units
  whole = rw (A.answer, A.room) (ends o (drawing_units D) [] 0 0 (record { tally = tally_none; fits = omega arith }))

  pub drawn_answer : q ≡ answer_in (draw_shown D (length o))
  drawn_answer = whole.answer

  pub drawn_room : b ≡ over (draw_shown D (length o)).text o
  drawn_room = whole.room

-- any units, from an empty answer
module _ (us : List (List ℕ)) (o b : List ℕ) (q : PenAnswer) (A : Adds us o (record { number = 0; place = 0; bytes = 0; units = 0; depth = 0 }) b q) where
  shown : Ends (fit_units us (length o)) o b q
  unfolding fit_units
  shown = rw (A.answer, A.room) (ends o us [] 0 0 (record { tally = tally_none; fits = omega arith }))

  pub shown_answer : q ≡ answer_in (fit_units us (length o))
  shown_answer = shown.answer

  pub shown_room : b ≡ over (fit_units us (length o)).text o
  shown_room = shown.room
