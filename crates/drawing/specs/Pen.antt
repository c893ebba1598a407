-- Writing units into a room as far as they fit, from an answer so far; and what the code's steps and loops do to it.
use Rattle.std.specs.Prelude.{◌≡◌, Result, Ok, Err, MatchResult, Bool, ◌&&◌, eqb, leb}
use Rattle.std.proofs.Math.Path.{refl}
use Rattle.std.proofs.Common.{sym, ap, ◌∙◌, arith, length-append, length-take-le, drop-drop}
use Rattle.std.proofs.Math.Bool.{true, false}
use mathlib.Core.List.{List, [], ◌∷◌, ◌++◌, append-nil}
use Prim.Native.Nat.{ℕ, ◌+◌, ◌-◌, ◌≤◌, ◌<◌}
use Rattle.std.proofs.Math.ListN.{length, take, drop, length-drop}
use Rattle.std.proofs.Math.Seq.{take-length, drop-length}
use borrow.Author.Tests.{eq-eqb, le-leb, lt-leb, leb-true}
use borrow.Rule.Slice.PartMut.{put_mid}
use Rattle.basis.specs.Members.{split}
use Rattle.texts.specs.Wrote.{Wrote}
use Rattle.drawing.specs.declared.Pen.{Pen}
use Rattle.drawing.specs.declared.Full.{Full}
use Rattle.drawing.specs.declared.PenAnswer.{PenAnswer}

-- a unit is taken while no earlier one was refused, if it fits behind them
abbrev pub takes : ℕ → List ℕ → PenAnswer → Bool
takes k u p = eqb p.number 0 && leb (p.bytes + length u) k

abbrev pub more : List ℕ → PenAnswer → PenAnswer
more u p = record { number = 0; place = 0; bytes = p.bytes + length u; units = p.units + 1; depth = 0 }

-- 10, place "units written"
abbrev pub stopped : PenAnswer → PenAnswer
stopped p = record { number = 10; place = p.units; bytes = p.bytes; units = p.units; depth = 0 }

-- as the code holds them: while units fit, and once all is written or one did not fit
abbrev pub going : Pen → PenAnswer
going p = record { number = 0; place = 0; bytes = p.bytes; units = p.units; depth = 0 }

abbrev pub ended : Result Pen Full → PenAnswer
ended (Ok p) = going p
ended (Err e) = stopped (going e.pen)

-- n bytes more fit the room, or the pen comes back
abbrev pub Fits : Pen → ℕ → ℕ → Result (Unit {0}) Full → Type 0
Fits p room n r = MatchResult r (λ x. n ≤ room - p.bytes) (λ e. (e.pen ≡ p) × (room - p.bytes < n))

full_of : Pen → Full
full_of p = record { pen = p }

pub fits_one : (p : Pen) (room n : ℕ) (a b : Result (Unit {0}) Full) → Fits p room n a → Fits p room n b → a ≡ b
unfolding full_of
fits_one p room n (Ok u) (Ok v) f g = refl
fits_one p room n (Ok u) (Err e) f g = absurd (omega (arith, f, g.1))
fits_one p room n (Err e) (Ok v) f g = absurd (omega (arith, f.1, g))
fits_one p room n (Err d) (Err e) f g = ap (λ (x : Pen). Err (full_of x)) (f.0 ∙ sym g.0)

abbrev pub put_in : List ℕ → ℕ → List ℕ → List ℕ
put_in a n u = take n a ++ (u ++ drop (n + length u) a)

unfoldable pub answer_after : ℕ → List (List ℕ) → PenAnswer → PenAnswer
answer_after k [] p = p
answer_after k (u ∷ us) p = elim (takes k u p) [ true ↦ answer_after k us (more u p) | false ↦ stopped p ]

unfoldable pub room_after : List (List ℕ) → List ℕ → PenAnswer → List ℕ
room_after [] a p = a
room_after (u ∷ us) a p = elim (takes (length a) u p) [ true ↦ room_after us (put_in a p.bytes u) (more u p) | false ↦ a ]

-- ---- laws

both : (x y : Bool) → x && y ≡ true → y ≡ true
both true y e = e
both false y e = absurd (clash e)
  where
    clash : false ≡ true → ⊥
    clash z = let q : ◌≡◌ {A = ℕ} 0 1 = cc in omega arith

pub takes_fits : (k : ℕ) (u : List ℕ) (p : PenAnswer) → takes k u p ≡ true → p.bytes + length u ≤ k
takes_fits k u p t = leb-true (p.bytes + length u) k (both (eqb p.number 0) (leb (p.bytes + length u) k) t)

pub put_long : (a : List ℕ) (n : ℕ) (u : List ℕ) → n + length u ≤ length a → length (put_in a n u) ≡ length a
put_long a n u h =
    rw (length-append, length-append, length-drop, length-take-le n a (let z : n ≤ length a = omega arith in z)) (omega arith)

after_stopped : (k : ℕ) (us : List (List ℕ)) (p : PenAnswer) → answer_after k us (stopped p) ≡ stopped p
unfolding answer_after
after_stopped k [] p = refl
after_stopped k (u ∷ us) p = refl

room_stopped : (us : List (List ℕ)) (a : List ℕ) (p : PenAnswer) → room_after us a (stopped p) ≡ a
unfolding room_after
room_stopped [] a p = refl
room_stopped (u ∷ us) a p = refl

answer_append : (k : ℕ) (us vs : List (List ℕ)) (p : PenAnswer) → answer_after k (us ++ vs) p ≡ answer_after k vs (answer_after k us p)
unfolding answer_after
answer_append k [] vs p = refl
answer_append k (u ∷ us) vs p =
    split (takes k u p) (λ t. rw (t, answer_after) (answer_append k us vs (more u p))) (λ t. rw (t, answer_after) (sym (after_stopped k vs p)))

room_append : (us vs : List (List ℕ)) (a : List ℕ) (p : PenAnswer) → room_after (us ++ vs) a p ≡ room_after vs (room_after us a p) (answer_after (length a) us p)
unfolding answer_after room_after
room_append [] vs a p = refl
room_append (u ∷ us) vs a p =
    split (takes (length a) u p)
    (λ t. rw (t, answer_after, room_after)
    (room_append us vs (put_in a p.bytes u) (more u p)
    ∙ ap (λ (k : ℕ). room_after vs (room_after us (put_in a p.bytes u) (more u p)) (answer_after k us (more u p)))
    (put_long a p.bytes u (takes_fits (length a) u p t))))
    (λ t. rw (t, answer_after, room_after) (sym (room_stopped vs a p)))

room_long : (us : List (List ℕ)) (a : List ℕ) (p : PenAnswer) → length (room_after us a p) ≡ length a
unfolding room_after
room_long [] a p = refl
room_long (u ∷ us) a p =
    split (takes (length a) u p)
    (λ t. rw (t, room_after) (room_long us (put_in a p.bytes u) (more u p) ∙ put_long a p.bytes u (takes_fits (length a) u p t)))
    (λ t. rw (t, room_after))

-- ---- an answer so far

pub record Fine (a : List ℕ) (p : PenAnswer) : Type 0 where
  pub low : p.bytes ≤ length a
  pub few : p.units ≤ p.bytes
  pub whole : (p.number ≡ 0 → ⊥) → p ≡ stopped p

-- the units us went into room a, as far as they fit: room b and answer q are left
pub record Adds (us : List (List ℕ)) (a : List ℕ) (p : PenAnswer) (b : List ℕ) (q : PenAnswer) : Type 0 where
  pub answer : q ≡ answer_after (length a) us p
  pub room : b ≡ room_after us a p
  pub fine : Fine b q

pub adds_none : (a : List ℕ) (p : PenAnswer) → Fine a p → Adds [] a p a p
unfolding answer_after room_after
adds_none a p f = record { answer = refl; room = refl; fine = f }

module _ (u a : List ℕ) (p : PenAnswer) (f : Fine a p) (z : p.number ≡ 0) where
  -- u was written behind what stands
  pub adds_one : (e : List ℕ) (m : ℕ) → Wrote u (take (length a - p.bytes) (drop p.bytes a)) e m → 0 < length u
      → Adds (u ∷ []) a p (put_mid p.bytes (length a - p.bytes) a e) (record {
        number = 0;
        place = 0;
        bytes = p.bytes + m;
        units = p.units + 1;
        depth = 0;
      })
  unfolding answer_after room_after
  adds_one e m w s =
      let n : ℕ = p.bytes in
      let h4 : take (length a - p.bytes) (drop p.bytes a) ≡ drop p.bytes a = rw (← length-drop p.bytes a) (take-length (drop p.bytes a)) in
      let h5 : drop (length a - p.bytes) (drop p.bytes a) ≡ [] = rw (← length-drop p.bytes a) (drop-length (drop p.bytes a)) in
      let h6 : length u ≤ length (drop p.bytes a) = rw (← h4) w.fits in
      let h7 : p.bytes + length u ≤ length a = omega (arith, h6, length-drop p.bytes a, f.low) in
      let h8 : takes (length a) u p ≡ true = rw (eq-eqb p.number 0 z, le-leb (p.bytes + length u) (length a) h7) in
      let h9 : put_mid p.bytes (length a - p.bytes) a e ≡ put_in a p.bytes u = rw (w.leaves, h4, h5, append-nil, drop-drop) in
      record {
        answer = rw (w.count, h8, answer_after);
        room = h9 ∙ rw (h8, room_after);
        fine =
            rw (h9, w.count)
            (record { low = rw (put_long a p.bytes u h7) h7; few = omega (arith, f.few); whole = λ g. absurd (g refl) });
      }

  -- u does not fit; n is its length
  pub adds_full : (n : ℕ) → n ≡ length u → length a - p.bytes < n
      → Adds (u ∷ []) a p a (record { number = 10; place = p.units; bytes = p.bytes; units = p.units; depth = 0 })
  unfolding answer_after room_after
  adds_full n q h =
      let h7 : length a < p.bytes + length u = omega (arith, f.low) in
      let h8 : takes (length a) u p ≡ false = rw (eq-eqb p.number 0 z, lt-leb (p.bytes + length u) (length a) h7) in
      record {
        answer = rw (h8, answer_after);
        room = rw (h8, room_after);
        fine = record { low = f.low; few = f.few; whole = λ g. refl };
      }

-- ---- what is left to write: done with it, all is done

pub record PenLeft (all : List (List ℕ)) (a : List ℕ) (p : PenAnswer) (left : List (List ℕ)) (b : List ℕ) (q : PenAnswer) : Type 0 where
  pub long : length b ≡ length a
  pub answer : answer_after (length b) left q ≡ answer_after (length a) all p
  pub room : room_after left b q ≡ room_after all a p
  pub fine : Fine b q

pub left_start : (all : List (List ℕ)) (a : List ℕ) (p : PenAnswer) → Fine a p → PenLeft all a p all a p
left_start all a p f = record { long = refl; answer = refl; room = refl; fine = f }

module _ (all : List (List ℕ)) (a : List ℕ) (p : PenAnswer) (left : List (List ℕ)) (b : List ℕ) (q : PenAnswer) where
  pub left_next : (us : List (List ℕ)) (c : List ℕ) (r : PenAnswer) → PenLeft all a p (us ++ left) b q → Adds us b q c r → PenLeft all a p left c r
  left_next us c r L A =
      record {
        long = rw (A.room, room_long) L.long;
        answer = rw (A.room, A.answer, room_long) (sym (answer_append (length b) us left q) ∙ L.answer);
        room = rw (A.room, A.answer) (sym (room_append us left b q) ∙ L.room);
        fine = A.fine;
      }

  pub left_end : left ≡ [] → PenLeft all a p left b q → Adds all a p b q
  unfolding answer_after room_after
  left_end e L = let M : PenLeft all a p [] b q = rw e at L in record { answer = M.answer; room = M.room; fine = M.fine }

  -- a unit was refused: nothing more is written
  pub left_stop : PenLeft all a p left b q → (q.number ≡ 0 → ⊥) → Adds all a p b q
  left_stop L n =
      let e : q ≡ stopped q = L.fine.whole n in
      record {
        answer = e ∙ sym (after_stopped (length b) left q) ∙ ap (answer_after (length b) left) (sym e) ∙ L.answer;
        room = sym (room_stopped left b q) ∙ ap (room_after left b) (sym e) ∙ L.room;
        fine = L.fine;
      }
