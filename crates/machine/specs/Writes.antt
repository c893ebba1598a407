-- For a loop that walks the machine and writes an entry's lines one after another, and may stop with 10 between two of them.
use Rattle.std.specs.Prelude.{◌≡◌, refl, List, [], ◌∷◌, ◌++◌, ℕ, suc, ◌+◌, ◌≤◌, ◌<◌, max, length, get_or, take, drop}
use Rattle.std.proofs.Common.{sym, ap, ◌∙◌, append-nil, append_assoc, add-one, take-append-drop, take-suc, drop-cons}
use Rattle.std.proofs.Math.Option.{some}
use Rattle.machine.specs.Machine.{Plan, Entry, State, Stop, going, done, loops, stop_of, next, says, Told, tell, openings}
use Rattle.machine.specs.Halts.{Halted}
use Rattle.machine.specs.Units.{TextUnit, text_of, fit}
use Rattle.machine.specs.Explained.{finish, lines_as, units_of, units_for, Explained}
use Rattle.machine.specs.Fit.{concat_append, text_append}
use Rattle.machine.specs.Tally.{Tally, tally_line, tally_whole, tally_full}
use Rattle.machine.specs.Turns.{Turns, turn, turns_stop, turns_begin}

module _ {R : Type 0} (P : Plan R) where
  pub lines_append : (e : Entry R) (ls ls' : List (List ℕ)) → lines_as P e (ls ++ ls') ≡ lines_as P e ls ++ lines_as P e ls'
  lines_append e [] ls' = refl
  lines_append e (l ∷ ls) ls' = ap (λ (us : List TextUnit). record { bytes = l; openings = openings P e } ∷ us) (lines_append e ls ls')

module _ {R : Type 0} (P : Plan R) (lines_of : Entry R → List (List ℕ)) where
  -- ---- the lines of es are written, and of the next entry e the lines ls

  abbrev pub so_far : List (Entry R) → Entry R → List (List ℕ) → List TextUnit
  so_far es e ls = units_for P lines_of es ++ lines_as P e ls

  pub units_append : (es fs : List (Entry R)) → units_for P lines_of (es ++ fs) ≡ units_for P lines_of es ++ units_for P lines_of fs
  units_append es fs = concat_append (units_of P lines_of) es fs

  -- all lines of e behind those of es
  pub units_entry : (es : List (Entry R)) (e : Entry R) → units_for P lines_of (es ++ (e ∷ [])) ≡ so_far es e (lines_of e)
  units_entry es e = rw (units_append es (e ∷ []), append-nil)

  -- the same of the text
  pub text_next : (es : List (Entry R)) (e : Entry R) (ls : List (List ℕ)) (line : List ℕ)
      → text_of (so_far es e (ls ++ (line ∷ []))) ≡ text_of (so_far es e ls) ++ line
  text_next es e ls line =
      rw (lines_append P e ls (line ∷ []), ← append_assoc, text_append (so_far es e ls) (record { bytes = line; openings = openings P e } ∷ []), append-nil)

  pub text_end : (es : List (Entry R)) (e : Entry R) → text_of (units_for P lines_of (es ++ (e ∷ []))) ≡ text_of (so_far es e (lines_of e))
  text_end es e = rw (units_entry es e)

  -- ---- the ways out

  module _ (place_of : ℕ → ℕ) (s s' : State R) (es : List (Entry R)) (r : Turns P s es s') (room at units depth : ℕ) (text : List ℕ) where
    stops : (x : Stop) (num place : ℕ) → ((us : List TextUnit) → finish place_of room us x ≡ some (fit num place room us)) → stop_of P s'.stack ≡ x
        → Tally (units_for P lines_of es) at units depth → text ≡ text_of (units_for P lines_of es) → at ≤ room
        → Explained P lines_of place_of s room (record { number = num; place = place; bytes = at; units = units; depth = depth; text = text })
    stops x num place f q t e h =
        let w = turns_stop P s s' es x r q in
        record {
          turns = w.0;
          so = rw w.1 (f (units_for P lines_of es)
              ∙ ap some (tally_whole num place room (units_for P lines_of es) at units depth text t e h));
        }

    -- the stack is empty: 0
    pub end_done : s'.stack ≡ [] → Tally (units_for P lines_of es) at units depth → text ≡ text_of (units_for P lines_of es) → at ≤ room
        → Explained P lines_of place_of s room (record { number = 0; place = 0; bytes = at; units = units; depth = depth; text = text })
    end_done q t e h = stops done 0 0 (λ us. refl) (rw q) t e h

    -- the next package would be opened below itself: 11
    pub end_loops : (p : ℕ) → stop_of P s'.stack ≡ loops p → Tally (units_for P lines_of es) at units depth → text ≡ text_of (units_for P lines_of es) → at ≤ room
        → Explained P lines_of place_of s room (record { number = 11; place = place_of p; bytes = at; units = units; depth = depth; text = text })
    end_loops p q t e h = stops (loops p) 11 (place_of p) (λ us. refl) q t e h

    -- the next entry is e, of which ls are written and `line` does not fit: 10, since the machine would go on to stop somewhere
    module _ (halted : (n : ℕ) × Halted (tell P n s).stop) (e : Entry R) (goes : stop_of P s'.stack ≡ going) (shown : says P s' ≡ e ∷ [])
        (ls : List (List ℕ)) (line : List ℕ) (ls' : List (List ℕ)) (is : lines_of e ≡ ls ++ (line ∷ ls')) where
      abbrev here : TextUnit
      here = record { bytes = line; openings = openings P e }

      told : (t : Told R) × (tell P halted.0 s ≡ record { shown = (es ++ (e ∷ [])) ++ t.shown; stop = t.stop })
      told = turns_begin P s (next P s') (es ++ (e ∷ [])) (rw shown at (turn es s' r goes)) halted.0 halted.1

      -- all that is told: what is written, the line, and what follows
      told_units : units_for P lines_of (tell P halted.0 s).shown ≡ so_far es e ls ++ (here ∷ (lines_as P e ls' ++ units_for P lines_of told.0.shown))
      told_units =
          rw (told.1, units_append (es ++ (e ∷ [])) told.0.shown, units_entry es e, is, lines_append P e ls (line ∷ ls')) (simp append_assoc)

      over : (x : Stop) → Halted x → (vs : List TextUnit) → Tally (so_far es e ls) at units depth → text ≡ text_of (so_far es e ls) → at ≤ room
          → room < at + length line
          → finish place_of room (so_far es e ls ++ (here ∷ vs)) x ≡ some (record {
            number = 10;
            place = units;
            bytes = at;
            units = units;
            depth = depth;
            text = text;
          })
      over going h vs t q a b = absurd h
      over done h vs t q a b = ap some (tally_full 0 0 room (so_far es e ls) at units depth text t q a here vs b)
      over (loops p) h vs t q a b = ap some (tally_full 11 (place_of p) room (so_far es e ls) at units depth text t q a here vs b)

      pub end_full : Tally (so_far es e ls) at units depth → text ≡ text_of (so_far es e ls) → at ≤ room → room < at + length line
          → Explained P lines_of place_of s room (record { number = 10; place = units; bytes = at; units = units; depth = depth; text = text })
      end_full t q a b =
          record {
            turns = halted.0;
            so = rw told_units (over (tell P halted.0 s).stop halted.1 (lines_as P e ls' ++ units_for P lines_of told.0.shown) t q a b);
          }
