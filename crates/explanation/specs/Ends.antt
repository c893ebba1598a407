-- What the walk's enums answer, as document 01 numbers it: a package's verdict, and how a turn ends.
use Rattle.std.specs.Prelude.{◌≡◌, Bool, true, false, List, ℕ, Ok, Err}
use Rattle.std.specs.declared.result.Result.{Result}
use Rattle.std.proofs.Math.Option.{Option, none, some}
use Rattle.plan.specs.Fields.{solvable_in}
use Rattle.explanation.specs.declared.frames.Top.{Top}
use Rattle.explanation.specs.declared.frames.Verdict.{Verdict}
use Rattle.explanation.specs.declared.frames.Verdict.TheVariants.{Skip, Repeat, Show}
use Rattle.explanation.specs.declared.turns.End.{End}
use Rattle.explanation.specs.declared.turns.End.TheVariants.{Done, Loops, Full}
use Rattle.explanation.specs.declared.walk.WalkAnswer.{WalkAnswer}

-- 11 where a package "comes to be opened below itself"; one that is skipped or shown gets none
abbrev pub refusal_by : Verdict → Option ℕ
refusal_by Skip = none
refusal_by Repeat = some 11
refusal_by Show = none

abbrev pub refuses : Verdict → Bool
refuses v = elim (refusal_by v) [ none ↦ false | some k ↦ true ]

-- the answer from where the walk stands
abbrev pub answer_at : ℕ → ℕ → Top → WalkAnswer
answer_at number place t = record { number = number; place = place; bytes = t.at; units = t.units; depth = t.depth }

-- t: where the walk stood before the turn, u: where it stands behind it. None: the walk goes on from u. "0 means done, place 0"; 11 has the
-- solvable as its place and writes nothing; 10 has the units written, with those of the turn among them.
unfoldable pub told_of : List ℕ → Result Top End → Top → Option WalkAnswer
told_of p (Ok u) t = none
told_of p (Err Done) t = some (answer_at 0 0 t)
told_of p (Err (Loops n)) t = some (answer_at 11 (solvable_in p n) t)
told_of p (Err (Full u)) t = some (answer_at 10 u.units u)

-- ---- ways out of the function that makes them

pub told_done : (p : List ℕ) (t : Top) (a : WalkAnswer) → a ≡ answer_at 0 0 t → told_of p (Err Done) t ≡ some a
unfolding told_of
told_done p t a e = rw e

pub told_loops : (p : List ℕ) (t : Top) (a : WalkAnswer) (n m y : ℕ) → a ≡ answer_at 11 m t → m ≡ y → y ≡ solvable_in p n
    → told_of p (Err (Loops n)) t ≡ some a
unfolding told_of
told_loops p t a n m y ai mi yi = rw (ai, mi, yi)

pub told_full : (p : List ℕ) (t u : Top) (a : WalkAnswer) → a ≡ answer_at 10 u.units u → told_of p (Err (Full u)) t ≡ some a
unfolding told_of
told_full p t u a e = rw e
