-- The contract of an explanation over any plan and any wording: what it says, that it says one thing, and that it says something.
use Rattle.std.specs.Prelude.{◌≡◌, List, map, ℕ}
use Rattle.std.proofs.Math.Option.{Option, none, some}
use Rattle.basis.specs.Lists.{concat_map}
use Rattle.machine.specs.Machine.{Plan, Entry, State, Stop, going, done, loops, tell, openings}
use Rattle.machine.specs.Units.{TextUnit, Result, fit}

-- "Of 10 and 11 the first met is given": 11 is met behind the last unit. `place_of` gives the package's solvable.
abbrev pub finish : (ℕ → ℕ) → ℕ → List TextUnit → Stop → Option Result
finish place_of room us going = none
finish place_of room us done = some (fit 0 0 room us)
finish place_of room us (loops n) = some (fit 11 (place_of n) room us)

module _ {R : Type 0} (P : Plan R) where
  -- "A unit is a line": those that an entry writes, with its openings
  abbrev pub lines_as : Entry R → List (List ℕ) → List TextUnit
  lines_as e ls = map (λ l. record { bytes = l; openings = openings P e }) ls

module _ {R : Type 0} (P : Plan R) (lines_of : Entry R → List (List ℕ)) where
  -- `lines_of`: all lines of an entry, which may be several ("would constrain")
  abbrev pub units_of : Entry R → List TextUnit
  units_of e = lines_as P e (lines_of e)

  -- `units_of` one entry after another
  abbrev pub units_for : List (Entry R) → List TextUnit
  units_for es = concat_map units_of es

  -- the result, if n turns of the port's machine are enough (`finish` of what `tell` says)
  abbrev pub explain : (ℕ → ℕ) → ℕ → State R → ℕ → Option Result
  explain place_of n s room = let t = tell P n s in finish place_of room (units_for t.shown) t.stop

-- the contract: after some number of turns of the machine the result is r
pub record Explained {R : Type 0} (P : Plan R) (lines_of : Entry R → List (List ℕ)) (place_of : ℕ → ℕ) (s : State R) (room : ℕ) (r : Result) : Type 0 where
  pub turns : ℕ
  pub so : explain P lines_of place_of turns s room ≡ some r
