-- The contract of an explanation says one thing, and it says something.
use Rattle.std.specs.Prelude.{◌≡◌, refl, List, ℕ}
use Rattle.std.proofs.Common.{ap}
use Rattle.std.proofs.Math.Option.{some}
use Rattle.basis.specs.Members.{In, clash}
use Rattle.machine.specs.Machine.{Plan, Entry, State, start, Stop, going, done, loops, Told, tell}
use Rattle.machine.specs.Bound.{Counted}
use Rattle.machine.specs.Halts.{Halted, halts}
use Rattle.machine.specs.Told.{same}
use Rattle.machine.specs.Units.{TextUnit, Result, fit}
use Rattle.machine.specs.Explained.{finish, units_for, explain, Explained}

module _ (place_of : ℕ → ℕ) (room : ℕ) (us : List TextUnit) where
  pub finish_halted : (x : Stop) (r : Result) → finish place_of room us x ≡ some r → Halted x
  finish_halted going r e = clash cc
  finish_halted done r e = tt
  finish_halted (loops k) r e = tt

  pub halted_finish : (x : Stop) → Halted x → (r : Result) × (finish place_of room us x ≡ some r)
  halted_finish going h = absurd h
  halted_finish done h = (fit 0 0 room us, refl)
  halted_finish (loops k) h = (fit 11 (place_of k) room us, refl)

module _ {R : Type 0} (P : Plan R) (lines_of : Entry R → List (List ℕ)) (place_of : ℕ → ℕ) where
  pub explained_halted : (s : State R) (room : ℕ) (r : Result) (x : Explained P lines_of place_of s room r) → Halted (tell P x.turns s).stop
  explained_halted s room r x =
      let t : Told R = tell P x.turns s in finish_halted place_of room (units_for P lines_of t.shown) t.stop r x.so

  -- two results that the contract allows are equal
  pub unique : (s : State R) (room : ℕ) (r r' : Result) → Explained P lines_of place_of s room r → Explained P lines_of place_of s room r' → r ≡ r'
  unique s room r r' x y =
      let t = same P x.turns y.turns s (explained_halted s room r x) (explained_halted s room r' y) in
      let g : explain P lines_of place_of x.turns s room ≡ explain P lines_of place_of y.turns s room =
      ap (λ (u : Told R). finish place_of room (units_for P lines_of u.shown) u.stop) t in
      let a = x.so in
      let b = y.so in
      cc

  -- and there is one for every plan whose kids are counted, and every room
  pub answers : (G U : List ℕ) → ((r : R) (n : ℕ) → In n (P.kids r) → Counted P G U n) → (rs : List R) (room : ℕ)
      → (r : Result) × Explained P lines_of place_of (start rs) room r
  answers G U counted rs room =
      let h = halts P G U counted rs in
      let t : Told R = tell P h.0 (start rs) in
      let f = halted_finish place_of room (units_for P lines_of t.shown) t.stop h.1 in
      (f.0, record { turns = h.0; so = f.1 })
