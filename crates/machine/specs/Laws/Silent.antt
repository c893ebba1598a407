-- A walk in which 11 is never met: its number is 0 or 10, and with room for all of the text it is done.
use Rattle.std.specs.Prelude.{◌≡◌, List, ℕ, ◌≤◌}
use Rattle.basis.specs.Members.{either}
use Rattle.machine.specs.Machine.{Plan, Entry, start, loops, stop_of, after}
use Rattle.machine.specs.Told.{Finishes}
use Rattle.machine.specs.Units.{Result}
use Rattle.machine.specs.Explained.{Explained}
use Rattle.machine.specs.Demand.{Demand, loops_at}

module _ {R : Type 0} (P : Plan R) (rs : List R) where
  -- no number of turns leads to a package that would be opened below itself
  abbrev pub Silent : Type 0
  Silent = (k p : ℕ) → stop_of P (after P k (start rs)).stack ≡ loops p → ⊥

module _ {R : Type 0} (P : Plan R) (lines_of : Entry R → List (List ℕ)) (place_of : ℕ → ℕ) (rs : List R) (silent : Silent P rs) where
  pub never_eleven : (room : ℕ) (r : Result) → Explained P lines_of place_of (start rs) room r → r.number ≡ 11 → ⊥
  never_eleven room r x e = let l = loops_at P lines_of place_of rs room r x e in silent l.2.0 l.0 l.2.1

  pub whole_done : (D : ℕ) (d : Demand P lines_of place_of rs D) (room : ℕ) (r : Result) → Explained P lines_of place_of (start rs) room r → d.size ≤ room
      → (r.number ≡ 0) × (r.place ≡ 0) × Finishes P (start rs)
  whole_done D d room r x h = either (d.whole room r x h) (λ w. w) (λ w. absurd (never_eleven room r x w.0))
