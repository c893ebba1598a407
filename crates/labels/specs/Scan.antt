-- Runs are never stored: one pass along the outgoing edges, with the run that is open, tells both what `every_run` and what
-- `some_run` do (proofs/Scanned.antt).
use Rattle.std.specs.Prelude.{Bool, true, cond, ◌&&◌, ◌||◌}
use Rattle.std.proofs.Math.Bool.{false, not}
use mathlib.Core.List.{List, [], ◌∷◌}
use Prim.Native.Nat.{ℕ}
use Rattle.std.proofs.Math.Dec.{eqb}
use Rattle.basis.specs.Lists.{all}
use Rattle.store.specs.declared.Edge.{Edge}
use Rattle.store.specs.Words.{requirement_code}
use Rattle.labels.specs.declared.passes.Scan.{Scan}
use Rattle.labels.specs.declared.passes.Verdict.{Verdict}

-- ---- what the code does

-- no run is open: 0 is no run's key
abbrev pub scan_start : Scan
scan_start = record { key = 0; lost = false; bare = false; hit = false; all = false }

-- an edge with key k (1 + its requirement) to a target that is installable, missing: it joins the open run, or closes it and opens one
unfoldable pub step_of : Scan → ℕ → Bool → Bool → Scan
step_of o k i m =
    cond (eqb o.key k)
    (record { key = k; lost = o.lost; bare = o.bare && not i; hit = o.hit; all = o.all && m })
    (record { key = k; lost = o.lost || o.bare; bare = not i; hit = o.hit || o.all; all = m })

abbrev pub scan_end : Scan → Verdict
scan_end o = record { every = not (o.lost || o.bare); some = o.hit || o.all }

abbrev pub refused : Verdict
refused = record { every = false; some = false }

-- from a scan and the edges that are left; a conflict ends it
unfoldable pub verdict : (ℕ → Bool) → (ℕ → Bool) → Scan → List Edge → Verdict
unfolding step_of
verdict p q o [] = scan_end o
verdict p q o (e ∷ es) =
    elim (eqb (requirement_code e.weight) 0) [
      | true ↦ refused
      | false ↦ verdict p q (step_of o (requirement_code e.weight) (p e.target) (q e.target)) es
    ]
