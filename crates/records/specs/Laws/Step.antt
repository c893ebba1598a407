-- The step of one record over the tables before it. The code has their counts and one mark a variable; what it answers from these is
-- what the tables say, and what it leaves are the counts and marks of the tables with the record in them.
use Rattle.std.specs.Prelude.{◌≡◌, Result, Ok, Err, List, ℕ, zero, suc, replicate}
use Rattle.std.proofs.Math.Path.{refl}
use Rattle.std.proofs.Common.{sym, ap, ◌∙◌}
use Rattle.std.proofs.Math.Option.{Option, none, some}
use Rattle.basis.specs.Members.{clash}
use Rattle.records.specs.declared.Table.{Table}
use Rattle.records.specs.declared.Shape.{Shape}
use Rattle.records.specs.declared.Refusal.{Refusal}
use Rattle.records.specs.declared.Refusal.TheVariants.{UnknownKind}
use Rattle.records.specs.Shapes.{Rec, shape_of}
use Rattle.records.specs.Tables.{Tables, no_tables, put, counts_of}
use Rattle.records.specs.Read.{refusal_in}
use Rattle.records.specs.Steps.{Passed, passed}
use Rattle.records.specs.Pass.{check_pass, noted, more_of, no_counts}
use Rattle.records.specs.Agree.{Marked, step_of, check_none, check_some, next_marked, more_is_good, none_marked}

-- 2 for an unknown kind, else 3, 6, 4 or 5 as the tables say, or the table that the record goes into
abbrev pub step_by : Tables → Rec → Option Shape → Result Table Refusal
step_by T r none = Err UnknownKind
step_by T r (some s) = step_of (refusal_in T s r) s.table

unfoldable pub step_in : Tables → Rec → Result Table Refusal
step_in T r = step_by T r (shape_of r.kind)

-- the marks m are those of T; r is the record
pub record Stepped (T : Tables) (m : List ℕ) (r : Rec) : Type 0 where
  pub answer : check_pass (counts_of T) m r ≡ step_in T r
  pub marks : (t : Table) → step_in T r ≡ Ok t → Marked (put t r T) (noted t r m)
  pub counts : (t : Table) → step_in T r ≡ Ok t → more_of t (counts_of T) ≡ counts_of (put t r T)

same_table : (t u : Table) → ◌≡◌ {A = Result Table Refusal} (Ok t) (Ok u) → t ≡ u
same_table t u e = cc

-- a step that goes on: the record fits, into its own table
by_number : {X : Type 0} (n : ℕ) (t u : Table) → step_of n t ≡ Ok u → (n ≡ 0 → t ≡ u → X) → X
by_number zero t u e f = f refl (same_table t u e)
by_number (suc n) t u e f = clash cc

module _ (T : Tables) (m : List ℕ) (h : Marked T m) (r : Rec) where
  by_step : {X : Type 0} (o : Option Shape) → shape_of r.kind ≡ o → (t : Table) → step_by T r o ≡ Ok t
      → ((s : Shape) → Passed T r s → s.table ≡ t → X) → X
  by_step none e t q f = clash cc
  by_step (some s) e t q f = by_number (refusal_in T s r) s.table t q (λ z y. f s (passed T r s e z) y)

  answered : (o : Option Shape) → shape_of r.kind ≡ o → check_pass (counts_of T) m r ≡ step_by T r o
  answered none e = check_none T m h r e
  answered (some s) e = check_some T m h r s e

  pub stepped : Stepped T m r
  unfolding step_in
  stepped = record { answer = answered (shape_of r.kind) refl; marks = marks; counts = counts }
    where
      marks : (t : Table) → step_by T r (shape_of r.kind) ≡ Ok t → Marked (put t r T) (noted t r m)
      marks t q = by_step (shape_of r.kind) refl t q (λ s p y. rw (← y) (next_marked T m h r s p))

      counts : (t : Table) → step_by T r (shape_of r.kind) ≡ Ok t → more_of t (counts_of T) ≡ counts_of (put t r T)
      counts t q = by_step (shape_of r.kind) refl t q (λ s p y. rw (← y) (more_is_good s.table T r p.room))

-- before the first record
pub step_start : Marked no_tables (replicate 1024 0) × (no_counts ≡ counts_of no_tables)
step_start = (none_marked, refl)
