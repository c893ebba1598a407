-- Salvage of a record file (document 02, order 7): what becomes of each record, and the repaired file.
use Rattle.std.specs.Prelude.{Bool, true, false, cond, ◌&&◌, not, List, [], ◌∷◌, ℕ, zero, suc, ◌/◌, ◌%◌, length, replicate, leb, ltb, eqb}
use Rattle.std.proofs.Math.Option.{none, some}
use Rattle.records.specs.declared.Table.{Table}
use Rattle.records.specs.declared.Table.TheVariants.{Names, Solvables, VersionSets, Requirements, Candidates, Reasons, Variables, Assigned, Clauses}
use Rattle.records.specs.declared.Shape.{Shape}
use Rattle.records.specs.Shapes.{Rec, rec_of, shape_of, limit}
use Rattle.records.specs.Tables.{Tables, no_tables, put}
use Rattle.records.specs.Read.{refusal_in}
use Rattle.reader.specs.Pieces.{pieces, joined}

-- ---- one record

-- what becomes of a record: it stays, in its table; a blank clause stands for it ("replace each clause record"); or a refusal "stops the repair"
pub data Verdict : Type 0 where
  Stays : Table → Verdict
  Replaced : Verdict
  Stops : ℕ → Verdict

-- "each Learnt in the core"
abbrev pub core_learnt : Rec → Bool
core_learnt r = eqb r.kind 18 && eqb r.first 1

-- "replace each clause record": the table of clauses
abbrev pub is_clauses : Table → Bool
is_clauses Names = false
is_clauses Solvables = false
is_clauses VersionSets = false
is_clauses Requirements = false
is_clauses Candidates = false
is_clauses Reasons = false
is_clauses Variables = false
is_clauses Assigned = false
is_clauses Clauses = true

-- "replace each clause record that would get 3, 4 or 5, and each Learnt in the core"; "A clause past 1,024 is 6 even where 3 would come first"
abbrev pub on_clause : Tables → Shape → Rec → Verdict
on_clause T s r =
    cond (ltb (length T.clauses) (limit Clauses))
    (cond (eqb (refusal_in T s r) 0 && not (core_learnt r)) (Stays Clauses) Replaced)
    (Stops 6)

-- "Anything else refused in the file stops the repair with that refusal": a record of table t, by its first refusal or 0
abbrev pub on_other : ℕ → Table → Verdict
on_other zero t = Stays t
on_other (suc n) t = Stops (suc n)

-- a record of a known kind, by `on_clause` or by `on_other`
abbrev pub on_known : Tables → Shape → Rec → Verdict
on_known T s r = cond (is_clauses s.table) (on_clause T s r) (on_other (refusal_in T s r) s.table)

-- "Each record is judged by the tables that the repaired records before it fill"; "In a record: 2 first"
unfoldable pub verdict_of : Tables → Rec → Verdict
unfolding shape_of
verdict_of T r = elim (shape_of r.kind) [ none ↦ Stops 2 | some s ↦ on_known T s r ]

-- ---- all records

-- "kind 16 with flag 0 and all else zero"
abbrev pub blank : List ℕ
blank = 16 ∷ replicate 31 0

-- what `mend_from` gives: the repaired records and the numbers of those that were replaced, or a refusal with its place
pub data Mended : Type 0 where
  mended : List (List ℕ) → List ℕ → Mended
  halted : ℕ → ℕ → Mended

-- "no byte outside the listed records differs": the record stands as it came
abbrev pub with_kept : List ℕ → Mended → Mended
with_kept x (mended ys ls) = mended (x ∷ ys) ls
with_kept x (halted n i) = halted n i

-- "so clause numbers hold": a blank clause stands where the bad one stood
abbrev pub with_blank : ℕ → Mended → Mended
with_blank i (mended ys ls) = mended (blank ∷ ys) (i ∷ ls)
with_blank i (halted n j) = halted n j

-- the records from number i on, over the tables of the repaired ones before: "a replaced clause counts as a clause"
unfoldable pub mend_from : List (List ℕ) → ℕ → Tables → Mended
unfolding verdict_of
mend_from [] i T = mended [] []
mend_from (x ∷ xs) i T =
    elim (verdict_of T (rec_of x)) [
      | Stays t ↦ with_kept x (mend_from xs (suc i) (put t (rec_of x) T))
      | Replaced ↦ with_blank i (mend_from xs (suc i) (put Clauses (rec_of blank) T))
      | Stops n ↦ halted n i
    ]

-- ---- the file

-- the repaired file, "the replaced record numbers in order and the bytes dropped"; or a refusal with its place
pub data Salvage : Type 0 where
  repaired : List ℕ → List ℕ → ℕ → Salvage
  refused : ℕ → ℕ → Salvage

-- what `salvage_of` gives once the records are mended, d bytes being dropped
abbrev pub mended_file : ℕ → Mended → Salvage
mended_file d (mended ys ls) = repaired (joined ys) ls d
mended_file d (halted n i) = refused n i

-- "1 only for above 65,536; then the record refusals"; the pieces are whole records: "drop the bytes after the last whole record"
unfoldable pub salvage_of : List ℕ → Salvage
unfolding pieces mend_from
salvage_of file =
    cond (leb (length file) 65536)
    (mended_file (length file % 32) (mend_from (pieces (length file / 32) file) 0 no_tables))
    (refused 1 0)
