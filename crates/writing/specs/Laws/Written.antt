-- "Reading what was written gives the same tables": those that the rows fill.
use Rattle.std.specs.Prelude.{◌≡◌, Bool, true, false, cond, List, map, ℕ, ◌*◌, ◌/◌, ◌%◌, ◌≤◌, leb, eqb}
use Rattle.std.proofs.Math.Path.{refl, ap}
use Rattle.std.proofs.Common.{◌∙◌}
use native.Mathlib.Omega.{arith}
use Rattle.std.proofs.Math.ListN.{length}
use borrow.Author.Tests.{leb-true, le-leb, eq-eqb, eqb-true}
use Rattle.basis.specs.Members.{clash}
use Rattle.records.specs.Shapes.{rec_of}
use Rattle.records.specs.Tables.{Tables, no_tables}
use Rattle.records.specs.Read.{Reading, good, bad, read_from, read_of}
use Rattle.index.specs.Steps.{read_steps}
use Rattle.reader.specs.Pieces.{joined}
use Rattle.reader.specs.Laws.Pieces.{pieces_whole, length_joined, records_joined}
use Rattle.writing.specs.Arranged.{rows_of, arranged, filled}
use Rattle.writing.specs.Write.{written, refused, judged_file, write_of}
use Rattle.writing.specs.Laws.Segments.{arranged_whole, arranged_fills}

-- how a written file came about
pub record Way (rows out : List ℕ) : Type 0 where
  pub even : length rows % 32 ≡ 0
  pub tables : Tables
  pub reads : read_from (map rec_of (arranged (rows_of rows))) 0 no_tables ≡ good tables
  pub short : 32 * length (arranged (rows_of rows)) ≤ 65536
  pub bytes : out ≡ joined (arranged (rows_of rows))

of_written : (xs out : List ℕ) → written xs ≡ written out → out ≡ xs
of_written xs out e = cc

module _ (rows out : List ℕ) where
  by_length : (ys : List (List ℕ)) (b : Bool) → leb (32 * length ys) 65536 ≡ b → cond b (written (joined ys)) (refused 1 0) ≡ written out
      → (32 * length ys ≤ 65536) × (out ≡ joined ys)
  by_length ys true q e = (leb-true _ _ q, of_written (joined ys) out e)
  by_length ys false q e = clash (cc)

  by_reading : length rows % 32 ≡ 0 → (x : Reading) → read_from (map rec_of (arranged (rows_of rows))) 0 no_tables ≡ x
      → judged_file x (arranged (rows_of rows)) ≡ written out → Way rows out
  by_reading m (good T) q e =
      let p = by_length (arranged (rows_of rows)) (leb (32 * length (arranged (rows_of rows))) 65536) refl e in
      record { even = m; tables = T; reads = q; short = p.0; bytes = p.1 }
  by_reading m (bad n i) q e = clash (cc)

  by_rest : (b : Bool) → eqb (length rows % 32) 0 ≡ b
      → cond b (judged_file (read_from (map rec_of (arranged (rows_of rows))) 0 no_tables) (arranged (rows_of rows))) (refused 1 0) ≡ written out → Way rows out
  by_rest true q e = by_reading (eqb-true _ _ q) (read_from (map rec_of (arranged (rows_of rows))) 0 no_tables) refl e
  by_rest false q e = clash (cc)

  pub way : write_of rows ≡ written out → Way rows out
  unfolding write_of
  way e = by_rest (eqb (length rows % 32) 0) refl e

  pub written_reads : write_of rows ≡ written out → read_of out ≡ good (filled (rows_of rows))
  unfolding read_of
  written_reads e =
      let w = way e in
      let a = arranged_whole (rows_of rows) (pieces_whole (length rows / 32) rows (omega arith)) in
      let s = length_joined (arranged (rows_of rows)) a in
      let h : 32 * length (arranged (rows_of rows)) ≤ 65536 = w.short in
      let z : length (joined (arranged (rows_of rows))) % 32 ≡ 0 = omega arith in
      let l : length (joined (arranged (rows_of rows))) ≤ 65536 = omega arith in
      let f = arranged_fills (rows_of rows) w.tables (read_steps (map rec_of (arranged (rows_of rows))) 0 no_tables w.tables w.reads) in
      rw (
        w.bytes,
        eq-eqb (length (joined (arranged (rows_of rows))) % 32) 0 z,
        le-leb (length (joined (arranged (rows_of rows)))) 65536 l,
        records_joined (arranged (rows_of rows)) a,
      )
      (w.reads ∙ ap (λ (U : Tables). good U) f)
