-- A record's text is short: "Text is 1 to 24 bytes", and past a table's end there is none.
use Rattle.std.specs.Prelude.{◌≡◌, List, ℕ, ◌≤◌, length, ltb}
use Rattle.std.proofs.Common.{arith, length-take, ltb-true, ltb-false}
use Rattle.std.proofs.Math.ListN.{get_or-eq_default}
use Rattle.basis.specs.Members.{split}
use Rattle.records.specs.declared.Table.{Table}
use Rattle.records.specs.declared.Table.TheVariants.{Names, Solvables, VersionSets, Requirements, Reasons}
use Rattle.records.specs.declared.First.{First}
use Rattle.records.specs.declared.First.TheVariants as F
use Rattle.records.specs.Shapes.{Rec}
use Rattle.records.specs.Tables.{Tables, table_of, at, no_rec}
use Rattle.records.specs.Read.{rec_text, tables_of}
use Rattle.records.specs.Views.{name_text, version_text, set_text, requirement_text, reason_text}
use Rattle.index.specs.Index.{Loaded}
use Rattle.index.specs.Promise.{Valid, RightFirst}
use Rattle.index.specs.Found.{loaded_valid}

short_first : (f : First) (r : Rec) → RightFirst f r → length (rec_text r) ≤ 24
short_first F.Length r h = h.1
short_first F.Flag r h = rw length-take (omega arith)
short_first F.Unused r h = rw length-take (omega arith)

short_at : (T : Tables) → Valid T → (t : Table) (i : ℕ) → length (rec_text (at (table_of t T) i)) ≤ 24
short_at T v t i =
    split (ltb i (length (table_of t T)))
    (λ q. let s = v.sound t i (ltb-true i (length (table_of t T)) q) in short_first s.shape.first (at (table_of t T) i) s.right_first)
    (λ q. rw (get_or-eq_default (table_of t T) no_rec (ltb-false i (length (table_of t T)) q)) (omega arith))

-- l: the text that was handed out
module _ (file ix l : List ℕ) (n : ℕ) (L : Loaded file ix) where
  short : (t : Table) → l ≡ rec_text (at (table_of t (tables_of file)) n) → length l ≤ 24
  short t q = rw q (short_at (tables_of file) (loaded_valid file ix L) t n)

  pub name_short : l ≡ name_text (tables_of file) n → length l ≤ 24
  name_short q = short Names q

  pub version_short : l ≡ version_text (tables_of file) n → length l ≤ 24
  version_short q = short Solvables q

  pub set_short : l ≡ set_text (tables_of file) n → length l ≤ 24
  set_short q = short VersionSets q

  pub requirement_short : l ≡ requirement_text (tables_of file) n → length l ≤ 24
  requirement_short q = short Requirements q

  pub reason_short : l ≡ reason_text (tables_of file) n → length l ≤ 24
  reason_short q = short Reasons q
