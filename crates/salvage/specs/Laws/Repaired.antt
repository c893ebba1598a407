-- The promises of salvage (document 02, order 7): "A repaired file never gets 1 to 7, a sound file comes back unchanged, and no byte
-- outside the listed places differs."
use Rattle.std.specs.Prelude.{◌≡◌, Bool, true, false, cond, List, [], map, ℕ, ◌+◌, ◌*◌, ◌/◌, ◌%◌, ◌≤◌, ◌<◌, get_or, take, drop, leb}
use Rattle.std.proofs.Math.Path.{refl}
use Rattle.std.proofs.Common.{sym, ap, ◌∙◌, subst, get_or-take, get_or-drop}
use native.Mathlib.Omega.{arith}
use Rattle.std.proofs.Math.ListN.{length}
use borrow.Author.Tests.{leb-true, le-leb, eq-eqb}
use Rattle.basis.specs.Members.{clash, In, All, all_in, in_filter}
use Rattle.records.specs.declared.Table.TheVariants.{Clauses}
use Rattle.records.specs.Shapes.{Rec, rec_of, records_of}
use Rattle.records.specs.Tables.{Tables, no_tables}
use Rattle.records.specs.Read.{good, read_of}
use Rattle.index.specs.Steps.{read_accepted, table_is, is_in}
use Rattle.reader.specs.Pieces.{pieces, joined}
use Rattle.reader.specs.Laws.Pieces.{PiecesWhole, length_pieces, pieces_whole, cut_pieces, pieces_at}
use Rattle.reader.specs.Laws.Pieces.{length_joined, pieces_joined, joined_file, records_joined}
use Rattle.salvage.specs.Salvage.{blank, core_learnt, Mended, mended, halted, mend_from}
use Rattle.salvage.specs.Salvage.{repaired, refused, mended_file, salvage_of}
use Rattle.salvage.specs.Laws.Mending.{Mends, mends, mends_read, mends_unlearnt, mends_whole, mends_length, Rising, mends_rising}
use Rattle.salvage.specs.Laws.Mending.{mends_same, mends_blank, mends_clauses, sound_stays, halts}

-- how a repaired file came about
record Repair (file out ls : List ℕ) (d : ℕ) : Type 0 where
  pub short : length file ≤ 65536
  pub rows : List (List ℕ)
  pub way : Mends no_tables 0 (pieces (length file / 32) file) rows ls
  pub bytes : out ≡ joined rows
  pub cut_off : d ≡ length file % 32

of_repaired : (d n : ℕ) (ys : List (List ℕ)) (ks out ls : List ℕ) → repaired (joined ys) ks n ≡ repaired out ls d → (out ≡ joined ys) × (ks ≡ ls) × (d ≡ n)
of_repaired d n ys ks out ls h = (cc, cc, cc)

module _ (file out ls : List ℕ) (d : ℕ) where
  repair_by : (b : Bool) → leb (length file) 65536 ≡ b → (m : Mended) → mend_from (pieces (length file / 32) file) 0 no_tables ≡ m
      → cond b (mended_file (length file % 32) m) (refused 1 0) ≡ repaired out ls d → Repair file out ls d
  repair_by true p (mended ys ks) q h =
      let f = of_repaired d (length file % 32) ys ks out ls h in
      record {
        short = leb-true _ _ p;
        rows = ys;
        way = rw f.1 at (mends (pieces (length file / 32) file) 0 no_tables ys ks q);
        bytes = f.0;
        cut_off = f.2;
      }
  repair_by true p (halted n i) q h = clash (cc)
  repair_by false p m q h = clash (cc)

  repair : salvage_of file ≡ repaired out ls d → Repair file out ls d
  unfolding salvage_of
  repair e = repair_by (leb (length file) 65536) refl (mend_from (pieces (length file / 32) file) 0 no_tables) refl e

-- a refusal has a number
pub refused_numbered : (file : List ℕ) (n p : ℕ) → salvage_of file ≡ refused n p → 1 ≤ n
unfolding salvage_of
refused_numbered file n p e = by_length (leb (length file) 65536) e
  where
    by_mended : (m : Mended) → mend_from (pieces (length file / 32) file) 0 no_tables ≡ m → mended_file (length file % 32) m ≡ refused n p → 1 ≤ n
    by_mended (mended ys ks) q h = clash (cc)
    by_mended (halted k i) q h =
        let z : k ≡ n = cc in
        let y = halts (pieces (length file / 32) file) 0 no_tables k i q in
        omega arith

    by_length : (b : Bool) → cond b (mended_file (length file % 32) (mend_from (pieces (length file / 32) file) 0 no_tables)) (refused 1 0) ≡ refused n p → 1 ≤ n
    by_length true h = by_mended (mend_from (pieces (length file / 32) file) 0 no_tables) refl h
    by_length false h = let z : 1 ≡ n = cc in omega arith

-- what a sound file is: it gets none of 1 to 6, and no Learnt in the core, so not 7
pub record Sound (file : List ℕ) : Type 0 where
  pub tables : Tables
  pub reads : read_of file ≡ good tables
  pub unlearnt : All (λ r. core_learnt r ≡ false) (records_of file)

module _ (file out ls : List ℕ) (d : ℕ) (e : salvage_of file ≡ repaired out ls d) where
  way : Repair file out ls d
  way = repair file out ls d e

  whole : PiecesWhole way.rows
  whole = mends_whole way.way (pieces_whole (length file / 32) file (omega arith))

  rows_count : length way.rows ≡ length file / 32
  rows_count = mends_length way.way ∙ length_pieces (length file / 32) file

  -- "drop the bytes after the last whole record"
  pub repaired_length : length out ≡ 32 * (length file / 32)
  repaired_length = ap length way.bytes ∙ (length_joined way.rows whole ∙ ap (λ (n : ℕ). 32 * n) rows_count)

  pub repaired_dropped : length out + d ≡ length file
  repaired_dropped = let a = repaired_length in let b : d ≡ length file % 32 = way.cut_off in omega arith

  rows_are : records_of out ≡ map rec_of way.rows
  rows_are = ap records_of way.bytes ∙ records_joined way.rows whole

  -- "A repaired file never gets 1 to 7"
  pub repaired_sound : Sound out
  unfolding read_of
  repaired_sound =
      let a = repaired_length in
      let s : length file ≤ 65536 = way.short in
      let z : length out % 32 ≡ 0 = omega arith in
      let l : length out ≤ 65536 = omega arith in
      let r = mends_read way.way in
      record {
        tables = r.0;
        reads = rw (eq-eqb (length out % 32) 0 z, le-leb (length out) 65536 l, rows_are) r.1;
        unlearnt = rw rows_are (mends_unlearnt way.way);
      }

  -- "lists the replaced record numbers in order"
  pub repaired_rising : Rising 0 (length out / 32) ls
  repaired_rising =
      let a = repaired_length in
      let b : length (pieces (length file / 32) file) ≡ length file / 32 = length_pieces (length file / 32) file in
      mends_rising way.way (length out / 32) (omega arith)

  -- "so clause numbers hold": a clause stands where one stood, and nowhere else
  pub repaired_clauses : map (is_in Clauses) (records_of out) ≡ map (is_in Clauses) (records_of file)
  repaired_clauses = rw (rows_are, cut_pieces (length file / 32) file) (mends_clauses way.way)

  row_at : (i : ℕ) → i < length out / 32 → take 32 (drop (32 * i) out) ≡ get_or way.rows i []
  row_at i h =
      let a = repaired_length in
      let p = pieces_at (length way.rows) (joined way.rows) i (let c = rows_count in omega arith) in
      ap (λ (l : List ℕ). take 32 (drop (32 * i) l)) way.bytes ∙ (sym p ∙ ap (λ (l : List (List ℕ)). get_or l i []) (pieces_joined way.rows whole))

  -- a record that is not listed is as it was
  pub repaired_same : (i : ℕ) → i < length out / 32 → (In i ls → ⊥) → take 32 (drop (32 * i) out) ≡ take 32 (drop (32 * i) file)
  repaired_same i h l =
      let a = repaired_length in
      row_at i h ∙ (mends_same way.way i i (omega arith) l ∙ pieces_at (length file / 32) file i (omega arith))

  -- one that is listed is "kind 16 with flag 0 and all else zero"
  pub repaired_blank : (i : ℕ) → i < length out / 32 → In i ls → take 32 (drop (32 * i) out) ≡ blank
  repaired_blank i h l = row_at i h ∙ mends_blank way.way i i (omega arith) l

  -- "no byte outside the listed places differs"
  pub repaired_bytes : (k : ℕ) → k < length out → (In (k / 32) ls → ⊥) → get_or out k 0 ≡ get_or file k 0
  repaired_bytes k h l =
      let a = repaired_length in
      let m : 32 * (k / 32) + k % 32 ≡ k = omega arith in
      let q : take 32 (drop (32 * (k / 32)) out) ≡ take 32 (drop (32 * (k / 32)) file) = repaired_same (k / 32) (omega arith) l in
      let c : k % 32 < 32 = omega arith in
      byte out c m ∙ (ap (λ (s : List ℕ). get_or s (k % 32) 0) q ∙ sym (byte file c m))
    where
      byte : (s : List ℕ) → k % 32 < 32 → 32 * (k / 32) + k % 32 ≡ k → get_or s k 0 ≡ get_or (take 32 (drop (32 * (k / 32)) s)) (k % 32) 0
      byte s c m = sym (get_or-take 32 (drop (32 * (k / 32)) s) (k % 32) 0 c ∙ (get_or-drop (32 * (k / 32)) s (k % 32) 0 ∙ ap (λ (n : ℕ). get_or s n 0) m))

-- "a sound file comes back unchanged"
pub sound_unchanged : (file : List ℕ) → Sound file → salvage_of file ≡ repaired file [] 0
unfolding salvage_of
sound_unchanged file s =
    let a = read_accepted file s.tables s.reads in
    let c = cut_pieces (length file / 32) file in
    let m = sound_stays (pieces (length file / 32) file) 0 no_tables s.tables (rw c at a.steps) (rw c at s.unlearnt) in
    rw (le-leb (length file) 65536 a.short, m, a.whole, joined_file file a.whole)

-- the tables of a sound file hold no Learnt in the core
pub sound_clauses : (file : List ℕ) (s : Sound file) (r : Rec) → In r s.tables.clauses → core_learnt r ≡ false
sound_clauses file s r i =
    let a = read_accepted file s.tables s.reads in
    all_in (λ x. core_learnt x ≡ false) (records_of file) r s.unlearnt
    (in_filter (is_in Clauses) r (records_of file) (subst (λ (l : List Rec). In r l) (table_is Clauses file s.tables a) i)).1
