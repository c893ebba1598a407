-- What order 1 promises, over the contract of the call: `write_answer` and `write_room`.
use Rattle.std.proofs.Math.Path.{◌≡◌, refl}
use Rattle.std.proofs.Common.{sym, ap, ◌∙◌, take_at, drop_at}
use Rattle.std.specs.Prelude.{Bool, cond, ℕ, ◌*◌, ◌/◌, ◌%◌, ◌≤◌, ◌<◌, get_or, take, drop, eqb}
use Rattle.std.proofs.Math.Bool.{true, false}
use mathlib.Core.List.{List, [], ◌∷◌, ◌++◌, map}
use native.Mathlib.Omega.{arith}
use Rattle.std.proofs.Math.ListN.{length}
use Rattle.std.proofs.Math.Dec.{leb}
use borrow.Author.Tests.{eq-eqb, ne_eqb, le-leb, lt-leb, leb-true}
use Rattle.basis.specs.Lists.{concat_map, upto}
use Rattle.basis.specs.Members.{clash, split}
use Rattle.records.specs.Shapes.{rec_of}
use Rattle.records.specs.Tables.{Tables, no_tables}
use Rattle.records.specs.Read.{Reading, good, bad, read_from, read_of}
use Rattle.records.specs.Views.{assigned_by}
use Rattle.index.specs.Steps.{read_accepted}
use Rattle.index.specs.Promise.{promise}
use Rattle.reader.specs.Pieces.{joined}
use Rattle.reader.specs.Laws.Pieces.{pieces_whole, cut_pieces, length_joined, records_joined}
use Rattle.writing.specs.Arranged.{rows_of, ranked, segment, arranged, filled}
use Rattle.writing.specs.Write.{File, written, refused, judged_file, write_of, refusal_of, done_of, answer_for, room_for, write_answer, write_room}
use Rattle.writing.specs.Laws.Segments.{arranged_whole}
use Rattle.writing.specs.Laws.Written.{way, written_reads}
use Rattle.writing.specs.Laws.Ordered.{InOrder, ordered_comes_back}
use Rattle.writing.specs.Laws.Read.{read_numbered}
use Rattle.writing.specs.Laws.Accepted.{TablesAlike, accepted_again, assigned_same}

-- ---- where the call is done

-- the file that stands in the room
abbrev pub out_in : List ℕ → List ℕ → List ℕ
out_in rows room = take (write_answer rows (length room)).bytes (write_room rows room)

module _ (rows out : List ℕ) (e : write_of rows ≡ written out) where
  written_is : out ≡ joined (arranged (rows_of rows))
  written_is = (way rows out e).bytes

module _ (rows out room : List ℕ) (e : write_of rows ≡ written out) (h : length out ≤ length room) where
  fits_answer : write_answer rows (length room) ≡ done_of (length out)
  unfolding write_answer
  fits_answer = rw (e, le-leb (length out) (length room) h)

  fits_room : write_room rows room ≡ out ++ drop (length out) room
  unfolding write_room
  fits_room = rw (e, le-leb (length out) (length room) h)

  fits_out : out_in rows room ≡ out
  fits_out = rw (fits_answer, fits_room) (take_at out (drop (length out) room) (length out) refl)

record Done (rows room : List ℕ) : Type 0 where
  pub out : List ℕ
  pub is : write_of rows ≡ written out
  pub enough : length out ≤ length room

-- a refusal has a number
refused_numbered : (rows : List ℕ) (n p : ℕ) → write_of rows ≡ refused n p → 1 ≤ n
unfolding write_of
refused_numbered rows n p e = by_length (eqb (length rows % 32) 0) e
  where
    ys : List (List ℕ)
    ys = arranged (rows_of rows)

    same : {k j : ℕ} → refused k j ≡ refused n p → k ≡ n
    same z = cc

    no_file_lem : {l : List ℕ} → written l ≡ refused n p → ◌≡◌ {A = ℕ} 0 1
    no_file_lem z = cc

    by_size : (b : Bool) → cond b (written (joined (arranged (rows_of rows)))) (refused 1 0) ≡ refused n p → 1 ≤ n
    by_size true q = clash (no_file_lem q)
    by_size false q = let z : 1 ≡ n = same q in omega arith

    by_reading : (R : Reading) → read_from (map rec_of (arranged (rows_of rows))) 0 no_tables ≡ R → judged_file R (arranged (rows_of rows)) ≡ refused n p → 1 ≤ n
    by_reading (good T) x q = by_size (leb (32 * length (arranged (rows_of rows))) 65536) q
    by_reading (bad k i) x q = let z : k ≡ n = same q in let y : 1 ≤ k = read_numbered (map rec_of (arranged (rows_of rows))) 0 no_tables k i x in omega arith

    by_length : (b : Bool) → cond b (judged_file (read_from (map rec_of (arranged (rows_of rows))) 0 no_tables) (arranged (rows_of rows))) (refused 1 0) ≡ refused n p
        → 1 ≤ n
    by_length true q = by_reading (read_from (map rec_of (arranged (rows_of rows))) 0 no_tables) refl q
    by_length false q = let z : 1 ≡ n = same q in omega arith

module _ (rows room : List ℕ) (zero_is : (write_answer rows (length room)).number ≡ 0) where
  done : Done rows room
  unfolding write_answer
  done = go (write_of rows) refl zero_is
    where
      by_room : (out : List ℕ) → write_of rows ≡ written out → (b : Bool) → leb (length out) (length room) ≡ b
          → (cond b (done_of (length out)) (refusal_of 10 0)).number ≡ 0 → Done rows room
      by_room out e true q z = record { out = out; is = e; enough = leb-true _ _ q }
      by_room out e false q z = let y : ◌≡◌ {A = ℕ} 10 0 = z in absurd (let f : ⊥ = omega arith in f)

      go : (F : File) → write_of rows ≡ F → (answer_for F (length room)).number ≡ 0 → Done rows room
      go (written out) e z = by_room out e (leb (length out) (length room)) refl z
      go (refused n p) e z = let y : 1 ≤ n = refused_numbered rows n p e in let x : n ≡ 0 = z in absurd (let f : ⊥ = omega arith in f)

  abbrev out : List ℕ
  out = done.out

  out_is : out_in rows room ≡ out
  out_is = fits_out rows out room done.is done.enough

  -- the records of the rows, in the order of the file
  pub done_bytes : out_in rows room ≡ joined (arranged (rows_of rows))
  done_bytes = out_is ∙ written_is rows out done.is

  pub done_answer : write_answer rows (length room) ≡ done_of (length (out_in rows room))
  done_answer = fits_answer rows out room done.is done.enough ∙ ap (λ (l : List ℕ). done_of (length l)) (sym out_is)

  -- "Reading what was written gives the same tables": those that the rows fill
  pub done_reads : read_of (out_in rows room) ≡ good (filled (rows_of rows))
  done_reads = ap read_of out_is ∙ written_reads rows out done.is

  -- bytes of the room past those written stay
  pub rest_of_room : drop (length (out_in rows room)) (write_room rows room) ≡ drop (length (out_in rows room)) room
  rest_of_room = rw (out_is, fits_room rows out room done.is done.enough) (drop_at out (drop (length out) room) (length out) refl)

-- ---- refusals

-- "nothing written"
pub refused_room : (rows room : List ℕ) → ((write_answer rows (length room)).number ≡ 0 → ⊥) → write_room rows room ≡ room
unfolding write_answer write_room
refused_room rows room h = go (write_of rows) h
  where
    by_room : (out : List ℕ) (b : Bool) → ((cond b (done_of (length out)) (refusal_of 10 0)).number ≡ 0 → ⊥) → cond b (out ++ drop (length out) room) room ≡ room
    by_room out true n = absurd (n refl)
    by_room out false n = refl

    go : (F : File) → ((answer_for F (length room)).number ≡ 0 → ⊥) → room_for F room ≡ room
    go (written out) n = by_room out (leb (length out) (length room)) n
    go (refused k i) n = refl

module _ (rows : List ℕ) (n : ℕ) where
  -- "A `rows_len` that is no multiple of 32 is 1, place 0, before all others"
  pub odd_refused : (length rows % 32 ≡ 0 → ⊥) → write_answer rows n ≡ refusal_of 1 0
  unfolding write_answer write_of
  odd_refused h = rw (ne_eqb (length rows % 32) 0 h)

  module _ (even : length rows % 32 ≡ 0) where
    -- "Tables whose file would get 3 to 6 get that refusal, its place in that file", and so with 2
    pub records_refused : (k p : ℕ) → read_from (map rec_of (arranged (rows_of rows))) 0 no_tables ≡ bad k p → write_answer rows n ≡ refusal_of k p
    unfolding write_answer write_of
    records_refused k p e = rw (eq-eqb (length rows % 32) 0 even, e)

    long_bytes : length (joined (arranged (rows_of rows))) ≡ 32 * length (arranged (rows_of rows))
    long_bytes = length_joined (arranged (rows_of rows)) (arranged_whole (rows_of rows) (pieces_whole (length rows / 32) rows (omega arith)))

    -- the same, by the file itself
    pub file_refused : (k p : ℕ) → read_of (joined (arranged (rows_of rows))) ≡ bad k p → 1 < k → write_answer rows n ≡ refusal_of k p
    unfolding read_of
    file_refused k p e h =
        let l = long_bytes in
        let z : length (joined (arranged (rows_of rows))) % 32 ≡ 0 = omega arith in
        let r = records_joined (arranged (rows_of rows)) (arranged_whole (rows_of rows) (pieces_whole (length rows / 32) rows (omega arith))) in
        split (leb (length (joined (arranged (rows_of rows)))) 65536)
        (λ q. records_refused k p (rw (eq-eqb _ 0 z, q, r) at e))
        (λ q. let y : 1 ≡ k = same k p (rw (eq-eqb _ 0 z, q) at e) in absurd (let f : ⊥ = omega arith in f))
      where
        same : (k p : ℕ) → bad 1 0 ≡ bad k p → 1 ≡ k
        same k p x = cc

    -- "1 when the file would pass 65,536 bytes, then 10 when it doesn't fit, both tested last, place 0"
    module _ (T : Tables) (e : read_from (map rec_of (arranged (rows_of rows))) 0 no_tables ≡ good T) where
      pub long_refused : 65536 < 32 * length (arranged (rows_of rows)) → write_answer rows n ≡ refusal_of 1 0
      unfolding write_answer write_of
      long_refused h = rw (eq-eqb (length rows % 32) 0 even, e, lt-leb (32 * length (arranged (rows_of rows))) 65536 h)

      pub short_refused : 32 * length (arranged (rows_of rows)) ≤ 65536 → n < 32 * length (arranged (rows_of rows)) → write_answer rows n ≡ refusal_of 10 0
      unfolding write_answer write_of
      short_refused h l =
          rw (
            eq-eqb (length rows % 32) 0 even,
            e,
            le-leb (32 * length (arranged (rows_of rows))) 65536 h,
            long_bytes,
            lt-leb (32 * length (arranged (rows_of rows))) n l,
          )

-- ---- accepted files, lent as rows

-- the same rows, "tables mixed but each in its own order (all clauses are one table)"
abbrev pub Mixed : List (List ℕ) → List (List ℕ) → Type 0
Mixed xs ys = (k : ℕ) → ranked k xs ≡ ranked k ys

mixed_segments : (xs ys : List (List ℕ)) → Mixed xs ys → (ks : List ℕ)
    → concat_map (λ k. segment k (ranked k xs)) ks ≡ concat_map (λ k. segment k (ranked k ys)) ks
mixed_segments xs ys m [] = refl
mixed_segments xs ys m (k ∷ ks) = rw (m k, mixed_segments xs ys m ks)

mixed_arranged : (xs ys : List (List ℕ)) → Mixed xs ys → arranged xs ≡ arranged ys
unfolding arranged
mixed_arranged xs ys m = mixed_segments xs ys m (upto 9 1)

mixed_filled : (xs ys : List (List ℕ)) → Mixed xs ys → filled xs ≡ filled ys
unfolding filled
mixed_filled xs ys m = rw (m 1, m 2, m 3, m 4, m 5, m 6, m 7, m 8, m 9)

module _ (file : List ℕ) (T : Tables) (byte : (k : ℕ) → get_or file k 0 < 256) (reads : read_of file ≡ good T) where
  module _ (rows : List ℕ) (even : length rows % 32 ≡ 0) (mixed : Mixed (rows_of rows) (rows_of file)) where
    mixed_write : write_of rows ≡ write_of file
    unfolding write_of
    mixed_write =
        let a = read_accepted file T reads in
        rw (eq-eqb (length rows % 32) 0 even, eq-eqb (length file % 32) 0 a.whole, mixed_arranged (rows_of rows) (rows_of file) mixed)

    module _ (room : List ℕ) (enough : length file ≤ length room) where
      again : (out : List ℕ) × (write_of file ≡ written out) × (length out ≡ length file) × (read_of out ≡ good (filled (rows_of file)))
          × TablesAlike T (filled (rows_of file))
      again = accepted_again file T byte reads

      is : write_of rows ≡ written again.0
      is = mixed_write ∙ again.1

      fits : length again.0 ≤ length room
      fits = let l : length again.0 ≡ length file = again.2 in omega arith

      -- it is done, with as many bytes
      pub again_answer : write_answer rows (length room) ≡ done_of (length file)
      again_answer = fits_answer rows again.0 room is fits ∙ ap done_of again.2

      -- what was written is accepted, with the tables that the rows fill
      pub again_reads : read_of (out_in rows room) ≡ good (filled (rows_of rows))
      again_reads = ap read_of (fits_out rows again.0 room is fits) ∙ written_reads rows again.0 is

    filled_same : filled (rows_of rows) ≡ filled (rows_of file)
    filled_same = mixed_filled (rows_of rows) (rows_of file) mixed

    -- and these are the file's: all tables but that of kind 8 as they were, that one with the same records
    pub again_alike : TablesAlike T (filled (rows_of rows))
    again_alike = rw filled_same (accepted_again file T byte reads).4

    -- and as a map by variable that one is the same too
    pub again_assigned : (v : ℕ) → assigned_by (filled (rows_of rows)) v ≡ assigned_by T v
    again_assigned v =
        let a = read_accepted file T reads in
        rw filled_same (assigned_same (rows_of file) T (rw (cut_pieces (length file / 32) file) at a.steps) (promise file T reads).once v)

  -- "a file already in that order comes back byte for byte"
  module _ (ordered : InOrder (rows_of file)) (room : List ℕ) (enough : length file ≤ length room) where
    pub ordered_answer : write_answer file (length room) ≡ done_of (length file)
    ordered_answer = fits_answer file file room (ordered_comes_back file T byte reads ordered) enough

    pub ordered_room : write_room file room ≡ file ++ drop (length file) room
    ordered_room = fits_room file file room (ordered_comes_back file T byte reads ordered) enough
