-- From the judgement and the writing to what the call answers and leaves.
use Rattle.std.specs.Prelude.{◌≡◌, Result, Ok, Err, List, [], ◌++◌, ℕ, ◌+◌, ◌*◌, ◌-◌, ◌/◌, ◌%◌, ◌≤◌, ◌<◌, drop, replicate}
use Rattle.std.proofs.Math.Path.{refl, ap}
use Rattle.std.proofs.Common.{sym, ◌∙◌, zero-add, le-leb}
use native.Mathlib.Omega.{arith}
use Rattle.std.proofs.Math.ListN.{length, take}
use Rattle.std.proofs.lemmas.List.{length-replicate}
use Rattle.std.proofs.Math.Seq.{paste}
use Rattle.std.proofs.lemmas.Bool.{lt-leb}
use Rattle.basis.specs.Members.{clash}
use Rattle.records.specs.declared.Counts.{Counts}
use Rattle.records.specs.Shapes.{records_of}
use Rattle.records.specs.Tables.{no_tables}
use Rattle.records.specs.Laws.Step.{step_start}
use Rattle.salvage.specs.declared.Salvaged.{Salvaged}
use Rattle.salvage.specs.declared.Work.{Work}
use Rattle.records.specs.declared.Refused.{Refused}
use Rattle.reader.specs.Pieces.{pieces, joined, Pasted}
use Rattle.reader.specs.Laws.Pieces.{length_pieces, pieces_whole, cut_pieces, length_joined, joined_pieces}
use Rattle.salvage.specs.Salvage.{Mended, mended, halted, mend_from, refused, mended_file, salvage_of}
use Rattle.salvage.specs.Lent.{refusal_of, done_of, salvage_answer, salvage_room, salvage_list}
use Rattle.salvage.specs.Pass.{Judgement, judge_from, no_work}
use Rattle.salvage.specs.Writing.{blanks, whole_of, SalvageLaid}
use Rattle.salvage.specs.Laws.Mending.{Mends, mends, mends_whole, mends_length}
use Rattle.salvage.specs.Laws.Agree.{Agrees, judge_is_mend}
use Rattle.salvage.specs.Laws.Paste.{blanks_mend}

-- ---- the writing

module _ (file found : List ℕ) (k : ℕ) (room list : List ℕ) (r : Salvaged) where
  pub laid_room : length room < whole_of file → r ≡ refusal_of 10 0 → SalvageLaid file found k room list r room list
  laid_room h e = let z = lt-leb (whole_of file) (length room) h in record { answer = rw z e; in_room = rw z; in_list = rw z }

  pub laid_list : whole_of file ≤ length room → length list < k → r ≡ refusal_of 10 0 → SalvageLaid file found k room list r room list
  laid_list g h e =
      let y = le-leb (whole_of file) (length room) g in
      let z = lt-leb k (length list) h in
      record { answer = rw (y, z) e; in_room = rw (y, z); in_list = rw (y, z) }

pub laid_done : (file found : List ℕ) (k : ℕ) (room list o room' list' : List ℕ) → whole_of file ≤ length room → k ≤ length list
    → Pasted room 0 file (whole_of file) o → room' ≡ blanks (take k found) o → Pasted list 0 found k list'
    → SalvageLaid file found k room list (done_of (whole_of file) k (length file - whole_of file)) room' list'
laid_done file found k room list o room' list' g h p q l =
    let y = le-leb (whole_of file) (length room) g in
    let z = le-leb k (length list) h in
    record { answer = rw (y, z); in_room = rw (y, z) (q ∙ ap (blanks (take k found)) p.is); in_list = rw (y, z) l.is }

-- ---- the whole call

room_is : (file found ks room : List ℕ) (k b : ℕ) (ys : List (List ℕ)) → Mends no_tables 0 (pieces (length file / 32) file) ys ks → b ≡ whole_of file
    → take k found ≡ ks → blanks (take k found) (paste room 0 file b) ≡ joined ys ++ drop b room
room_is file found ks room k b ys m e q =
    let w = pieces_whole (length file / 32) file (omega arith) in
    let z = blanks_mend m w [] (drop b room) (omega arith) in
    let j : joined (pieces (length file / 32) file) ≡ take b file = joined_pieces (length file / 32) file ∙ ap (λ (n : ℕ). take n file) (sym e) in
    rw (q, zero-add b) (ap (λ (l : List ℕ). blanks ks (l ++ drop b room)) (sym j) ∙ z)

list_is : (found ks list : List ℕ) (k : ℕ) → take k found ≡ ks → k ≡ length ks → paste list 0 found k ≡ ks ++ drop (length ks) list
list_is found ks list k q e = rw (q, zero-add k, e)

-- the three equations of the contract together
pub record Leaves (file room list : List ℕ) (r : Salvaged) (room' list' : List ℕ) : Type 0 where
  pub answer : r ≡ salvage_answer file (length room) (length list)
  pub in_room : room' ≡ salvage_room file room (length list)
  pub in_list : list' ≡ salvage_list file (length room) list

leaves_refused : (file room list : List ℕ) (r : Salvaged) (n p : ℕ) → salvage_of file ≡ refused n p → r ≡ refusal_of n p → Leaves file room list r room list
unfolding salvage_answer salvage_room salvage_list
leaves_refused file room list r n p e q = record { answer = rw e q; in_room = rw e; in_list = rw e }

abbrev pub judged : List ℕ → Judgement
judged file = judge_from (records_of file) 0 no_work (replicate 1024 0) (replicate 2048 0)

module _ (file : List ℕ) (h : length file ≤ 65536) where
  agreed : Agrees (mend_from (pieces (length file / 32) file) 0 no_tables) 0 (replicate 2048 0) (judged file)
  agreed =
      let l : length (pieces (length file / 32) file) ≡ length file / 32 = length_pieces (length file / 32) file in
      let n : length (replicate {A = ℕ} 2048 0) ≡ 2048 = length-replicate {A = ℕ} 2048 0 in
      rw (cut_pieces (length file / 32) file)
      (judge_is_mend (pieces (length file / 32) file) 0 no_tables (replicate 1024 0) (replicate 2048 0) 0 step_start.0 (omega arith))

  salvage_by : (M : Mended) → mend_from (pieces (length file / 32) file) 0 no_tables ≡ M → salvage_of file ≡ mended_file (length file % 32) M
  unfolding salvage_of
  salvage_by M e = rw (le-leb (length file) 65536 h, e)

  module _ (room list room' list' : List ℕ) (r : Salvaged) (t : Result Work Refused) (is : t ≡ (judged file).turn) where
    halt_by : (b : Refused) → t ≡ Err b → r ≡ refusal_of b.number b.place → (M : Mended) → mend_from (pieces (length file / 32) file) 0 no_tables ≡ M
        → Agrees M 0 (replicate 2048 0) (judged file) → Leaves file room list r room list
    halt_by b e q (mended ys ks) m a = clash (cc a.1)
    halt_by b e q (halted k i) m a =
        let z : record { number = k; place = i } ≡ b = cc in
        let x : k ≡ b.number = ap (λ (y : Refused). y.number) z in
        let y : i ≡ b.place = ap (λ (y : Refused). y.place) z in
        leaves_refused file room list r b.number b.place (rw (← x, ← y) (salvage_by (halted k i) m)) q

    leaves_halt : (b : Refused) → t ≡ Err b → r ≡ refusal_of b.number b.place → Leaves file room list r room list
    leaves_halt b e q = halt_by b e q (mend_from (pieces (length file / 32) file) 0 no_tables) refl agreed

    on_by : (w : Work) (found : List ℕ) → t ≡ Ok w → found ≡ (judged file).list → SalvageLaid file found w.replaced room list r room' list'
        → (M : Mended) → mend_from (pieces (length file / 32) file) 0 no_tables ≡ M → Agrees M 0 (replicate 2048 0) (judged file)
        → Leaves file room list r room' list'
    unfolding salvage_answer salvage_room salvage_list
    on_by w found e f laid (halted k i) m a = clash (cc)
    on_by w found e f laid (mended ys ks) m a =
        let g = mends (pieces (length file / 32) file) 0 no_tables ys ks m in
        let z : 0 + length ks ≡ w.replaced = same_count (sym a.1 ∙ (sym is ∙ e)) in
        let k : w.replaced ≡ length ks = omega arith in
        let q : take w.replaced found ≡ ks = rw (← z, f) a.2 in
        let o : length (joined ys) ≡ whole_of file =
        length_joined ys (mends_whole g (pieces_whole (length file / 32) file (omega arith)))
        ∙ ap (λ (n : ℕ). 32 * n) (mends_length g ∙ length_pieces (length file / 32) file) in
        let d : length file - whole_of file ≡ length file % 32 = omega arith in
        record {
          answer = rw (salvage_by (mended ys ks) m, o, ← k, ← d) laid.answer;
          in_room = rw (salvage_by (mended ys ks) m, o, ← room_is file found ks room w.replaced (whole_of file) ys g refl q, ← k) laid.in_room;
          in_list = rw (salvage_by (mended ys ks) m, o, ← list_is found ks list w.replaced q k, ← k) laid.in_list;
        }
      where
        same_count : {c : Counts} {n : ℕ} → ◌≡◌ {A = Result Work Refused} (Ok (record { counts = c; replaced = n })) (Ok w) → n ≡ w.replaced
        same_count y = cc

    leaves_on : (w : Work) (found : List ℕ) → t ≡ Ok w → found ≡ (judged file).list → SalvageLaid file found w.replaced room list r room' list'
        → Leaves file room list r room' list'
    leaves_on w found e f laid = on_by w found e f laid (mend_from (pieces (length file / 32) file) 0 no_tables) refl agreed

-- ---- the ways out of the code

too_long : (file : List ℕ) → 65536 < length file → salvage_of file ≡ refused 1 0
unfolding salvage_of
too_long file h = rw (lt-leb (length file) 65536 h)

module _ (file room list : List ℕ) (r : Salvaged) (h : 65536 < length file) (q : r ≡ refusal_of 1 0) where
  long : Leaves file room list r room list
  long = leaves_refused file room list r 1 0 (too_long file h) q

  pub long_answer : r ≡ salvage_answer file (length room) (length list)
  long_answer = long.answer

  pub long_room : room ≡ salvage_room file room (length list)
  long_room = long.in_room

  pub long_list : list ≡ salvage_list file (length room) list
  long_list = long.in_list

module _ (file room list : List ℕ) (r : Salvaged) (t : Result Work Refused) (b : Refused) (is : t ≡ (judged file).turn) (e : t ≡ Err b)
    (q : r ≡ refusal_of b.number b.place) (h : length file ≤ 65536) where
  halt : Leaves file room list r room list
  halt = leaves_halt file h room list room list r t is b e q

  pub halt_answer : r ≡ salvage_answer file (length room) (length list)
  halt_answer = halt.answer

  pub halt_room : room ≡ salvage_room file room (length list)
  halt_room = halt.in_room

  pub halt_list : list ≡ salvage_list file (length room) list
  halt_list = halt.in_list

module _ (file found : List ℕ) (w : Work) (room list room' list' : List ℕ) (r : Salvaged) (laid : SalvageLaid file found w.replaced room list r room' list')
    (t : Result Work Refused) (is : t ≡ (judged file).turn) (e : t ≡ Ok w) (f : found ≡ (judged file).list) (h : length file ≤ 65536) where
  goes_on : Leaves file room list r room' list'
  goes_on = leaves_on file h room list room' list' r t is w found e f laid

  pub on_answer : r ≡ salvage_answer file (length room) (length list)
  on_answer = goes_on.answer

  pub on_room : room' ≡ salvage_room file room (length list)
  on_room = goes_on.in_room

  pub on_list : list' ≡ salvage_list file (length room) list
  on_list = goes_on.in_list

pub ruleset answers = (long_answer, halt_answer, on_answer)

pub ruleset rooms = (long_room, halt_room, on_room)

pub ruleset lists = (long_list, halt_list, on_list)
