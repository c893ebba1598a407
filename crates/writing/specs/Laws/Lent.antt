-- From the pass and the lent room to what the call answers and leaves.
use Rattle.std.specs.Prelude.{◌≡◌, Result, Ok, Err, refl, cond, List, [], map, ℕ, ◌*◌, ◌/◌, ◌%◌, ◌≤◌, ◌<◌, take, replicate}
use Rattle.std.proofs.Common.{sym, ◌∙◌, subst, zero-add}
use Rattle.std.proofs.Math.Path.{ap}
use Rattle.std.proofs.Math.Bool.{true, false}
use native.Mathlib.Omega.{arith}
use Rattle.std.proofs.Math.ListN.{length}
use Rattle.std.proofs.lemmas.List.{length-replicate}
use Rattle.std.proofs.Math.Dec.{leb}
use borrow.Author.Tests.{eq-eqb, ne_eqb, le-leb, lt-leb, leb-true, leb-false}
use Rattle.basis.specs.Members.{split, clash}
use Rattle.records.specs.declared.Counts.{Counts}
use Rattle.records.specs.declared.Refused.{Refused}
use Rattle.records.specs.Shapes.{rec_of}
use Rattle.records.specs.Tables.{no_tables}
use Rattle.records.specs.Read.{Reading, good, bad, read_from}
use Rattle.reader.specs.Pieces.{joined}
use Rattle.reader.specs.Laws.Pieces.{pieces_whole, length_joined}
use Rattle.writing.specs.declared.Work.{Work}
use Rattle.writing.specs.declared.Written.{Written}
use Rattle.writing.specs.Arranged.{rows_of, arranged}
use Rattle.writing.specs.Write.{File, written, refused, judged_file, write_of, refusal_of, write_answer, write_room, Leaves}
use Rattle.writing.specs.Pass.{halted, Pass, Gives, judge_rows, Fresh, FileLaid, ConcludedBy, Concluded}
use Rattle.writing.specs.Laws.Segments.{arranged_whole}
use Rattle.writing.specs.Laws.Agree.{Ends}
use Rattle.writing.specs.Laws.Judged.{judge_ends}

leaves_refused : (rows room : List ℕ) (r : Written) (n p : ℕ) → write_of rows ≡ refused n p → r ≡ refusal_of n p → Leaves rows room r room
unfolding write_answer write_room
leaves_refused rows room r n p e q = record { answer = rw e q; in_room = rw e }

abbrev pub whole_pass : List ℕ → Pass
whole_pass rows = judge_rows rows (replicate 1024 0) (replicate 65536 0)

pub leaves_odd : (rows room : List ℕ) (r : Written) → (length rows % 32 ≡ 0 → ⊥) → r ≡ refusal_of 1 0 → Leaves rows room r room
unfolding write_of
leaves_odd rows room r h q = leaves_refused rows room r 1 0 (odd h) q
  where
    odd : (length rows % 32 ≡ 0 → ⊥) → write_of rows ≡ refused 1 0
    odd n = rw (ne_eqb (length rows % 32) 0 n)

same_halt : (n p a b : ℕ) → halted n p ≡ halted a b → (n ≡ a) × (p ≡ b)
same_halt n p a b e =
    let z : ◌≡◌ {A = Refused} (record { number = n; place = p }) (record { number = a; place = b }) = cc in
    (ap (λ (x : Refused). x.number) z, ap (λ (x : Refused). x.place) z)

same_place : (c : Counts) (n : ℕ) (w : Work) → ◌≡◌ {A = Result Work Refused} (Ok w) (Ok (record { counts = c; place = n })) → w.place ≡ n
same_place c n w e = let z : w ≡ record { counts = c; place = n } = cc in ap (λ (y : Work). y.place) z

module _ (rows : List ℕ) (even : length rows % 32 ≡ 0) where
  abbrev ys : List (List ℕ)
  ys = arranged (rows_of rows)

  write_by : (R : Reading) → read_from (map rec_of ys) 0 no_tables ≡ R → write_of rows ≡ judged_file R ys
  unfolding write_of
  write_by R e = rw (eq-eqb (length rows % 32) 0 even, e)

  ended : Ends [] ys (read_from (map rec_of ys) 0 no_tables) (whole_pass rows)
  ended = judge_ends rows (replicate 65536 0) (length-replicate {A = ℕ} 65536 0)

  long_bytes : length (joined ys) ≡ 32 * length ys
  long_bytes = length_joined ys (arranged_whole (rows_of rows) (pieces_whole (length rows / 32) rows (omega arith)))

  module _ (room : List ℕ) (r : Written) (t : Result Work Refused) (m o : List ℕ) (g : Gives (whole_pass rows) t m o) where
    halt_by : (n p : ℕ) → t ≡ halted n p → r ≡ refusal_of n p → (R : Reading) → read_from (map rec_of ys) 0 no_tables ≡ R → Ends [] ys R (whole_pass rows)
        → Leaves rows room r room
    halt_by n p e q (good U) x a = clash (no_turn (sym e ∙ (g.turn ∙ a.turn)))
      where
        no_turn : {w : Work} → halted n p ≡ Ok w → ◌≡◌ {A = ℕ} 0 1
        no_turn z = cc
    halt_by n p e q (bad k i) x a =
        let z = same_halt k i n p (sym a ∙ (sym g.turn ∙ e)) in
        leaves_refused rows room r n p (write_by (bad k i) x ∙ (ap (λ (y : ℕ). refused y i) z.0 ∙ ap (λ (y : ℕ). refused n y) z.1)) q

    pub leaves_halt : (n p : ℕ) → t ≡ halted n p → r ≡ refusal_of n p → Leaves rows room r room
    leaves_halt n p e q = halt_by n p e q (read_from (map rec_of ys) 0 no_tables) refl ended

    module _ (w : Work) (e : t ≡ Ok w) (room' : List ℕ) where
      laid_by : (p : ℕ) → p ≡ length ys → FileLaid p o room r room' → (p ≤ 2048 → take (32 * p) o ≡ joined ys) → (F : File)
          → write_of rows ≡ F → cond (leb (32 * length ys) 65536) (written (joined ys)) (refused 1 0) ≡ F → Leaves rows room r room'
      unfolding write_answer write_room
      laid_by p n l b F y z =
          split (leb p 2048)
          (λ q.
          let h : p ≤ 2048 = leb-true _ _ q in
          let c : leb (32 * length ys) 65536 ≡ true = le-leb (32 * length ys) 65536 (omega arith) in
          let f : write_of rows ≡ written (joined ys) = y ∙ (sym z ∙ (rw c)) in
          let k : length (joined ys) ≡ 32 * p = long_bytes ∙ ap (λ (i : ℕ). 32 * i) (sym n) in
          let u : 32 * p / 32 ≡ p = omega arith in
          record {
            answer = rw (f, k, u) (rw q at l.answer);
            in_room = rw (f, k) (split (leb (32 * p) (length room))
                (λ s. rw s ((rw (q, s) at l.in_room) ∙ rw (zero-add (32 * p), b h)))
                (λ s. rw s (rw (q, s) at l.in_room)));
          })
          (λ q.
          let h : 2048 < p = leb-false _ _ q in
          let c : leb (32 * length ys) 65536 ≡ false = lt-leb (32 * length ys) 65536 (omega arith) in
          let f : write_of rows ≡ refused 1 0 = y ∙ (sym z ∙ (rw c)) in
          record { answer = rw f (rw q at l.answer); in_room = rw f (rw q at l.in_room) })

      on_by : FileLaid w.place o room r room' → (R : Reading) → read_from (map rec_of ys) 0 no_tables ≡ R → Ends [] ys R (whole_pass rows)
          → Leaves rows room r room'
      on_by l (bad k i) x a = clash (no_turn (sym a ∙ (sym g.turn ∙ e)))
        where
          no_turn : halted k i ≡ Ok w → ◌≡◌ {A = ℕ} 0 1
          no_turn z = cc
      on_by l (good U) x a =
          let n : w.place ≡ length ys = same_place _ (length ys) w (sym e ∙ (g.turn ∙ a.turn)) in
          let b : w.place ≤ 2048 → take (32 * w.place) o ≡ joined ys =
          λ h. rw g.out (ap (λ (i : ℕ). take (32 * i) (whole_pass rows).out) n ∙ a.bytes (subst (λ (i : ℕ). i ≤ 2048) n h)) in
          laid_by w.place n l b _ (write_by (good U) x) refl

      pub leaves_on : FileLaid w.place o room r room' → Leaves rows room r room'
      leaves_on l = on_by l (read_from (map rec_of ys) 0 no_tables) refl ended

-- ---- the ways out of the code

module _ (rows room : List ℕ) (r : Written) (h : length rows % 32 ≡ 0 → ⊥) (q : r ≡ refusal_of 1 0) where
  pub odd_answer : r ≡ write_answer rows (length room)
  odd_answer = (leaves_odd rows room r h q).answer

  pub odd_room : room ≡ write_room rows room
  odd_room = (leaves_odd rows room r h q).in_room

module _ (rows room m₀ f₀ s₀ o₀ : List ℕ) (r : Written) (t : Result Work Refused) (m o : List ℕ) (g : Gives (judge_rows rows m₀ o₀) t m o) (z : Fresh m₀ f₀ s₀ o₀)
    (h : length rows % 32 ≡ 0) where
  whole : Gives (whole_pass rows) t m o
  whole =
      subst (λ (a : List ℕ). Gives (judge_rows rows a (replicate 65536 0)) t m o) z.marks
      (subst (λ (b : List ℕ). Gives (judge_rows rows m₀ b) t m o) z.out g)

  pub concluded_leaves : (room' : List ℕ) → Concluded t o room r room' → Leaves rows room r room'
  concluded_leaves room' c = go t refl c.is
    where
      go : (u : Result Work Refused) → t ≡ u → ConcludedBy u o room r room' → Leaves rows room r room'
      go (Err b) e d = subst (λ (l : List ℕ). Leaves rows room r l) (sym d.1) (leaves_halt rows h room r t m o whole b.number b.place e d.0)
      go (Ok w) e d = leaves_on rows h room r t m o whole w e room' d

pub fresh_long : (m f s o out : List ℕ) → Fresh m f s o → length out ≡ length o → length out ≡ 65536
fresh_long m f s o out z e = e ∙ (ap length z.out ∙ length-replicate {A = ℕ} 65536 0)
