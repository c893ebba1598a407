-- The pass over counts and marks says what `mend_from` says over the tables, by the law of the reader's step (`stepped`).
use Rattle.std.specs.Prelude.{◌≡◌, Bool, Result, Ok, Err, ◌&&◌, List, [], ◌∷◌, ◌++◌, map, ℕ, zero, suc, ◌+◌, ◌≤◌, ◌<◌, length, set, take, eqb, ltb}
use Rattle.std.proofs.Math.Path.{refl}
use Rattle.std.proofs.Common.{sym, ap, ◌∙◌, append-nil, arith, add-one, add-zero, length-set, take-suc-set, ne_eqb}
use Rattle.std.proofs.Math.Bool.{true, false, cond, not}
use Rattle.std.proofs.Math.Option.{Option, none, some}
use Rattle.std.proofs.Math.Seq.{append_snoc}
use Rattle.basis.specs.Guard.{guard}
use Rattle.records.specs.declared.Table.{Table}
use Rattle.records.specs.declared.Table.TheVariants.{Clauses}
use Rattle.records.specs.declared.Counts.{Counts}
use Rattle.records.specs.declared.Shape.{Shape}
use Rattle.records.specs.declared.Refusal.{Refusal}
use Rattle.records.specs.declared.Refusal.TheVariants.{UnknownKind, TableFull}
use Rattle.records.specs.Shapes.{Rec, rec_of, shape_of, limit}
use Rattle.records.specs.Tables.{Tables, put, counts_of}
use Rattle.records.specs.Read.{refusal_in}
use Rattle.records.specs.Pass.{found_at, found_of, number_of, check_pass, noted}
use Rattle.records.specs.Agree.{Marked, refusal_by, refusal_number, step_of, room_is_good}
use Rattle.records.specs.Laws.Step.{step_in, stepped}
use Rattle.salvage.specs.declared.Fate.{Fate}
use Rattle.salvage.specs.declared.Fate.TheVariants as F
use Rattle.salvage.specs.Salvage.{Verdict, Stays, Replaced, Stops}
use Rattle.salvage.specs.declared.Work.{Work}
use Rattle.salvage.specs.Salvage.{blank, core_learnt, is_clauses, on_other, on_known, verdict_of, Mended, mended, halted, with_kept, with_blank, mend_from}
use Rattle.salvage.specs.Pass.{learnt_pass, clauses_pass, clause_found, clause_kind, clause_by, other_by, verdict_pass}
use Rattle.salvage.specs.Pass.{turn_by, marks_by, list_by, turn_pass, marks_pass, list_pass, Judgement, after_turn, judge_from}
use Rattle.salvage.specs.Laws.Mending.{Remains, it_stays, it_is_replaced, clause_table, blank_known, blank_passes}

-- ---- one record

-- what the code says of a record, as the definitions say it
abbrev pub verdict_by : Result Fate Refusal → Verdict
verdict_by (Ok (F.Stays t)) = Stays t
verdict_by (Ok F.Replaced) = Replaced
verdict_by (Err k) = Stops (number_of k)

clause_same : (n : ℕ) (t : Table) (r : Rec) → t ≡ Clauses → verdict_by (Ok (clause_by (step_of n t) r)) ≡ cond (eqb n 0 && not (core_learnt r)) (Stays Clauses) Replaced
unfolding clause_by learnt_pass
clause_same zero t r e = rw e (go (core_learnt r))
  where
    go : (b : Bool) → verdict_by (Ok (cond b F.Replaced (F.Stays Clauses))) ≡ cond (not b) (Stays Clauses) Replaced
    go true = refl
    go false = refl
clause_same (suc n) t r e = rw (ne_eqb (suc n) 0 (λ z. (let f : ⊥ = omega arith in f)))

other_same : (n k : ℕ) (t : Table) → n ≡ k → ((j : ℕ) → n ≡ suc j → suc j ≡ number_of (refusal_by (suc j))) → verdict_by (other_by (step_of n t)) ≡ on_other k t
unfolding other_by
other_same zero k t e f = rw (← e)
other_same (suc n) k t e f = rw (← f n refl, ← e)

module _ (T : Tables) (m : List ℕ) (h : Marked T m) (r : Rec) where
  kind_is : (o : Option Shape) → shape_of r.kind ≡ o → clause_kind r.kind ≡ clause_found (found_of o)
  unfolding clause_kind found_at
  kind_is o e = rw e

  step_some : (s : Shape) → shape_of r.kind ≡ some s → check_pass (counts_of T) m r ≡ step_of (refusal_in T s r) s.table
  unfolding step_in
  step_some s e = rw e at (stepped T m h r).answer

  step_none : shape_of r.kind ≡ none → check_pass (counts_of T) m r ≡ Err UnknownKind
  unfolding step_in
  step_none e = rw e at (stepped T m h r).answer

  known_same : (s : Shape) → shape_of r.kind ≡ some s → (b : Bool) → is_clauses s.table ≡ b → verdict_by (verdict_pass (counts_of T) m r) ≡ on_known T s r
  unfolding verdict_pass guard clauses_pass
  known_same s e true q =
      rw (kind_is (some s) e, q, step_some s e, room_is_good Clauses T, ← clause_same (refusal_in T s r) s.table r (clause_table s.table q))
      (go (ltb (length T.clauses) 1024) (clause_by (step_of (refusal_in T s r) s.table) r))
    where
      go : (b : Bool) (v : Fate) → verdict_by (guard b (Err TableFull) (Ok v)) ≡ cond b (verdict_by (Ok v)) (Stops 6)
      go true v = refl
      go false v = refl
  known_same s e false q =
      rw (kind_is (some s) e, q, step_some s e) (other_same (refusal_in T s r) (refusal_in T s r) s.table refl (λ j z. refusal_number T s r j z))

  unknown : shape_of r.kind ≡ none → verdict_by (verdict_pass (counts_of T) m r) ≡ Stops 2
  unfolding verdict_pass guard other_by
  unknown e = rw (kind_is none e, step_none e)

  pub verdict_is : verdict_by (verdict_pass (counts_of T) m r) ≡ verdict_of T r
  unfolding verdict_of
  verdict_is = go (shape_of r.kind) refl
    where
      go : (o : Option Shape) → shape_of r.kind ≡ o → verdict_by (verdict_pass (counts_of T) m r) ≡ elim o as (λ _. Verdict) [ none ↦ Stops 2 | some s ↦ on_known T s r ]
      go none e = unknown e
      go (some s) e = known_same s e (is_clauses s.table) refl

-- a record that stays goes on to its table
step_stays : (T : Tables) (r : Rec) (t : Table) → Remains T r t → step_in T r ≡ Ok t
unfolding step_in
step_stays T r t s = rw (s.known, s.passes, s.place)

-- and so does the blank clause
step_blank : (T : Tables) → ltb (length T.clauses) (limit Clauses) ≡ true → step_in T (rec_of blank) ≡ Ok Clauses
unfolding step_in
step_blank T g = rw (blank_known, blank_passes T g)

-- ---- all records

-- what the pass answers beside what the definition says, where k numbers stood in the list ls before
abbrev pub Agrees : Mended → ℕ → List ℕ → Judgement → Type 0
Agrees (mended ys ks) k ls j =
    (c : Counts) × (j.turn ≡ Ok (record { counts = c; replaced = k + length ks }))
    × (take (k + length ks) j.list ≡ take k ls ++ ks) × (length j.list ≡ length ls)
Agrees (halted n p) k ls j = j.turn ≡ Err (record { number = n; place = p })

agrees_kept : (x : List ℕ) (M : Mended) (k : ℕ) (ls : List ℕ) (j : Judgement) → Agrees M k ls j → Agrees (with_kept x M) k ls j
agrees_kept x (mended ys ks) k ls j a = a
agrees_kept x (halted n p) k ls j a = a

agrees_blank : (i : ℕ) (M : Mended) (k : ℕ) (ls : List ℕ) (j : Judgement) → k < length ls → Agrees M (k + 1) (set ls k i) j → Agrees (with_blank i M) k ls j
agrees_blank i (mended ys ks) k ls j h a =
    let e : k + 1 + length ks ≡ k + suc (length ks) = omega arith in
    let q : take (k + 1) (set ls k i) ≡ take k ls ++ (i ∷ []) = rw add-one (take-suc-set ls k i h) in
    (a.0, rw e at a.1, (rw e at a.2) ∙ (ap (λ (l : List ℕ). l ++ ks) q ∙ append_snoc (take k ls) i ks), a.3 ∙ length-set ls k i)
agrees_blank i (halted n p) k ls j h a = a

abbrev work_of : Tables → ℕ → Work
work_of T k = record { counts = counts_of T; replaced = k }

-- a clause leaves no mark
blank_marks : (r : Rec) (m : List ℕ) → noted Clauses r m ≡ m
unfolding noted
blank_marks r m = refl

module _ (x : List ℕ) (xs : List (List ℕ)) (i : ℕ) (T : Tables) (m ls : List ℕ) (k : ℕ) (h : Marked T m) (l : k + suc (length xs) ≤ length ls)
    (rest : (U : Tables) (u ms : List ℕ) (j : ℕ) → Marked U u → j + length xs ≤ length ms
    → Agrees (mend_from xs (suc i) U) j ms (judge_from (map rec_of xs) (suc i) (work_of U j) u ms)) where
  by_verdict : (v : Result Fate Refusal) → verdict_of T (rec_of x) ≡ verdict_by v
      → Agrees (elim (verdict_by v) as (λ _. Mended) [
        | Stays t ↦ with_kept x (mend_from xs (suc i) (put t (rec_of x) T))
        | Replaced ↦ with_blank i (mend_from xs (suc i) (put Clauses (rec_of blank) T))
        | Stops n ↦ halted n i
      ]) k ls
      (after_turn (turn_by v (work_of T k) i) (list_by v k i ls) (λ d. judge_from (map rec_of xs) (suc i) d (marks_by v (rec_of x) m) (list_by v k i ls)))
  by_verdict (Ok (F.Stays t)) e =
      let s = step_stays T (rec_of x) t (it_stays T (rec_of x) t e) in
      let n : Marked (put t (rec_of x) T) (noted t (rec_of x) m) = (stepped T m h (rec_of x)).marks t s in
      rw ((stepped T m h (rec_of x)).counts t s)
      (agrees_kept x (mend_from xs (suc i) (put t (rec_of x) T)) k ls _ (rest (put t (rec_of x) T) (noted t (rec_of x) m) ls k n (omega arith)))
  by_verdict (Ok F.Replaced) e =
      let s = step_blank T (it_is_replaced T (rec_of x) e).room in
      let n : Marked (put Clauses (rec_of blank) T) m = rw (blank_marks (rec_of blank) m) at ((stepped T m h (rec_of blank)).marks Clauses s) in
      rw ((stepped T m h (rec_of blank)).counts Clauses s)
      (agrees_blank i (mend_from xs (suc i) (put Clauses (rec_of blank) T)) k ls _ (omega arith)
      (rest (put Clauses (rec_of blank) T) m (set ls k i) (k + 1) n (rw (length-set ls k i) (omega arith))))
  by_verdict (Err n) e = refl

  pick : (v : Result Fate Refusal) (u : Verdict) → verdict_by v ≡ u → verdict_of T (rec_of x) ≡ u
      → Agrees (elim u as (λ _. Mended) [
        | Stays t ↦ with_kept x (mend_from xs (suc i) (put t (rec_of x) T))
        | Replaced ↦ with_blank i (mend_from xs (suc i) (put Clauses (rec_of blank) T))
        | Stops n ↦ halted n i
      ]) k ls
      (after_turn (turn_by v (work_of T k) i) (list_by v k i ls) (λ d. judge_from (map rec_of xs) (suc i) d (marks_by v (rec_of x) m) (list_by v k i ls)))
  pick v u e f = rw (← e) (by_verdict v (f ∙ sym e))

pub judge_is_mend : (xs : List (List ℕ)) (i : ℕ) (T : Tables) (m ls : List ℕ) (k : ℕ) → Marked T m → k + length xs ≤ length ls
    → Agrees (mend_from xs i T) k ls (judge_from (map rec_of xs) i (work_of T k) m ls)
unfolding mend_from judge_from turn_pass marks_pass list_pass
judge_is_mend [] i T m ls k h l = (counts_of T, rw add-zero, rw (add-zero, append-nil), refl)
judge_is_mend (x ∷ xs) i T m ls k h l =
    pick x xs i T m ls k h l (λ U u ms j g n. judge_is_mend xs (suc i) U u ms j g n) (verdict_pass (counts_of T) m (rec_of x))
    (verdict_of T (rec_of x)) (verdict_is T m h (rec_of x)) refl
