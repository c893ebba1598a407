-- The ways through the code of the pass, and what its loop keeps.
use Rattle.std.specs.Prelude.{◌≡◌, refl, Option, Some, None, Result, Ok, Err, Bool, not, List, ℕ, ◌+◌, ◌/◌, ◌≤◌, ◌<◌, drop, eqb}
use Rattle.std.proofs.Common.{sym, ◌∙◌, add-one, drop_of_length-le, drop-cons}
use Rattle.std.proofs.Math.Path.{ap}
use Rattle.std.proofs.Math.Bool.{true, false}
use native.Mathlib.Omega.{arith}
use Rattle.std.proofs.Math.ListN.{length}
use borrow.Author.Tests.{eq-eqb, ne_eqb, not-true, not-false}
use denote.Enum.Bare.{sameb}
use Rattle.basis.specs.Guard.{guard}
use Rattle.basis.specs.Members.{clash}
use Rattle.records.specs.declared.Table.{Table}
use Rattle.records.specs.declared.Table.TheVariants.{Names, Solvables, VersionSets, Requirements, Candidates, Reasons, Variables, Assigned, Clauses}
use Rattle.records.specs.contracts.Table.{the_type}
use Rattle.records.specs.declared.Counts.{Counts}
use Rattle.records.specs.declared.Shape.{Shape}
use Rattle.records.specs.declared.Refusal.{Refusal}
use Rattle.records.specs.declared.Refusal.TheVariants.{TableFull}
use Rattle.records.specs.declared.Refused.{Refused}
use Rattle.records.specs.Shapes.{Rec, records_of}
use Rattle.records.specs.Tables.{at, no_rec}
use Rattle.records.specs.Cut.{length_cut}
use Rattle.records.specs.Pass.{found_at, number_of, has_room, more_of, check_pass}
use Rattle.salvage.specs.declared.Fate.{Fate}
use Rattle.salvage.specs.declared.Fate.TheVariants.{Stays, Replaced}
use Rattle.salvage.specs.declared.Work.{Work}
use Rattle.salvage.specs.Salvage.{is_clauses}
use Rattle.salvage.specs.Pass.{learnt_pass, clauses_pass, clause_found, clause_kind, clause_by, other_in, other_by, verdict_pass}
use Rattle.salvage.specs.Pass.{turn_by, marks_by, list_by, turn_pass, marks_pass, list_pass, Judgement, after_turn, judge_from}

-- ---- one record

pub learnt_no : (r : Rec) (k : ℕ) → (k ≡ 18 → ⊥) → k ≡ r.kind → false ≡ learnt_pass r
unfolding learnt_pass
learnt_no r k h e = rw (ne_eqb r.kind 18 (λ q. h (e ∙ q)))

pub learnt_by : (r : Rec) (k f : ℕ) → k ≡ 18 → k ≡ r.kind → f ≡ r.first → eqb f 1 ≡ learnt_pass r
unfolding learnt_pass
learnt_by r k f h e q = rw (eq-eqb r.kind 18 (sym e ∙ h), q)

pub clauses_at : (t u : Table) (x : Bool) → t ≡ u → x ≡ is_clauses u → x ≡ clauses_pass t
unfolding clauses_pass
clauses_at t u x e q = rw e q

-- by the derived `==`
pub clauses_eq : (t : Table) (x : Bool) → x ≡ sameb the_type t Clauses → x ≡ clauses_pass t
unfolding clauses_pass
clauses_eq Names x e = e
clauses_eq Solvables x e = e
clauses_eq VersionSets x e = e
clauses_eq Requirements x e = e
clauses_eq Candidates x e = e
clauses_eq Reasons x e = e
clauses_eq Variables x e = e
clauses_eq Assigned x e = e
clauses_eq Clauses x e = e

pub kind_by_lem : (k : ℕ) (f g : Option Shape) (x : Bool) → f ≡ found_at k → f ≡ g → x ≡ clause_found g → x ≡ clause_kind k
unfolding clause_kind
kind_by_lem k f g x is e q = q ∙ ap clause_found (sym e ∙ is)

module _ (s : Result Table Refusal) (r : Rec) where
  pub clause_no : (k : Refusal) → s ≡ Err k → Replaced ≡ clause_by s r
  unfolding clause_by
  clause_no k e = rw e

  pub clause_learnt : (t : Table) (b : Bool) → b ≡ learnt_pass r → b ≡ true → s ≡ Ok t → Replaced ≡ clause_by s r
  unfolding clause_by
  clause_learnt t b e q f = rw (f, ← e, q)

  pub clause_stays : (t : Table) (b : Bool) → b ≡ learnt_pass r → b ≡ false → s ≡ Ok t → Stays t ≡ clause_by s r
  unfolding clause_by
  clause_stays t b e q f = rw (f, ← e, q)

pub other_at : (s u : Result Table Refusal) (x : Result Fate Refusal) → s ≡ u → x ≡ other_in u → x ≡ other_by s
unfolding other_by
other_at s u x e q = rw e q

module _ (c : Counts) (m : List ℕ) (r : Rec) (s : Result Table Refusal) (is : s ≡ check_pass c m r) (k : ℕ) (e : k ≡ r.kind) (b : Bool) (q : b ≡ clause_kind k) where
  pub verdict_other : (x : Result Fate Refusal) → not b ≡ true → x ≡ other_by s → x ≡ verdict_pass c m r
  unfolding verdict_pass guard
  verdict_other x h f = let g : clause_kind r.kind ≡ false = ap clause_kind (sym e) ∙ (sym q ∙ not-true b h) in rw (g, ← is) f

  pub verdict_full : (d : Bool) → not b ≡ false → d ≡ has_room Clauses c → not d ≡ true → Err TableFull ≡ verdict_pass c m r
  unfolding verdict_pass guard
  verdict_full d h g l = let y : clause_kind r.kind ≡ true = ap clause_kind (sym e) ∙ (sym q ∙ not-false b h) in rw (y, ← g, not-true d l)

  pub verdict_clause : (d : Bool) (x : Fate) → not b ≡ false → d ≡ has_room Clauses c → not d ≡ false → x ≡ clause_by s r → Ok x ≡ verdict_pass c m r
  unfolding verdict_pass guard
  verdict_clause d x h g l f = let y : clause_kind r.kind ≡ true = ap clause_kind (sym e) ∙ (sym q ∙ not-false b h) in rw (y, ← g, not-false d l, ← is, f)

-- ---- one record more

module _ (w : Work) (m : List ℕ) (r : Rec) (v u : Result Fate Refusal) (is : v ≡ verdict_pass w.counts m r) (e : v ≡ u) where
  pub turn_by_lem : (x : Result Work Refused) (i : ℕ) → x ≡ turn_by u w i → x ≡ turn_pass w m r i
  unfolding turn_pass
  turn_by_lem x i q = q ∙ rw (← e, is)

  pub marks_by_lem : (x : List ℕ) → x ≡ marks_by u r m → x ≡ marks_pass w m r
  unfolding marks_pass
  marks_by_lem x q = q ∙ rw (← e, is)

  pub list_by_lem : (x : List ℕ) (i : ℕ) (ls : List ℕ) → x ≡ list_by u w.replaced i ls → x ≡ list_pass w m r i ls
  unfolding list_pass
  list_by_lem x i ls q = q ∙ rw (← e, is)

module _ (w : Work) (m : List ℕ) (r : Rec) (v : Result Fate Refusal) (is : v ≡ verdict_pass w.counts m r) (d : Counts) (k i : ℕ) where
  pub turn_stays : (t : Table) → v ≡ Ok (Stays t) → d ≡ more_of t w.counts → k ≡ w.replaced → Ok (record { counts = d; replaced = k }) ≡ turn_pass w m r i
  turn_stays t e q f = turn_by_lem w m r v (Ok (Stays t)) is e (Ok (record { counts = d; replaced = k })) i (rw (q, f))

  pub turn_replaced : v ≡ Ok Replaced → d ≡ more_of Clauses w.counts → k ≡ w.replaced + 1 → Ok (record { counts = d; replaced = k }) ≡ turn_pass w m r i
  turn_replaced e q f = turn_by_lem w m r v (Ok Replaced) is e (Ok (record { counts = d; replaced = k })) i (rw (q, f))

  pub turn_stops : (e : Refusal) (n : ℕ) → v ≡ Err e → n ≡ number_of e → Err (record { number = n; place = i }) ≡ turn_pass w m r i
  turn_stops e n h q = turn_by_lem w m r v (Err e) is h (Err (record { number = n; place = i })) i (rw q)

-- ---- all records

unfoldable pub left_judge : List ℕ → ℕ → Work → List ℕ → List ℕ → Judgement
left_judge file i w m ls = judge_from (drop i (records_of file)) i w m ls

left_one : (file : List ℕ) (i : ℕ) (w : Work) (m ls : List ℕ) → i < length file / 32
    → left_judge file i w m ls
    ≡ after_turn (turn_pass w m (at (records_of file) i) i) (list_pass w m (at (records_of file) i) i ls)
    (λ d. left_judge file (i + 1) d (marks_pass w m (at (records_of file) i)) (list_pass w m (at (records_of file) i) i ls))
unfolding left_judge judge_from
left_one file i w m ls h =
    let l : length (records_of file) ≡ length file / 32 = length_cut (length file / 32) file in
    rw (add-one, drop-cons (records_of file) i no_rec (omega arith))

-- what the loop of the code keeps: what is left equals the whole
pub record JudgeLeft (file : List ℕ) (i : ℕ) (w : Work) (m ls : List ℕ) (j : Judgement) : Type 0 where
  pub is : left_judge file i w m ls ≡ j

pub left_start : (file : List ℕ) (w : Work) (m ls : List ℕ) → JudgeLeft file 0 w m ls (judge_from (records_of file) 0 w m ls)
unfolding left_judge
left_start file w m ls = record { is = refl }

module _ (file : List ℕ) (i : ℕ) (w : Work) (m ls : List ℕ) (j : Judgement) (inv : JudgeLeft file i w m ls j) where
  pub left_end : length file / 32 ≤ i → Ok w ≡ j.turn
  unfolding left_judge judge_from
  left_end h =
      let l : length (records_of file) ≡ length file / 32 = length_cut (length file / 32) file in
      let g : length (records_of file) ≤ i = omega arith in
      ap (λ (x : Judgement). x.turn) (rw (drop_of_length-le (records_of file) g) at inv.is)

  pub left_end_list : length file / 32 ≤ i → ls ≡ j.list
  unfolding left_judge judge_from
  left_end_list h =
      let l : length (records_of file) ≡ length file / 32 = length_cut (length file / 32) file in
      let g : length (records_of file) ≤ i = omega arith in
      ap (λ (x : Judgement). x.list) (rw (drop_of_length-le (records_of file) g) at inv.is)

  module _ (s : Result Work Refused) (h : i < length file / 32) (is : s ≡ turn_pass w m (at (records_of file) i) i) where
    on : after_turn s (list_pass w m (at (records_of file) i) i ls)
        (λ d. left_judge file (i + 1) d (marks_pass w m (at (records_of file) i)) (list_pass w m (at (records_of file) i) i ls)) ≡ j
    on = rw is (sym (left_one file i w m ls h) ∙ inv.is)

    pub left_next : (d : Work) (u us : List ℕ) → s ≡ Ok d → u ≡ marks_pass w m (at (records_of file) i) → us ≡ list_pass w m (at (records_of file) i) i ls
        → JudgeLeft file (i + 1) d u us j
    left_next d u us e p q = record { is = rw (p, q) (rw e at on) }

    pub left_stop : (k : Refused) → s ≡ Err k → Err k ≡ j.turn
    left_stop k e = ap (λ (x : Judgement). x.turn) (rw e at on)

    pub left_stop_list : (k : Refused) (us : List ℕ) → s ≡ Err k → us ≡ list_pass w m (at (records_of file) i) i ls → us ≡ j.list
    left_stop_list k us e q = q ∙ ap (λ (x : Judgement). x.list) (rw e at on)

-- no more records are replaced than there are
pub turn_count : (w : Work) (m : List ℕ) (r : Rec) (i k : ℕ) (s : Result Work Refused) (d : Work) → s ≡ turn_pass w m r i → s ≡ Ok d → w.replaced ≤ k → d.replaced ≤ k + 1
unfolding turn_pass
turn_count w m r i k s d is e h = go (verdict_pass w.counts m r) (sym is ∙ e)
  where
    go : (v : Result Fate Refusal) → turn_by v w i ≡ Ok d → d.replaced ≤ k + 1
    go (Ok (Stays t)) q = let z : w.replaced ≡ d.replaced = cc in omega arith
    go (Ok Replaced) q = let z : w.replaced + 1 ≡ d.replaced = cc in omega arith
    go (Err n) q = clash (cc)

-- the list holds the numbers of all that were replaced
abbrev pub FewBy : Result Work Refused → ℕ → Type 0
FewBy (Ok w) n = w.replaced ≤ n
FewBy (Err e) n = Unit {0}

pub record Few (t : Result Work Refused) (ls : List ℕ) : Type 0 where
  pub is : FewBy t (length ls)

pub few_halt : (t : Result Work Refused) (ls : List ℕ) (k : Refused) → t ≡ Err k → Few (Err k) ls
few_halt t ls k e = record { is = tt }

pub few_is : (t : Result Work Refused) (w : Work) (ls : List ℕ) → Few t ls → t ≡ Ok w → w.replaced ≤ length ls
few_is t w ls f e = rw e at f.is
