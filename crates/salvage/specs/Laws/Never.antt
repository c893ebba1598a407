-- A sound file never gets 7, and so a repaired one does not: no core clause of it is a Learnt.
use Rattle.std.specs.Prelude.{◌≡◌, Bool, ◌&&◌, List, [], ◌∷◌, drop, ltb, ◌⊎◌}
use Rattle.std.proofs.Math.Path.{refl, ap}
use Rattle.std.proofs.Common.{sym, ◌∙◌, subst, inl, not-suc-le-zero, le_of_suc-le-suc}
use Rattle.std.proofs.Math.Bool.{true, false}
use Rattle.std.proofs.Math.Option.{Option, none, some}
use Prim.Native.Nat.{ℕ, zero, suc, ◌≤◌, ◌<◌}
use Rattle.std.proofs.Math.ListN.{length, get_or-eq_default}
use Rattle.std.proofs.Math.Dec.{eqb}
use borrow.Author.Tests.{eqb-true, ltb-true, ltb-false}
use Rattle.basis.specs.Members.{split, clash, no_both, In, All}
use Rattle.std.proofs.Math.Logic.{inr}
use Rattle.records.specs.declared.Table.TheVariants.{Clauses}
use Rattle.records.specs.declared.Shape.{Shape}
use Rattle.records.specs.Shapes.{Rec, kinds, row_at, shape_of}
use Rattle.records.specs.Tables.{Tables, at, no_rec}
use Rattle.records.specs.Views.{clause_in, clause_of, core_at, in_core}
use Rattle.index.specs.Promise.{promise}
use Rattle.store.specs.Graph.{Graph, settle, unreached}
use Rattle.expansion.specs.Expand.{Build, ClauseStep, on, stop, expand, start_build}
use Rattle.graph.specs.Graphs.{is_learnt, Turned, go, halt, expanded, core_turn, handed, turn_at, Built, built, stopped, build_from, build_of}
use Rattle.graph.specs.Graphs.{Outcome, drawn, refused, reached_all, graph_of}
use Rattle.graph.specs.Files.{outcome_by, outcome_of}
use Rattle.salvage.specs.Lent.{salvage_answer}
use Rattle.salvage.specs.Laws.Repaired.{Sound, sound_clauses}
use Rattle.salvage.specs.Laws.Promises.{out_in, done_sound}

by_row : (P : ℕ → Option Shape → Type 0) (xs : List (ℕ × Option Shape)) → All (λ x. P x.0 x.1) xs → (k : ℕ) → P k none → P k (row_at k xs)
by_row P [] a k z = z
by_row P (x ∷ xs) a k z =
    split (eqb k x.0)
    (λ q. rw (q, row_at) (subst (λ (j : ℕ). P j x.1) (sym (eqb-true _ _ q)) a.0))
    (λ q. rw (q, row_at) (by_row P xs a.1 k z))

-- a record of the clauses' kinds other than 18 is no Learnt
abbrev Unlearnt : ℕ → Option Shape → Type 0
Unlearnt k none = Unit {0}
Unlearnt k (some s) = (r : Rec) → r.kind ≡ k → s.table ≡ Clauses → eqb k 18 ≡ false → is_learnt (clause_in r) ≡ false

from_nineteen : All (λ x. Unlearnt x.0 x.1) (drop 11 kinds)
unfolding clause_in
from_nineteen = (λ r e h q. rw e, (λ r e h q. rw e, (λ r e h q. rw e, (λ r e h q. rw e, (λ r e h q. rw e, (λ r e h q. rw e, (λ r e h q. rw e, tt)))))))

by_kinds : All (λ x. Unlearnt x.0 x.1) kinds
unfolding clause_in
by_kinds = (
  λ r e h q. clash (cc),
  (
    λ r e h q. clash (cc),
    (
      λ r e h q. clash (cc),
      (
        λ r e h q. clash (cc),
        (
          λ r e h q. clash (cc),
          (
            λ r e h q. clash (cc),
            (
              λ r e h q. clash (cc),
              (
                λ r e h q. clash (cc),
                (λ r e h q. rw e, (λ r e h q. rw e, (λ r e h q. clash (cc), from_nineteen))),
              ),
            ),
          ),
        ),
      ),
    ),
  ),
)

kind_unlearnt : (r : Rec) (s : Shape) → shape_of r.kind ≡ some s → s.table ≡ Clauses → eqb r.kind 18 ≡ false → is_learnt (clause_in r) ≡ false
unfolding shape_of
kind_unlearnt r s e h q =
    let f : (x : Rec) → x.kind ≡ r.kind → s.table ≡ Clauses → eqb r.kind 18 ≡ false → is_learnt (clause_in x) ≡ false =
    subst (Unlearnt r.kind) e (by_row Unlearnt kinds by_kinds r.kind tt) in
    f r refl h q

at_in : (l : List Rec) (i : ℕ) → i < length l → In (at l i) l
at_in [] i h = absurd (not-suc-le-zero h)
at_in (x ∷ xs) zero h = inl refl
at_in (x ∷ xs) (suc i) h = inr (at_in xs i (le_of_suc-le-suc h))

not_both : (b d : Bool) → (b && d) ≡ false → d ≡ true → b ≡ false
not_both true d e q = no_both d q e
not_both false d e q = refl

module _ (file : List ℕ) (s : Sound file) where
  pub core_unlearnt : (i : ℕ) → core_at s.tables i ≡ true → is_learnt (clause_of s.tables i) ≡ false
  unfolding clause_of
  core_unlearnt i c =
      split (ltb i (length s.tables.clauses))
      (λ q. let h : i < length s.tables.clauses = ltb-true _ _ q in
      let r = at s.tables.clauses i in
      let w = (promise file s.tables s.reads).sound Clauses i h in
      let l : eqb r.kind 18 ≡ false = not_both (eqb r.kind 18) (eqb r.first 1) (sound_clauses file s r (at_in s.tables.clauses i h)) c in
      kind_unlearnt r w.shape w.known w.mine l)
      (λ q. let h : length s.tables.clauses ≤ i = ltb-false _ _ q in
      let e : at s.tables.clauses i ≡ no_rec = get_or-eq_default s.tables.clauses no_rec h in
      let z : core_at s.tables i ≡ false = ap in_core e in
      no_both (core_at s.tables i) c z)

-- ---- building

stopped_eight : (x : ClauseStep) (k : ℕ) → expanded x ≡ halt k → k ≡ 8
stopped_eight (on b) k e = clash (cc)
stopped_eight stop k e = cc

module _ (T : Tables) (h : (i : ℕ) → core_at T i ≡ true → is_learnt (clause_of T i) ≡ false) where
  turn_eight : (i : ℕ) (b : Build) (k : ℕ) → turn_at T i b ≡ halt k → k ≡ 8
  unfolding turn_at
  turn_eight i b k e = by_core (core_at T i) refl e
    where
      by_learnt : (l : Bool) → l ≡ false
          → elim l as (λ _. Turned) [ true ↦ halt 7 | false ↦ expanded (expand T (clause_of T i) (handed i b)) ] ≡ halt k → k ≡ 8
      by_learnt true q f = no_both true refl q
      by_learnt false q f = stopped_eight (expand T (clause_of T i) (handed i b)) k f

      by_core : (c : Bool) → core_at T i ≡ c → elim c as (λ _. Turned) [ false ↦ go b | true ↦ core_turn T (clause_of T i) (handed i b) ] ≡ halt k → k ≡ 8
      by_core true q f = by_learnt (is_learnt (clause_of T i)) (h i q) f
      by_core false q f = clash (cc)

  build_eight : (n i : ℕ) (b : Build) (k p : ℕ) → build_from n T i b ≡ stopped k p → k ≡ 8
  unfolding build_from
  build_eight zero i b k p e = clash (cc)
  build_eight (suc n) i b k p e = by_turn (λ d q. build_eight n (suc i) d k p q) (turn_at T i b) refl e
    where
      by_turn : ((d : Build) → build_from n T (suc i) d ≡ stopped k p → k ≡ 8) → (t : Turned) → turn_at T i b ≡ t
          → elim t as (λ _. Built) [ halt j ↦ stopped j i | go d ↦ build_from n T (suc i) d ] ≡ stopped k p → k ≡ 8
      by_turn rest (go d) q f = rest d f
      by_turn rest (halt j) q f = let z : j ≡ k = cc in turn_eight i b k (rw z at q)

  -- what building refuses then
  pub eight_or_nine : (k p : ℕ) → graph_of T ≡ refused k p → (k ≡ 8) ⊎ (k ≡ 9)
  unfolding graph_of build_of reached_all
  eight_or_nine k p e = by_built (build_of T) refl e
    where
      by_reach : (g : Graph) (o : Option ℕ) → elim o as (λ _. Outcome) [ none ↦ drawn g | some n ↦ refused 9 n ] ≡ refused k p → (k ≡ 8) ⊎ (k ≡ 9)
      by_reach g none f = clash (cc)
      by_reach g (some n) f = inr cc

      by_built : (x : Built) → build_of T ≡ x → elim x as (λ _. Outcome) [ stopped j i ↦ refused j i | built b ↦ reached_all (settle b.graph) ] ≡ refused k p
          → (k ≡ 8) ⊎ (k ≡ 9)
      by_built (stopped j i) q f = let z : j ≡ k = cc in inl (build_eight (length T.clauses) 0 start_build k i (rw z at q))
      by_built (built b) q f = by_reach (settle b.graph) (unreached (settle b.graph)) f

-- ---- the file

-- a sound file is drawn, or gets 8 or 9
pub sound_never : (file : List ℕ) → Sound file → (k p : ℕ) → outcome_of file ≡ refused k p → (k ≡ 8) ⊎ (k ≡ 9)
unfolding outcome_of
sound_never file s k p e = eight_or_nine s.tables (core_unlearnt file s) k p (sym (ap outcome_by s.reads) ∙ e)

-- "A repaired file never gets 1 to 7": out stands in the room of a call that is done
pub repaired_never : (file room list : List ℕ) → (salvage_answer file (length room) (length list)).number ≡ 0
    → (k p : ℕ) → outcome_of (out_in file room list) ≡ refused k p → (k ≡ 8) ⊎ (k ≡ 9)
repaired_never file room list h = sound_never (out_in file room list) (done_sound file room list h)
