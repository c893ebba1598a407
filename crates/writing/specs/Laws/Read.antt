-- One record more of a reading, by the two ways that it goes, and what it keeps of the tables' sizes.
use Rattle.std.specs.Prelude.{◌≡◌, Err, Ok, refl, List, [], ◌∷◌, ℕ, zero, suc, ◌≤◌, ◌<◌, length}
use Rattle.std.proofs.Common.{sym, ap, ◌∙◌, subst, arith, ltb-true}
use Rattle.std.proofs.Math.Option.{Option, none, some}
use Rattle.basis.specs.Lists.{snoc}
use Rattle.basis.specs.Members.{split, clash}
use Rattle.records.specs.declared.Table.{Table}
use Rattle.records.specs.declared.Table.TheVariants.{Names, Solvables, VersionSets, Requirements, Candidates, Reasons, Variables, Assigned, Clauses}
use Rattle.records.specs.declared.Shape.{Shape}
use Rattle.records.specs.declared.Refusal.{Refusal}
use Rattle.records.specs.declared.Refusal.TheVariants.{UnknownKind}
use Rattle.records.specs.Pass.{number_of}
use Rattle.records.specs.Shapes.{Rec, shape_of, limit}
use Rattle.records.specs.Tables.{Tables, no_tables, table_of, put}
use Rattle.records.specs.Read.{good, bad, read_from, refusal_in}
use Rattle.records.specs.Steps.{Passed, passed, read_unknown, read_next, read_stop}
use Rattle.records.specs.Agree.{step_of, refusal_by, refusal_number}
use Rattle.records.specs.Laws.Step.{step_in}
use Rattle.index.specs.Steps.{is_in, table_put, its_table, each_table}
use Rattle.writing.specs.Laws.Ordered.{grown}
use Rattle.writing.specs.Laws.Accepted.{total}

module _ (T : Tables) (r : Rec) where
  step_some : (s : Shape) → shape_of r.kind ≡ some s → step_in T r ≡ step_of (refusal_in T s r) s.table
  unfolding step_in
  step_some s e = rw e

  step_none : shape_of r.kind ≡ none → step_in T r ≡ Err UnknownKind
  unfolding step_in
  step_none e = rw e

  -- the record is refused, or goes into its table
  pub by_step : {X : Type 0}
      → ((k : Refusal) → step_in T r ≡ Err k → ((rs : List Rec) (i : ℕ) → read_from (r ∷ rs) i T ≡ bad (number_of k) i) → X)
      → ((s : Shape) → shape_of r.kind ≡ some s → Passed T r s → step_in T r ≡ Ok s.table
      → ((rs : List Rec) (i : ℕ) → read_from (r ∷ rs) i T ≡ read_from rs (suc i) (put s.table r T)) → X)
      → X
  by_step {X} f g = go (shape_of r.kind) refl
    where
      known : (s : Shape) → shape_of r.kind ≡ some s → (n : ℕ) → refusal_in T s r ≡ n → X
      known s e zero q = g s e (passed T r s e q) (step_some s e ∙ ap (λ (n : ℕ). step_of n s.table) q) (λ rs i. read_next r rs i T s e q)
      known s e (suc n) q =
          f (refusal_by (suc n)) (step_some s e ∙ ap (λ (n : ℕ). step_of n s.table) q)
          (λ rs i. read_stop r rs i T s e n q ∙ ap (λ (k : ℕ). bad k i) (refusal_number T s r n q))

      go : (o : Option Shape) → shape_of r.kind ≡ o → X
      go none e = f UnknownKind (step_none e) (λ rs i. read_unknown r rs i T e)
      go (some s) e = known s e (refusal_in T s r) refl

-- a refusal has a number
pub read_numbered : (rs : List Rec) (i : ℕ) (T : Tables) (n p : ℕ) → read_from rs i T ≡ bad n p → 1 ≤ n
unfolding read_from
read_numbered [] i T n p e = clash (no_bad e)
  where
    no_bad : {U : Tables} → good U ≡ bad n p → ◌≡◌ {A = ℕ} 0 1
    no_bad z = cc
read_numbered (r ∷ rs) i T n p e = go (λ U q. read_numbered rs (suc i) U n p q) (shape_of r.kind) refl
  where
    same : {k j : ℕ} → bad k j ≡ bad n p → k ≡ n
    same z = cc

    known : ((U : Tables) → read_from rs (suc i) U ≡ bad n p → 1 ≤ n) → (s : Shape) → shape_of r.kind ≡ some s → (k : ℕ) → refusal_in T s r ≡ k → 1 ≤ n
    known f s o zero q = f (put s.table r T) (sym (read_next r rs i T s o q) ∙ e)
    known f s o (suc k) q = let z : suc k ≡ n = same (sym (read_stop r rs i T s o k q) ∙ e) in omega arith

    go : ((U : Tables) → read_from rs (suc i) U ≡ bad n p → 1 ≤ n) → (o : Option Shape) → shape_of r.kind ≡ o → 1 ≤ n
    go f none q = let z : 2 ≡ n = same (sym (read_unknown r rs i T q) ∙ e) in omega arith
    go f (some s) q = known f s q (refusal_in T s r) refl

-- "Tables (limit)"
abbrev pub TablesWithin : Tables → Type 0
TablesWithin T = (t : Table) → length (table_of t T) ≤ limit t

pub within_none : TablesWithin no_tables
within_none =
    each_table (λ t. length (table_of t no_tables) ≤ limit t) (omega arith) (omega arith) (omega arith) (omega arith) (omega arith) (omega arith) (omega arith)
    (omega arith) (omega arith)

pub within_put : (T : Tables) (r : Rec) (s : Shape) → shape_of r.kind ≡ some s → Passed T r s → TablesWithin T → TablesWithin (put s.table r T)
within_put T r s e f w u =
    let p = table_put u r s T e in
    split (is_in u r)
    (λ q.
    let z : s.table ≡ u = its_table u r s e q in
    let l : length (table_of u T) < limit u = subst (λ (t : Table). length (table_of t T) < limit t) z (ltb-true _ _ f.room) in
    let g : suc (length (table_of u T)) ≡ length (snoc (table_of u T) r) = grown (table_of u T) r in
    let y : length (table_of u (put s.table r T)) ≡ length (snoc (table_of u T) r) = ap length (rw q at p) in
    omega arith)
    (λ q. rw (rw q at p) (w u))

-- no table holds more than 1,024 records, and there are nine
pub total_few : (T : Tables) → TablesWithin T → total T < 65536
total_few T w =
    let a = w Names in let b = w Solvables in let c = w VersionSets in let d = w Requirements in let e = w Candidates in
    let f = w Reasons in let g = w Variables in let h = w Assigned in let i = w Clauses in
    omega arith
