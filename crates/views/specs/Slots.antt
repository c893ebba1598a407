-- From the slots of a loaded index to the views: the laws of the accessors, one for each.
use Rattle.std.specs.Prelude.{◌≡◌, refl, Bool, true, false, cond, List, ℕ, zero, suc, ◌+◌, ◌-◌, ◌≤◌, ◌<◌, length, ltb}
use Rattle.std.proofs.Common.{sym, ◌∙◌}
use Rattle.std.proofs.Math.Path.{ap}
use native.Mathlib.Omega.{arith}
use borrow.Author.Tests.{ltb-true, ltb-false, ne_eqb}
use Rattle.basis.specs.Members.{split}
use Rattle.basis.specs.Chains.{oldest, oldest_past}
use Rattle.records.specs.declared.Table.TheVariants.{Candidates, Clauses}
use Rattle.records.specs.declared.Origin.{Origin}
use Rattle.records.specs.declared.Origin.TheVariants.{Root, Solvable, ForbidMultiple, RequiresGate, ConstrainsAuxiliary, Other}
use Rattle.records.specs.declared.Clause.{Clause}
use Rattle.records.specs.declared.Clause.TheVariants as C
use Rattle.records.specs.Shapes.{Rec, records_of}
use Rattle.records.specs.Tables.{Tables, at}
use Rattle.records.specs.Read.{tables_of}
use Rattle.records.specs.Views.{origin_by, origin_of, clause_in, clause_of, in_core}
use Rattle.index.specs.Index.{Loaded, link_of, placed, record_no, candidate_key, partner_key}
use Rattle.index.specs.Found.{loaded_valid, found, variable_b, variable_c}
use Rattle.views.specs.Walks.{oldest_le, link_le, first_candidate, next_candidate, first_gate, first_parent, first_excluded, next_partner}

-- ---- chains

link_past : (key : ℕ → ℕ) (keys m k : ℕ) → m ≤ k → 0 ≡ link_of key keys m k
unfolding link_of
link_past key keys m k h = split (ltb (key k) keys) (λ t. rw t (sym (oldest_past key (suc k) m (key k) (omega arith)))) (λ t. rw t)

module _ (file ix : List ℕ) (l : Loaded file ix) where
  abbrev tables : Tables
  tables = tables_of file

  pub first_candidate_lem : (k q r : ℕ) → r ≡ placed 5056 256 ix k → k ≡ q → r ≡ first_candidate (tables_of file) q
  unfolding placed first_candidate
  first_candidate_lem k q r e z =
      rw (← z) (split (ltb k 256) (λ t. rw t (rw t at e ∙ l.candidates.head k (ltb-true k 256 t))) (λ t. rw t (rw t at e)))

  pub next_candidate_lem : (k r : ℕ) → r ≡ placed 5312 1024 ix k → r ≡ next_candidate (tables_of file) k
  unfolding placed next_candidate
  next_candidate_lem k r e =
      split (ltb k 1024)
      (λ t. rw t at e ∙ l.candidates.link k (ltb-true k 1024 t))
      (λ t. rw t at e ∙ link_past (candidate_key (tables_of file)) 256 (length (tables_of file).candidates) k (omega (
        arith,
        ltb-false k 1024 t,
        (loaded_valid file ix l).within Candidates,
      )))

  pub next_partner_lem : (k r : ℕ) → r ≡ placed 9408 1024 ix k → r ≡ next_partner (tables_of file) k
  unfolding placed next_partner
  next_partner_lem k r e =
      split (ltb k 1024)
      (λ t. rw t at e ∙ l.partners.link k (ltb-true k 1024 t))
      (λ t. rw t at e ∙ link_past (partner_key (tables_of file)) 3072 (length (tables_of file).clauses) k (omega (
        arith,
        ltb-false k 1024 t,
        (loaded_valid file ix l).within Clauses,
      )))

  -- the heads of one kind of key, from m on
  heads : (m k r : ℕ) → m ≤ 2048 → r ≡ placed (6336 + m) 1024 ix k
      → r ≡ cond (ltb k 1024) (oldest (partner_key (tables_of file)) 0 (length (tables_of file).clauses) (m + k)) 0
  unfolding placed
  heads m k r h e =
      split (ltb k 1024)
      (λ t. let s : k < 1024 = ltb-true k 1024 t in let z : 6336 + m + k ≡ 6336 + (m + k) = omega arith in
      rw t (rw (t, z) at e ∙ l.partners.head (m + k) (omega arith)))
      (λ t. rw t (rw t at e))

  pub first_gate_lem : (k v r : ℕ) → r ≡ placed 6336 1024 ix k → k ≡ v → r ≡ first_gate (tables_of file) v
  unfolding first_gate
  first_gate_lem k v r e z = rw (← z) (heads 0 k r (omega arith) e ∙ let y : 0 + k ≡ k = omega arith in rw y)

  pub first_parent_lem : (k v r : ℕ) → r ≡ placed 7360 1024 ix k → k ≡ v → r ≡ first_parent (tables_of file) v
  unfolding first_parent
  first_parent_lem k v r e z = rw (← z) (heads 1024 k r (omega arith) e)

  pub first_excluded_lem : (k v r : ℕ) → r ≡ placed 8384 1024 ix k → k ≡ v → r ≡ first_excluded (tables_of file) v
  unfolding first_excluded
  first_excluded_lem k v r e z = rw (← z) (heads 2048 k r (omega arith) e)

  -- each of them is 0 or a number of the limit's at most
  head_small : (b : Bool) (key : ℕ → ℕ) (m n : ℕ) → m ≤ 1024 → cond b (oldest key 0 m n) 0 ≤ 1024
  head_small true key m n h = omega (arith, oldest_le key (m - 0) 0 m n refl)
  head_small false key m n h = omega arith

  pub candidate_head_small : (k r : ℕ) → r ≡ placed 5056 256 ix k → r ≤ 1024
  unfolding first_candidate
  candidate_head_small k r e =
      rw (first_candidate_lem k k r e refl) (head_small (ltb k 256) (candidate_key (tables_of file)) (length (tables_of file).candidates) k
      ((loaded_valid file ix l).within Candidates))

  pub candidate_link_small : (k r : ℕ) → r ≡ placed 5312 1024 ix k → r ≤ 1024
  unfolding next_candidate
  candidate_link_small k r e =
      omega (
        arith,
        next_candidate_lem k r e,
        (loaded_valid file ix l).within Candidates,
        link_le (candidate_key (tables_of file)) 256 (length (tables_of file).candidates) k,
      )

  pub partner_link_small : (k r : ℕ) → r ≡ placed 9408 1024 ix k → r ≤ 1024
  unfolding next_partner
  partner_link_small k r e =
      omega (arith, next_partner_lem k r e, (loaded_valid file ix l).within Clauses, link_le (partner_key (tables_of file)) 3072 (length (tables_of file).clauses) k)

  pub gate_small : (k r : ℕ) → r ≡ placed 6336 1024 ix k → r ≤ 1024
  unfolding first_gate
  gate_small k r e =
      rw (first_gate_lem k k r e refl) (head_small (ltb k 1024) (partner_key (tables_of file)) (length (tables_of file).clauses) k
      ((loaded_valid file ix l).within Clauses))

  pub parent_small : (k r : ℕ) → r ≡ placed 7360 1024 ix k → r ≤ 1024
  unfolding first_parent
  parent_small k r e =
      rw (first_parent_lem k k r e refl) (head_small (ltb k 1024) (partner_key (tables_of file)) (length (tables_of file).clauses) (1024
      + k) ((loaded_valid file ix l).within Clauses))

  pub excluded_small : (k r : ℕ) → r ≡ placed 8384 1024 ix k → r ≤ 1024
  unfolding first_excluded
  excluded_small k r e =
      rw (first_excluded_lem k k r e refl) (head_small (ltb k 1024) (partner_key (tables_of file)) (length (tables_of file).clauses) (2048
      + k) ((loaded_valid file ix l).within Clauses))

-- ---- an origin, by b and c of its record

module _ (file ix : List ℕ) (l : Loaded file ix) (k v i b : ℕ) (p : i ≡ record_no 1984 1024 ix k) (z : k ≡ v) (e : b ≡ (at (records_of file) i).b) where
  is_b : b ≡ (at (tables_of file).variables v).b
  is_b = variable_b file ix l k v i b e p z

  of : (o : Origin) → ((c : ℕ) → o ≡ origin_by b c) → o ≡ origin_of (tables_of file) v
  unfolding origin_of
  of o h = rw (← is_b) (h (at (tables_of file).variables v).c)

  pub origin_root : b ≡ 0 → Root ≡ origin_of (tables_of file) v
  origin_root q = of Root (λ c. rw q)

  module _ (c : ℕ) (f : c ≡ (at (records_of file) i).c) where
    is_c : c ≡ (at (tables_of file).variables v).c
    is_c = variable_c file ix l k v i c f p z

    pub origin_solvable : b ≡ 1 → Solvable c ≡ origin_of (tables_of file) v
    unfolding origin_of
    origin_solvable q = rw (← is_b, ← is_c, q)

    pub origin_forbid : b ≡ 2 → ForbidMultiple c ≡ origin_of (tables_of file) v
    unfolding origin_of
    origin_forbid q = rw (← is_b, ← is_c, q)

  pub origin_gate : b ≡ 3 → RequiresGate ≡ origin_of (tables_of file) v
  origin_gate q = of RequiresGate (λ c. rw q)

  pub origin_auxiliary : b ≡ 4 → ConstrainsAuxiliary ≡ origin_of (tables_of file) v
  origin_auxiliary q = of ConstrainsAuxiliary (λ c. rw q)

  pub origin_other : (b ≡ 0 → ⊥) → (b ≡ 1 → ⊥) → (b ≡ 2 → ⊥) → (b ≡ 3 → ⊥) → (b ≡ 4 → ⊥) → Other ≡ origin_of (tables_of file) v
  origin_other q0 q1 q2 q3 q4 = of Other (λ c. other b c q0 q1 q2 q3 q4)
    where
      other : (b c : ℕ) → (b ≡ 0 → ⊥) → (b ≡ 1 → ⊥) → (b ≡ 2 → ⊥) → (b ≡ 3 → ⊥) → (b ≡ 4 → ⊥) → Other ≡ origin_by b c
      other zero c q0 q1 q2 q3 q4 = absurd (q0 refl)
      other (suc zero) c q0 q1 q2 q3 q4 = absurd (q1 refl)
      other (suc (suc zero)) c q0 q1 q2 q3 q4 = absurd (q2 refl)
      other (suc (suc (suc zero))) c q0 q1 q2 q3 q4 = absurd (q3 refl)
      other (suc (suc (suc (suc zero)))) c q0 q1 q2 q3 q4 = absurd (q4 refl)
      other (suc (suc (suc (suc (suc b))))) c q0 q1 q2 q3 q4 = refl

pub ruleset origins = (origin_root, origin_solvable, origin_forbid, origin_gate, origin_auxiliary, origin_other)

-- ---- a clause, by its record

module _ (r : Rec) (k : ℕ) (e : k ≡ r.kind) where
  pub clause_root : k ≡ 16 → C.InstallRoot ≡ clause_in r
  unfolding clause_in
  clause_root q = rw (← e, q)

  module _ (a b : ℕ) (p : a ≡ r.a) (q : b ≡ r.b) where
    pub clause_excluded : k ≡ 17 → C.Excluded a b ≡ clause_in r
    unfolding clause_in
    clause_excluded h = rw (← e, h, p, q)

    pub clause_requires : k ≡ 19 → C.Requires a b ≡ clause_in r
    unfolding clause_in
    clause_requires h = rw (← e, h, p, q)

    pub clause_lock : k ≡ 20 → C.Lock a b ≡ clause_in r
    unfolding clause_in
    clause_lock h = rw (← e, h, p, q)

    pub clause_forbid : k ≡ 21 → C.ForbidMultipleInstances a b ≡ clause_in r
    unfolding clause_in
    clause_forbid h = rw (← e, h, p, q)

    pub clause_any : k ≡ 25 → C.AnyOf a b ≡ clause_in r
    unfolding clause_in
    clause_any h = rw (← e, h, p, q)

    module _ (c : ℕ) (s : c ≡ r.c) where
      pub clause_constrains : k ≡ 22 → C.Constrains a b c ≡ clause_in r
      unfolding clause_in
      clause_constrains h = rw (← e, h, p, q, s)

      pub clause_parent : k ≡ 23 → C.ConstrainsParent a b c ≡ clause_in r
      unfolding clause_in
      clause_parent h = rw (← e, h, p, q, s)

      pub clause_excluded_by : k ≡ 24 → C.ConstrainsExcluded a b c ≡ clause_in r
      unfolding clause_in
      clause_excluded_by h = rw (← e, h, p, q, s)

  pub clause_learnt : (k ≡ 16 → ⊥) → (k ≡ 17 → ⊥) → (k ≡ 19 → ⊥) → (k ≡ 20 → ⊥) → (k ≡ 21 → ⊥) → (k ≡ 22 → ⊥) → (k ≡ 23 → ⊥) → (k ≡ 24 → ⊥) → (k ≡ 25 → ⊥)
      → C.Learnt ≡ clause_in r
  unfolding clause_in
  clause_learnt h16 h17 h19 h20 h21 h22 h23 h24 h25 =
      rw (
        ← e,
        ne_eqb k 16 h16,
        ne_eqb k 17 h17,
        ne_eqb k 19 h19,
        ne_eqb k 20 h20,
        ne_eqb k 21 h21,
        ne_eqb k 22 h22,
        ne_eqb k 23 h23,
        ne_eqb k 24 h24,
        ne_eqb k 25 h25,
      )

pub ruleset clauses =
    (clause_root, clause_excluded, clause_requires, clause_lock, clause_forbid, clause_any, clause_constrains, clause_parent, clause_excluded_by, clause_learnt)

module _ (file ix : List ℕ) (l : Loaded file ix) (i j : ℕ) (p : j ≡ record_no 4032 1024 ix i) where
  its_record : at (records_of file) j ≡ at (tables_of file).clauses i
  its_record = ap (at (records_of file)) p ∙ found file ix l.based Clauses i (λ k. refl)

  pub clause_found_lem : (r : Clause) → r ≡ clause_in (at (records_of file) j) → r ≡ clause_of (tables_of file) i
  unfolding clause_of
  clause_found_lem r e = e ∙ ap clause_in its_record

  pub core_yes : (f : ℕ) → f ≡ (at (records_of file) j).first → f ≡ 1 → true ≡ in_core (at (tables_of file).clauses i)
  core_yes f e h = rw (← its_record, ← e, h)

  pub core_no : (f : ℕ) → f ≡ (at (records_of file) j).first → (f ≡ 1 → ⊥) → false ≡ in_core (at (tables_of file).clauses i)
  core_no f e h = rw (← its_record, ← e, ne_eqb f 1 h)
