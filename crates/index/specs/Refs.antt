-- Every number that the graph part follows is below the length of its table. The theorem is `references`, at the end: what a clause
-- names, what a variable stands for, the clause that assigned it, candidates, partners and names. So what the definitions of `Views`
-- say past the end of a table is never looked at.
use Rattle.std.specs.Prelude.{◌≡◌, Bool, true, false, not, ◌&&◌, ◌||◌, List, [], ◌∷◌, map, ℕ, zero, suc, ◌<◌, ltb}
use Rattle.std.proofs.Math.Path.{refl}
use Rattle.std.proofs.Common.{ap, arith, eqb-true, eq-eqb, ltb-true, ltb-false}
use Rattle.std.proofs.Math.Option.{Option, none, some}
use Rattle.std.proofs.Math.ListN.{length, get_or-eq_default}
use Rattle.std.proofs.Math.Dec.{eqb}
use Rattle.basis.specs.Lists.{all, filter, first}
use Rattle.basis.specs.Members.{split, clash, All}
use Rattle.records.specs.declared.Table.{Table}
use Rattle.records.specs.declared.Table.TheVariants.{Names, Solvables, VersionSets, Requirements, Candidates, Reasons, Variables, Assigned}
use Rattle.records.specs.declared.Table.TheVariants.{Clauses}
use Rattle.records.specs.declared.Allowed.{Allowed}
use Rattle.records.specs.declared.Allowed.TheVariants as A
use Rattle.records.specs.declared.Slot.{Slot}
use Rattle.records.specs.declared.Slot.TheVariants as S
use Rattle.records.specs.declared.Shape.{Shape}
use Rattle.records.specs.declared.Origin.{Origin}
use Rattle.records.specs.declared.Origin.TheVariants.{Root, Solvable, ForbidMultiple, RequiresGate, ConstrainsAuxiliary, Other}
use Rattle.records.specs.declared.Clause.{Clause}
use Rattle.records.specs.declared.Clause.TheVariants as C
use Rattle.records.specs.Shapes.{Rec, shape_of, kinds}
use Rattle.records.specs.Tables.{Tables, table_of, at, no_rec}
use Rattle.records.specs.Read.{allows}
use Rattle.records.specs.Steps.{both_left, both_right}
use Rattle.records.specs.Views.{origin_by, origin_of, clause_in, clause_of, in_core, assigned_by, candidates_of, gate_partners, aux_partners}
use Rattle.records.specs.Views.{solvable_name, set_name}
use Rattle.index.specs.Steps.{table_no, each_kind, same_table, on_shape, shape_has}
use Rattle.index.specs.Promise.{Valid, Sound, Right}

-- ---- a clause

-- x is a variable whose origin the slot allows
abbrev pub Var : Tables → Allowed → ℕ → Type 0
Var T o x = (x < length T.variables) × (allows o (at T.variables x).b ≡ true)

abbrev pub Refs : Tables → Clause → Type 0
Refs T C.InstallRoot = Unit {0}
Refs T (C.Excluded a b) = Var T A.Solvable a × (b < length T.reasons)
Refs T C.Learnt = Unit {0}
Refs T (C.Requires a b) = Var T A.Requirer a × (b < length T.requirements)
Refs T (C.Lock a b) = Var T A.Solvable a × Var T A.Solvable b
Refs T (C.ForbidMultipleInstances a b) = Var T A.Solvable a × Var T A.ForbidMultiple b
Refs T (C.Constrains a b c) = Var T A.SolvableOrRoot a × Var T A.Solvable b × (c < length T.version_sets)
Refs T (C.ConstrainsParent a b c) = Var T A.SolvableOrRoot a × Var T A.Auxiliary b × (c < length T.version_sets)
Refs T (C.ConstrainsExcluded a b c) = Var T A.Solvable a × Var T A.Auxiliary b × (c < length T.version_sets)
Refs T (C.AnyOf a b) = Var T A.Any a × Var T A.Any b

-- the slots of the kinds of clauses
slots_17 : (s : Shape) → shape_of 17 ≡ some s → (s.a ≡ S.Variable A.Solvable) × (s.b ≡ S.Names Reasons)
unfolding shape_of
slots_17 s e = (cc, cc)

slots_19 : (s : Shape) → shape_of 19 ≡ some s → (s.a ≡ S.Variable A.Requirer) × (s.b ≡ S.Names Requirements)
unfolding shape_of
slots_19 s e = (cc, cc)

slots_20 : (s : Shape) → shape_of 20 ≡ some s → (s.a ≡ S.Variable A.Solvable) × (s.b ≡ S.Variable A.Solvable)
unfolding shape_of
slots_20 s e = (cc, cc)

slots_21 : (s : Shape) → shape_of 21 ≡ some s → (s.a ≡ S.Variable A.Solvable) × (s.b ≡ S.Variable A.ForbidMultiple)
unfolding shape_of
slots_21 s e = (cc, cc)

slots_22 : (s : Shape) → shape_of 22 ≡ some s
    → (s.a ≡ S.Variable A.SolvableOrRoot) × (s.b ≡ S.Variable A.Solvable) × (s.c ≡ S.Names VersionSets)
unfolding shape_of
slots_22 s e = (cc, cc, cc)

slots_23 : (s : Shape) → shape_of 23 ≡ some s
    → (s.a ≡ S.Variable A.SolvableOrRoot) × (s.b ≡ S.Variable A.Auxiliary) × (s.c ≡ S.Names VersionSets)
unfolding shape_of
slots_23 s e = (cc, cc, cc)

slots_24 : (s : Shape) → shape_of 24 ≡ some s
    → (s.a ≡ S.Variable A.Solvable) × (s.b ≡ S.Variable A.Auxiliary) × (s.c ≡ S.Names VersionSets)
unfolding shape_of
slots_24 s e = (cc, cc, cc)

slots_25 : (s : Shape) → shape_of 25 ≡ some s → (s.a ≡ S.Variable A.Any) × (s.b ≡ S.Variable A.Any)
unfolding shape_of
slots_25 s e = (cc, cc)

module _ (T : Tables) (i : ℕ) (r : Rec) (h : Sound T Clauses i r) where
  of_kind : (k : ℕ) → r.kind ≡ k → shape_of k ≡ some h.shape
  of_kind k e = rw e at h.known

  refs_17 : r.kind ≡ 17 → Refs T (C.Excluded r.a r.b)
  refs_17 e =
      let y = slots_17 h.shape (of_kind 17 e) in
      (rw y.0 at h.right_a, rw y.1 at h.right_b)

  refs_19 : r.kind ≡ 19 → Refs T (C.Requires r.a r.b)
  refs_19 e =
      let y = slots_19 h.shape (of_kind 19 e) in
      (rw y.0 at h.right_a, rw y.1 at h.right_b)

  refs_20 : r.kind ≡ 20 → Refs T (C.Lock r.a r.b)
  refs_20 e =
      let y = slots_20 h.shape (of_kind 20 e) in
      (rw y.0 at h.right_a, rw y.1 at h.right_b)

  refs_21 : r.kind ≡ 21 → Refs T (C.ForbidMultipleInstances r.a r.b)
  refs_21 e =
      let y = slots_21 h.shape (of_kind 21 e) in
      (rw y.0 at h.right_a, rw y.1 at h.right_b)

  refs_22 : r.kind ≡ 22 → Refs T (C.Constrains r.a r.b r.c)
  refs_22 e =
      let y = slots_22 h.shape (of_kind 22 e) in
      (rw y.0 at h.right_a, rw y.1 at h.right_b, rw y.2 at h.right_c)

  refs_23 : r.kind ≡ 23 → Refs T (C.ConstrainsParent r.a r.b r.c)
  refs_23 e =
      let y = slots_23 h.shape (of_kind 23 e) in
      (rw y.0 at h.right_a, rw y.1 at h.right_b, rw y.2 at h.right_c)

  refs_24 : r.kind ≡ 24 → Refs T (C.ConstrainsExcluded r.a r.b r.c)
  refs_24 e =
      let y = slots_24 h.shape (of_kind 24 e) in
      (rw y.0 at h.right_a, rw y.1 at h.right_b, rw y.2 at h.right_c)

  refs_25 : r.kind ≡ 25 → Refs T (C.AnyOf r.a r.b)
  refs_25 e =
      let y = slots_25 h.shape (of_kind 25 e) in
      (rw y.0 at h.right_a, rw y.1 at h.right_b)

  clause_refs : Refs T (clause_in r)
  unfolding clause_in
  clause_refs =
      split (eqb r.kind 16) (λ q. rw q tt) (λ n16.
      split (eqb r.kind 17) (λ q. rw (n16, q) (refs_17 (eqb-true r.kind 17 q))) (λ n17.
      split (eqb r.kind 19) (λ q. rw (n16, n17, q) (refs_19 (eqb-true r.kind 19 q))) (λ n19.
      split (eqb r.kind 20) (λ q. rw (n16, n17, n19, q) (refs_20 (eqb-true r.kind 20 q))) (λ n20.
      split (eqb r.kind 21) (λ q. rw (n16, n17, n19, n20, q) (refs_21 (eqb-true r.kind 21 q))) (λ n21.
      split (eqb r.kind 22) (λ q. rw (n16, n17, n19, n20, n21, q) (refs_22 (eqb-true r.kind 22 q))) (λ n22.
      split (eqb r.kind 23) (λ q. rw (n16, n17, n19, n20, n21, n22, q) (refs_23 (eqb-true r.kind 23 q))) (λ n23.
      split (eqb r.kind 24) (λ q. rw (n16, n17, n19, n20, n21, n22, n23, q) (refs_24 (eqb-true r.kind 24 q))) (λ n24.
      split (eqb r.kind 25) (λ q. rw (n16, n17, n19, n20, n21, n22, n23, n24, q) (refs_25 (eqb-true r.kind 25 q))) (λ n25.
      rw (n16, n17, n19, n20, n21, n22, n23, n24, n25) tt)))))))))

pub clause_right : (T : Tables) → Valid T → (i : ℕ) → Refs T (clause_of T i)
unfolding clause_of clause_in
clause_right T v i =
    split (ltb i (length T.clauses))
    (λ q. clause_refs T i (at T.clauses i) (v.sound Clauses i (ltb-true i (length T.clauses) q)))
    (λ q. rw (get_or-eq_default T.clauses no_rec {n = i} (ltb-false i (length T.clauses) q)) tt)

-- ---- an origin

variable_slots : (k : ℕ) (s : Shape) → shape_of k ≡ some s → s.table ≡ Variables → (s.b ≡ S.Origin) × (s.c ≡ S.Named)
variable_slots =
    each_kind (λ o. (s : Shape) → o ≡ some s → s.table ≡ Variables → (s.b ≡ S.Origin) × (s.c ≡ S.Named)) (
      λ s e h. (cc, cc),
      (
        λ s e h. (cc, cc),
        (
          λ s e h. (cc, cc),
          (
            λ s e h. (cc, cc),
            (
              λ s e h. (cc, cc),
              (
                λ s e h. (cc, cc),
                (
                  λ s e h. (cc, cc),
                  (
                    λ s e h. (cc, cc),
                    (
                      λ s e h. (cc, cc),
                      (
                        λ s e h. (cc, cc),
                        (
                          λ s e h. (cc, cc),
                          (
                            λ s e h. (cc, cc),
                            (
                              λ s e h. (cc, cc),
                              (
                                λ s e h. (cc, cc),
                                (
                                  λ s e h. (cc, cc),
                                  (
                                    λ s e h. (cc, cc),
                                    (
                                      λ s e h. (cc, cc),
                                      (
                                        λ s e h. (cc, cc),
                                        tt,
                                      ),
                                    ),
                                  ),
                                ),
                              ),
                            ),
                          ),
                        ),
                      ),
                    ),
                  ),
                ),
              ),
            ),
          ),
        ),
      ),
    )
    (λ s e h. (cc, cc))

-- the number that an origin names
abbrev pub Named : Tables → Origin → Type 0
Named T Root = Unit {0}
Named T (Solvable s) = s < length T.solvables
Named T (ForbidMultiple n) = n < length T.names
Named T RequiresGate = Unit {0}
Named T ConstrainsAuxiliary = Unit {0}
Named T Other = Unit {0}

origin_in : (T : Tables) (b c : ℕ) → (b ≡ 1 → c < length T.solvables) → (b ≡ 2 → c < length T.names) → Named T (origin_by b c)
origin_in T zero c p q = tt
origin_in T (suc zero) c p q = p refl
origin_in T (suc (suc zero)) c p q = q refl
origin_in T (suc (suc (suc zero))) c p q = tt
origin_in T (suc (suc (suc (suc zero)))) c p q = tt
origin_in T (suc (suc (suc (suc (suc b))))) c p q = tt

variable_named : (T : Tables) (i : ℕ) (r : Rec) → Sound T Variables i r → Named T (origin_by r.b r.c)
variable_named T i r h =
    let c : Right T i S.Named r r.c = rw (variable_slots r.kind h.shape h.known h.mine).1 at h.right_c in
    origin_in T r.b r.c c.0 c.1

pub origin_right : (T : Tables) → Valid T → (v : ℕ) → Named T (origin_of T v)
unfolding origin_of
origin_right T w v =
    split (ltb v (length T.variables))
    (λ q. variable_named T v (at T.variables v) (w.sound Variables v (ltb-true v (length T.variables) q)))
    (λ q. rw (get_or-eq_default T.variables no_rec {n = v} (ltb-false v (length T.variables) q)) tt)

-- ---- the records of a table, one by one

-- what holds at each place holds of each record
all_at : (P : Rec → Type 0) (xs : List Rec) → ((i : ℕ) → i < length xs → P (at xs i)) → All P xs
all_at P [] h = tt
all_at P (x ∷ xs) h = (h 0 (omega arith), all_at P xs (λ i l. h (suc i) (omega arith)))

some_same : (x g : Rec) → some x ≡ some g → x ≡ g
some_same x g e = cc

-- of the first that passes
first_has : (P : Rec → Type 0) (p : Rec → Bool) (xs : List Rec) → All P xs → (g : Rec) → first p xs ≡ some g → P g
first_has P p [] a g e = clash (cc)
first_has P p (x ∷ xs) a g e =
    split (p x)
    (λ q. rw (some_same x g (rw (q, first) at e)) at a.0)
    (λ q. first_has P p xs a.1 g (rw (q, first) at e))

-- of what all that pass name
named_has : (P : Rec → Type 0) (Q : ℕ → Type 0) (p : Rec → Bool) (f : Rec → ℕ) (xs : List Rec) → All P xs
    → ((r : Rec) → P r → p r ≡ true → Q (f r)) → All Q (map f (filter p xs))
named_has P Q p f [] a h = tt
named_has P Q p f (x ∷ xs) a h =
    let rest = named_has P Q p f xs a.1 h in
    split (p x) (λ q. rw (q, filter) (h x a.0 q, rest)) (λ q. rw (q, filter) rest)

-- ---- field b of the records of table t names a record of table u, if each shape of t says so

abbrev names_in : Table → Slot → Bool
names_in u S.Unused = false
names_in u S.Own = false
names_in u (S.Names t) = eqb (table_no t) (table_no u)
names_in u (S.Variable o) = false
names_in u S.Origin = false
names_in u S.Named = false
names_in u S.Unassigned = false

abbrev asks_b : Table → Table → Shape → Bool
asks_b t u x = not (eqb (table_no x.table) (table_no t)) || names_in u x.b

names_in_lem : (T : Tables) (i : ℕ) (u : Table) (s : Slot) (r : Rec) (x : ℕ) → names_in u s ≡ true → Right T i s r x → x < length (table_of u T)
names_in_lem T i u S.Unused r x e h = clash (cc)
names_in_lem T i u S.Own r x e h = clash (cc)
names_in_lem T i u (S.Names t) r x e h = rw (same_table t u (eqb-true (table_no t) (table_no u) e)) at h
names_in_lem T i u (S.Variable o) r x e h = clash (cc)
names_in_lem T i u S.Origin r x e h = clash (cc)
names_in_lem T i u S.Named r x e h = clash (cc)
names_in_lem T i u S.Unassigned r x e h = clash (cc)

b_below : (t u : Table) → all (λ x. on_shape (asks_b t u) x.1) kinds ≡ true
    → (T : Tables) (i : ℕ) (r : Rec) → Sound T t i r → r.b < length (table_of u T)
b_below t u c T i r h =
    let m : eqb (table_no h.shape.table) (table_no t) ≡ true = eq-eqb _ _ (ap table_no h.mine) in
    names_in_lem T i u h.shape.b r r.b (rw m at (shape_has (asks_b t u) c r.kind h.shape h.known)) h.right_b

-- ---- the theorem

pub record References (T : Tables) : Type 0 where
  -- what a clause names, its variables with an origin that is allowed there
  pub clauses : (i : ℕ) → Refs T (clause_of T i)
  -- the solvable or the name that a variable stands for
  pub origins : (v : ℕ) → Named T (origin_of T v)
  -- the clause that assigned a variable
  pub assigned : (v i : ℕ) → assigned_by T v ≡ some i → i < length T.clauses
  -- the candidates of a requirement
  pub candidates : (q : ℕ) → All (λ s. s < length T.solvables) (candidates_of T q)
  -- the partners of a gate and of an auxiliary
  pub gates : (v : ℕ) → All (λ x. x < length T.variables) (gate_partners T v)
  pub parents : (v : ℕ) → All (λ x. x < length T.variables) (aux_partners T 23 v)
  pub excluded : (v : ℕ) → All (λ x. x < length T.variables) (aux_partners T 24 v)
  -- the name of a solvable and of a version set
  pub solvable_names : (s : ℕ) → s < length T.solvables → solvable_name T s < length T.names
  pub set_names : (v : ℕ) → v < length T.version_sets → set_name T v < length T.names

module _ (T : Tables) (v : Valid T) where
  -- each record of a table is sound, at some place
  abbrev SoundIn : Table → Rec → Type 0
  SoundIn t r = (i : ℕ) × Sound T t i r

  all_sound : (t : Table) → All (SoundIn t) (table_of t T)
  all_sound t = all_at (SoundIn t) (table_of t T) (λ i l. (i, v.sound t i l))

  assigned_below : (x i : ℕ) → assigned_by T x ≡ some i → i < length T.clauses
  unfolding assigned_by
  assigned_below x i e = by (first (λ g. eqb g.a x) T.assigned) refl e
    where
      by : (o : Option Rec) → first (λ g. eqb g.a x) T.assigned ≡ o
          → elim o as (λ _. Option ℕ) [ none ↦ none | some g ↦ some g.b ] ≡ some i → i < length T.clauses
      by none q h = clash (cc)
      by (some g) q h =
          let s : SoundIn Assigned g = first_has (SoundIn Assigned) (λ y. eqb y.a x) T.assigned (all_sound Assigned) g q in
          let z : g.b ≡ i = number_same g.b i h in
          rw z at (b_below Assigned Clauses refl T s.0 g s.1)
        where
          number_same : (m n : ℕ) → some m ≡ some n → m ≡ n
          number_same m n e = cc

  candidates_below : (q : ℕ) → All (λ s. s < length T.solvables) (candidates_of T q)
  unfolding candidates_of
  candidates_below q =
      named_has (SoundIn Candidates) (λ s. s < length T.solvables) (λ r. eqb r.a q) (λ r. r.b) T.candidates (all_sound Candidates)
      (λ r s e. b_below Candidates Solvables refl T s.0 r s.1)

  -- the kind of a partner
  partner_kind : (r : Rec) (k : ℕ) (c : Bool) → in_core r && (eqb r.kind k && c) ≡ true → r.kind ≡ k
  partner_kind r k c e = eqb-true r.kind k (both_left (eqb r.kind k) c (both_right (in_core r) (eqb r.kind k && c) e))

  gates_below : (x : ℕ) → All (λ y. y < length T.variables) (gate_partners T x)
  unfolding gate_partners
  gates_below x =
      named_has (SoundIn Clauses) (λ y. y < length T.variables) (λ r. in_core r && (eqb r.kind 25 && eqb r.a x)) (λ r. r.b)
      T.clauses (all_sound Clauses)
      (λ r s e. (refs_25 T s.0 r s.1 (partner_kind r 25 (eqb r.a x) e)).1.0)

  parents_below : (x : ℕ) → All (λ y. y < length T.variables) (aux_partners T 23 x)
  unfolding aux_partners
  parents_below x =
      named_has (SoundIn Clauses) (λ y. y < length T.variables) (λ r. in_core r && (eqb r.kind 23 && eqb r.b x)) (λ r. r.a)
      T.clauses (all_sound Clauses)
      (λ r s e. (refs_23 T s.0 r s.1 (partner_kind r 23 (eqb r.b x) e)).0.0)

  excluded_below : (x : ℕ) → All (λ y. y < length T.variables) (aux_partners T 24 x)
  unfolding aux_partners
  excluded_below x =
      named_has (SoundIn Clauses) (λ y. y < length T.variables) (λ r. in_core r && (eqb r.kind 24 && eqb r.b x)) (λ r. r.a)
      T.clauses (all_sound Clauses)
      (λ r s e. (refs_24 T s.0 r s.1 (partner_kind r 24 (eqb r.b x) e)).0.0)

  pub references : References T
  references =
      record {
        clauses = clause_right T v;
        origins = origin_right T v;
        assigned = assigned_below;
        candidates = candidates_below;
        gates = gates_below;
        parents = parents_below;
        excluded = excluded_below;
        solvable_names = λ s l. b_below Solvables Names refl T s (at T.solvables s) (v.sound Solvables s l);
        set_names = λ x l. b_below VersionSets Names refl T x (at T.version_sets x) (v.sound VersionSets x l);
      }
