-- The core with one more Excluded clause at its end, as tables: the graph that the rules build for it is the file's, with one link more.
use Rattle.std.specs.Prelude.{◌≡◌, ◌⊎◌, Bool, cond, ◌&&◌, get_or, ltb, Option, Some, None}
use Rattle.std.proofs.Math.Path.{refl, ap}
use Rattle.std.proofs.Common.{sym, ◌∙◌, subst, inl, inr, length-append}
use Rattle.std.proofs.Math.Bool.{true, false}
use mathlib.Core.List.{List, [], ◌∷◌, ◌++◌, map}
use Rattle.std.proofs.Math.Option.{Option as Maybe, none, some}
use Prim.Native.Nat.{ℕ, zero, suc, ◌+◌, ◌<◌, ◌≤◌}
use native.Mathlib.Omega.{arith}
use Rattle.std.proofs.Math.ListN.{length, get_or-append, get_or-eq_default}
use Rattle.std.proofs.Math.Seq.{get_or-append_seam}
use Rattle.std.proofs.Math.Dec.{eqb}
use borrow.Author.Tests.{eqb-true, eqb-false, eq-eqb, ne_eqb, ltb-true, ltb-false}
use Rattle.basis.specs.Lists.{any, filter, first, concat_map, or_else, snoc}
use Rattle.basis.specs.Members.{In, All, split, either, clash, no_both, and_true}
use Rattle.records.specs.declared.Origin.{Origin}
use Rattle.records.specs.declared.Origin.TheVariants as O
use Rattle.records.specs.declared.Clause.{Clause}
use Rattle.records.specs.declared.Clause.TheVariants as C
use Rattle.records.specs.declared.Table.TheVariants.{Clauses}
use Rattle.records.specs.declared.Allowed.{Allowed}
use Rattle.records.specs.declared.Allowed.TheVariants as A
use Rattle.records.specs.declared.Slot.TheVariants as S
use Rattle.records.specs.declared.Shape.{Shape}
use Rattle.records.specs.Shapes.{Rec, shape_of}
use Rattle.records.specs.Tables.{Tables, at, no_rec}
use Rattle.records.specs.Views.{origin_by, origin_of, clause_in, clause_of, in_core, core_at, assigned_by, candidates_of, gate_partners, aux_partners}
use Rattle.index.specs.Promise.{Valid, Sound}
use Rattle.store.specs.declared.ConflictNode.{ConflictNode}
use Rattle.store.specs.declared.ConflictNode.TheVariants as N
use Rattle.store.specs.declared.ConflictCause.TheVariants as K
use Rattle.store.specs.declared.ConflictEdge.TheVariants as W
use Rattle.store.specs.Graph.{Graph, handing, Added, added, full, add_link}
use Rattle.linking.specs.Links.{party_by, party_of, as_list, nodes_named, solvable_in, name_forbidden, any_of_in, parent_in, excluded_in, gate_reason, parent_reason}
use Rattle.linking.specs.Links.{excluded_reason, partners_or, requirers, requirers_by, Link, link, Linked, more, short, link_all, require_links, requires_of}
use Rattle.linking.specs.Links.{excluded_links, lock_links, constrains_links, forbid_all}
use Rattle.expansion.specs.declared.Side.{Side}
use Rattle.expansion.specs.declared.Side.TheVariants.{Parent, Candidate}
use Rattle.expansion.specs.Expand.{Build, ClauseStep, on, stop, start_build, kept_beside, once_all, triples_of, others, pair, pair_all, forbid, forbid_in, expand}
use Rattle.graph.specs.Graphs.{is_learnt, Turned, go, halt, expanded, core_turn, handed, turn_at, Built, built, stopped, build_from, build_of}
use Rattle.whatif.specs.Extended.{Extended}
use Rattle.whatif.specs.Laws.Rebuilt.{add_excluded}

-- ---- the variables that a clause names

abbrev vars_of : Clause → List ℕ
vars_of C.InstallRoot = []
vars_of (C.Excluded a b) = a ∷ []
vars_of C.Learnt = []
vars_of (C.Requires a b) = a ∷ []
vars_of (C.Lock a b) = a ∷ b ∷ []
vars_of (C.ForbidMultipleInstances a b) = a ∷ b ∷ []
vars_of (C.Constrains a b c) = a ∷ b ∷ []
vars_of (C.ConstrainsParent a b c) = a ∷ b ∷ []
vars_of (C.ConstrainsExcluded a b c) = a ∷ b ∷ []
vars_of (C.AnyOf a b) = a ∷ b ∷ []

slots : (k : ℕ) (x y : Allowed) → Type 0
slots k x y = (s : Shape) → shape_of k ≡ some s → (s.a ≡ S.Variable x) × (s.b ≡ S.Variable y)

slot_17 : (s : Shape) → shape_of 17 ≡ some s → s.a ≡ S.Variable A.Solvable
unfolding shape_of
slot_17 s e = cc

slot_19 : (s : Shape) → shape_of 19 ≡ some s → s.a ≡ S.Variable A.Requirer
unfolding shape_of
slot_19 s e = cc

slots_20 : slots 20 A.Solvable A.Solvable
unfolding slots shape_of
slots_20 = λ s e. (cc, cc)

slots_21 : slots 21 A.Solvable A.ForbidMultiple
unfolding slots shape_of
slots_21 = λ s e. (cc, cc)

slots_22 : slots 22 A.SolvableOrRoot A.Solvable
unfolding slots shape_of
slots_22 = λ s e. (cc, cc)

slots_23 : slots 23 A.SolvableOrRoot A.Auxiliary
unfolding slots shape_of
slots_23 = λ s e. (cc, cc)

slots_24 : slots 24 A.Solvable A.Auxiliary
unfolding slots shape_of
slots_24 = λ s e. (cc, cc)

slots_25 : slots 25 A.Any A.Any
unfolding slots shape_of
slots_25 = λ s e. (cc, cc)

module _ (T : Tables) (valid : Valid T) where
  abbrev Named : ℕ → Type 0
  Named v = v < length T.variables

  module _ (i : ℕ) (h : i < length T.clauses) where
    abbrev rec : Rec
    rec = at T.clauses i

    sound : Sound T Clauses i rec
    sound = valid.sound Clauses i h

    one : (k : ℕ) (x : Allowed) → ((s : Shape) → shape_of k ≡ some s → s.a ≡ S.Variable x) → rec.kind ≡ k → Named rec.a
    one k x f q = (rw (f sound.shape (rw q at sound.known)) at sound.right_a).0

    two : (k : ℕ) (x y : Allowed) → slots k x y → rec.kind ≡ k → Named rec.a × (Named rec.b × Unit {0})
    unfolding slots
    two k x y f q =
        let z = f sound.shape (rw q at sound.known) in
        ((rw z.0 at sound.right_a).0, ((rw z.1 at sound.right_b).0, tt))

    vars_named : All Named (vars_of (clause_of T i))
    unfolding clause_of clause_in
    vars_named =
        split (eqb rec.kind 16) (λ t. rw t tt) (λ t0.
        split (eqb rec.kind 17) (λ t. rw (t0, t) (one 17 A.Solvable slot_17 (eqb-true rec.kind 17 t), tt)) (λ t1.
        split (eqb rec.kind 19) (λ t. rw (t0, t1, t) (one 19 A.Requirer slot_19 (eqb-true rec.kind 19 t), tt)) (λ t2.
        split (eqb rec.kind 20) (λ t. rw (t0, t1, t2, t) (two 20 A.Solvable A.Solvable slots_20 (eqb-true rec.kind 20 t))) (λ t3.
        split (eqb rec.kind 21) (λ t. rw (t0, t1, t2, t3, t) (two 21 A.Solvable A.ForbidMultiple slots_21 (eqb-true rec.kind 21 t))) (λ t4.
        split (eqb rec.kind 22) (λ t. rw (t0, t1, t2, t3, t4, t) (two 22 A.SolvableOrRoot A.Solvable slots_22 (eqb-true rec.kind 22 t))) (λ t5.
        split (eqb rec.kind 23) (λ t. rw (t0, t1, t2, t3, t4, t5, t) (two 23 A.SolvableOrRoot A.Auxiliary slots_23 (eqb-true rec.kind 23 t))) (λ t6.
        split (eqb rec.kind 24) (λ t. rw (t0, t1, t2, t3, t4, t5, t6, t) (two 24 A.Solvable A.Auxiliary slots_24 (eqb-true rec.kind 24 t))) (λ t7.
        split (eqb rec.kind 25) (λ t. rw (t0, t1, t2, t3, t4, t5, t6, t7, t) (two 25 A.Any A.Any slots_25 (eqb-true rec.kind 25 t))) (λ t8.
        rw (t0, t1, t2, t3, t4, t5, t6, t7, t8) tt)))))))))

-- ---- lists

filter_last : (p : Rec → Bool) (l : List Rec) (x : Rec) → p x ≡ false → filter p (snoc l x) ≡ filter p l
filter_last p [] x q = rw (q, filter)
filter_last p (y ∷ l) x q = split (p y) (λ t. rw (t, filter) (ap (λ (m : List Rec). y ∷ m) (filter_last p l x q))) (λ t. rw (t, filter) (filter_last p l x q))

all_at : (P : Rec → Type 0) (rs : List Rec) → ((i : ℕ) → i < length rs → P (at rs i)) → All P rs
all_at P [] h = tt
all_at P (r ∷ rs) h = (h 0 (omega arith), all_at P rs (λ i l. h (suc i) (omega arith)))

all_picked : (Q : ℕ → Type 0) (p : Rec → Bool) (f : Rec → ℕ) (rs : List Rec) → All (λ r. p r ≡ true → Q (f r)) rs → All Q (map f (filter p rs))
all_picked Q p f [] h = tt
all_picked Q p f (r ∷ rs) h = split (p r) (λ t. rw (t, filter) (h.0 t, all_picked Q p f rs h.1)) (λ t. rw (t, filter) (all_picked Q p f rs h.1))

module _ (T U : Tables) (valid : Valid T) (s r : ℕ) (E : Extended T U s r) where
  -- ---- what is read of the tables

  origin_same : (v : ℕ) → v < length T.variables → origin_of U v ≡ origin_of T v
  unfolding origin_of
  origin_same v h =
      let q : at U.variables v ≡ at T.variables v = ap (λ (l : List Rec). at l v) E.variables_are
      ∙ get_or-append T.variables E.new no_rec v h in
      ap (λ (x : Rec). origin_by x.b x.c) q

  party_same : (v : ℕ) → v < length T.variables → party_of U v ≡ party_of T v
  unfolding party_of
  party_same v h = ap party_by (origin_same v h)

  at_same : (i : ℕ) → i < length T.clauses → at U.clauses i ≡ at T.clauses i
  at_same i h = ap (λ (l : List Rec). at l i) E.clauses_are ∙ get_or-append T.clauses (E.clause ∷ []) no_rec i h

  clause_same : (i : ℕ) → i < length T.clauses → clause_of U i ≡ clause_of T i
  unfolding clause_of
  clause_same i h = ap clause_in (at_same i h)

  longer : length U.clauses ≡ suc (length T.clauses)
  longer = ap length E.clauses_are ∙ length-append T.clauses (E.clause ∷ []) ∙ omega arith

  last_clause : clause_of U (length T.clauses) ≡ C.Excluded E.clause.a r
  unfolding clause_of clause_in
  last_clause =
      let q : at U.clauses (length T.clauses) ≡ E.clause = ap (λ (l : List Rec). at l (length T.clauses)) E.clauses_are
      ∙ get_or-append_seam T.clauses E.clause [] no_rec in
      rw (q, E.kind, E.what)

  past_clause : (Z : Tables) (i : ℕ) → length Z.clauses ≤ i → clause_of Z i ≡ C.Learnt
  unfolding clause_of clause_in
  past_clause Z i h = let q : at Z.clauses i ≡ no_rec = get_or-eq_default Z.clauses no_rec h in rw q

  not_kind : (k : ℕ) → eqb 17 k ≡ false → eqb E.clause.kind k ≡ false
  not_kind k q = rw E.kind q

  gate_same : (v : ℕ) → gate_partners U v ≡ gate_partners T v
  unfolding gate_partners
  gate_same v =
      rw E.clauses_are
      (ap (map (λ (x : Rec). x.b)) (filter_last (λ x. in_core x && (eqb x.kind 25 && eqb x.a v)) T.clauses E.clause
      (rw (not_kind 25 refl) (no (in_core E.clause)))))
    where
      no : (b : Bool) → b && false ≡ false
      no true = refl
      no false = refl

  aux_same : (k v : ℕ) → eqb 17 k ≡ false → aux_partners U k v ≡ aux_partners T k v
  unfolding aux_partners
  aux_same k v q =
      rw E.clauses_are
      (ap (map (λ (x : Rec). x.a)) (filter_last (λ x. in_core x && (eqb x.kind k && eqb x.b v)) T.clauses E.clause
      (rw (not_kind k q) (no (in_core E.clause)))))
    where
      no : (b : Bool) → b && false ≡ false
      no true = refl
      no false = refl

  candidates_same : (q : ℕ) → candidates_of U q ≡ candidates_of T q
  unfolding candidates_of
  candidates_same q = rw E.candidates_are

  -- ---- partners

  gate_named : (v : ℕ) → All (Named T valid) (gate_partners T v)
  unfolding gate_partners
  gate_named v =
      all_picked (Named T valid) (λ x. in_core x && (eqb x.kind 25 && eqb x.a v)) (λ x. x.b) T.clauses
      (all_at (λ x. in_core x && (eqb x.kind 25 && eqb x.a v) ≡ true → x.b < length T.variables) T.clauses
      (λ i h t. let k = (and_true (eqb (at T.clauses i).kind 25) (eqb (at T.clauses i).a v)
      (and_true (in_core (at T.clauses i)) (eqb (at T.clauses i).kind 25 && eqb (at T.clauses i).a v) t).1).0 in
      (two T valid i h 25 A.Any A.Any slots_25 (eqb-true (at T.clauses i).kind 25 k)).1.0))

  aux_named : (k : ℕ) (x y : Allowed) → slots k x y → (v : ℕ) → All (Named T valid) (aux_partners T k v)
  unfolding aux_partners
  aux_named k x y f v =
      all_picked (Named T valid) (λ x. in_core x && (eqb x.kind k && eqb x.b v)) (λ x. x.a) T.clauses
      (all_at (λ x. in_core x && (eqb x.kind k && eqb x.b v) ≡ true → x.a < length T.variables) T.clauses
      (λ i h t. let z = (and_true (eqb (at T.clauses i).kind k) (eqb (at T.clauses i).b v)
      (and_true (in_core (at T.clauses i)) (eqb (at T.clauses i).kind k && eqb (at T.clauses i).b v) t).1).0 in
      (two T valid i h k x y f (eqb-true (at T.clauses i).kind k z)).0))

  nodes_same : (vs : List ℕ) → All (Named T valid) vs → concat_map (nodes_named U) vs ≡ concat_map (nodes_named T) vs
  nodes_same [] h = refl
  nodes_same (v ∷ vs) h = rw (party_same v h.0, nodes_same vs h.1)

  partners_same : (us vs : List ℕ) (p q : Option ConflictNode) → us ≡ vs → All (Named T valid) vs → p ≡ q → partners_or U us p ≡ partners_or T vs q
  unfolding partners_or
  partners_same us vs p q e h z = rw (e, z, nodes_same vs h)

  -- ---- recovered clauses

  any_of : (c : Clause) → All (Named T valid) (vars_of c) → any_of_in U c ≡ any_of_in T c
  any_of C.InstallRoot h = refl
  any_of (C.Excluded a b) h = refl
  any_of C.Learnt h = refl
  any_of (C.Requires a b) h = refl
  any_of (C.Lock a b) h = refl
  any_of (C.ForbidMultipleInstances a b) h = refl
  any_of (C.Constrains a b c) h = refl
  any_of (C.ConstrainsParent a b c) h = refl
  any_of (C.ConstrainsExcluded a b c) h = refl
  any_of (C.AnyOf a b) h = party_same b h.1.0

  parent_of : (c : Clause) → All (Named T valid) (vars_of c) → parent_in U c ≡ parent_in T c
  parent_of C.InstallRoot h = refl
  parent_of (C.Excluded a b) h = refl
  parent_of C.Learnt h = refl
  parent_of (C.Requires a b) h = refl
  parent_of (C.Lock a b) h = refl
  parent_of (C.ForbidMultipleInstances a b) h = refl
  parent_of (C.Constrains a b c) h = refl
  parent_of (C.ConstrainsParent a b c) h = party_same a h.0
  parent_of (C.ConstrainsExcluded a b c) h = refl
  parent_of (C.AnyOf a b) h = refl

  excluded_of : (c : Clause) → All (Named T valid) (vars_of c) → excluded_in U c ≡ excluded_in T c
  excluded_of C.InstallRoot h = refl
  excluded_of (C.Excluded a b) h = refl
  excluded_of C.Learnt h = refl
  excluded_of (C.Requires a b) h = refl
  excluded_of (C.Lock a b) h = refl
  excluded_of (C.ForbidMultipleInstances a b) h = refl
  excluded_of (C.Constrains a b c) h = refl
  excluded_of (C.ConstrainsParent a b c) h = refl
  excluded_of (C.ConstrainsExcluded a b c) h = party_same a h.0
  excluded_of (C.AnyOf a b) h = refl

  module _ (f : Tables → Clause → Option ConflictNode) (same : (c : Clause) → All (Named T valid) (vars_of c) → f U c ≡ f T c) (learnt : (Z : Tables)
      → f Z C.Learnt ≡ None) (excluded : (Z : Tables) (a b : ℕ) → f Z (C.Excluded a b) ≡ None) where
    clause_party : (i : ℕ) → f U (clause_of U i) ≡ f T (clause_of T i)
    clause_party i =
        split (ltb i (length T.clauses))
        (λ t. let h : i < length T.clauses = ltb-true i (length T.clauses) t in rw (clause_same i h) (same (clause_of T i) (vars_named T valid i h)))
        (λ t. let h : length T.clauses ≤ i = ltb-false i (length T.clauses) t in
        rw (past_clause T i h, learnt T)
        (split (eqb i (length T.clauses))
        (λ u. rw (eqb-true i (length T.clauses) u, last_clause) (excluded U E.clause.a r))
        (λ u. let d : i ≡ length T.clauses → ⊥ = eqb-false i (length T.clauses) u in
        rw (past_clause U i (omega (arith, longer, d))) (learnt U))))

  assigned_same : (v : ℕ) → assigned_by U v ≡ assigned_by T v
  unfolding assigned_by
  assigned_same v = rw E.assigned_are

  gate_reason_lem : (v : ℕ) → gate_reason U v ≡ gate_reason T v
  unfolding gate_reason
  gate_reason_lem v = by (assigned_by T v) refl
    where
      by : (o : Maybe ℕ) → assigned_by T v ≡ o → gate_reason U v ≡ gate_reason T v
      by none q = let p : assigned_by U v ≡ none = assigned_same v ∙ q in rw (p, q, gate_reason)
      by (some i) q = let p : assigned_by U v ≡ some i = assigned_same v ∙ q in rw (p, q, gate_reason) (clause_party any_of_in any_of (λ Z. refl) (λ Z a b. refl) i)

  parent_reason_lem : (v : ℕ) → parent_reason U v ≡ parent_reason T v
  unfolding parent_reason
  parent_reason_lem v = by (assigned_by T v) refl
    where
      by : (o : Maybe ℕ) → assigned_by T v ≡ o → parent_reason U v ≡ parent_reason T v
      by none q = let p : assigned_by U v ≡ none = assigned_same v ∙ q in rw (p, q, parent_reason)
      by (some i) q =
          let p : assigned_by U v ≡ some i = assigned_same v ∙ q in rw (p, q, parent_reason) (clause_party parent_in parent_of (λ Z. refl) (λ Z a b. refl) i)

  excluded_reason_lem : (v : ℕ) → excluded_reason U v ≡ excluded_reason T v
  unfolding excluded_reason
  excluded_reason_lem v = by (assigned_by T v) refl
    where
      by : (o : Maybe ℕ) → assigned_by T v ≡ o → excluded_reason U v ≡ excluded_reason T v
      by none q = let p : assigned_by U v ≡ none = assigned_same v ∙ q in rw (p, q, excluded_reason)
      by (some i) q =
          let p : assigned_by U v ≡ some i = assigned_same v ∙ q in rw (p, q, excluded_reason) (clause_party excluded_in excluded_of (λ Z. refl) (λ Z a b. refl) i)

  -- ---- each clause

  requirers_by_lem : (v : ℕ) (o : Origin) → requirers_by U v o ≡ requirers_by T v o
  requirers_by_lem v O.Root = refl
  requirers_by_lem v (O.Solvable x) = refl
  requirers_by_lem v (O.ForbidMultiple n) = refl
  requirers_by_lem v O.RequiresGate =
      partners_same (gate_partners U v) (gate_partners T v) (gate_reason U v) (gate_reason T v) (gate_same v) (gate_named v) (gate_reason_lem v)
  requirers_by_lem v O.ConstrainsAuxiliary = refl
  requirers_by_lem v O.Other = refl

  requirers_same : (v : ℕ) → v < length T.variables → requirers U v ≡ requirers T v
  unfolding requirers
  requirers_same v h = rw (origin_same v h) (requirers_by_lem v (origin_of T v))

  requires_same : (q : ℕ) (ps : List ConflictNode) → requires_of U q ps ≡ requires_of T q ps
  unfolding requires_of
  requires_same q ps = rw (candidates_same q)

  excluded_same : (x y : ℕ) → x < length T.variables → excluded_links U x y ≡ excluded_links T x y
  unfolding excluded_links
  excluded_same x y h = rw (origin_same x h)

  lock_same : (x y : ℕ) → x < length T.variables → y < length T.variables → lock_links U x y ≡ lock_links T x y
  unfolding lock_links
  lock_same x y h k = rw (origin_same x h, origin_same y k)

  constrains_same : (x y v : ℕ) → x < length T.variables → y < length T.variables → constrains_links U x y v ≡ constrains_links T x y v
  unfolding constrains_links
  constrains_same x y v h k = rw (party_same x h, party_same y k)

  forbid_same : (x y : ℕ) (d : Build) → x < length T.variables → y < length T.variables → forbid U x y d ≡ forbid T x y d
  unfolding forbid
  forbid_same x y d h k = rw (origin_same x h, origin_same y k)

  others_same : (side : Side) (v : ℕ) → others U side v ≡ others T side v
  unfolding others
  others_same Parent v =
      partners_same (aux_partners U 24 v) (aux_partners T 24 v) (excluded_reason U v) (excluded_reason T v) (aux_same 24 v refl)
      (aux_named 24 A.Solvable A.Auxiliary slots_24 v) (excluded_reason_lem v)
  others_same Candidate v =
      partners_same (aux_partners U 23 v) (aux_partners T 23 v) (parent_reason U v) (parent_reason T v) (aux_same 23 v refl)
      (aux_named 23 A.SolvableOrRoot A.Auxiliary slots_23 v) (parent_reason_lem v)

  pair_by : (side : Side) (b v : ℕ) (p : Option ConflictNode) (d : Build) → pair_all U side b v p d ≡ pair_all T side b v p d
  pair_by side b v None d = refl
  pair_by side b v (Some n) d = rw (others_same side b)

  pair_same : (side : Side) (x b v : ℕ) (d : Build) → x < length T.variables → pair U side x b v d ≡ pair T side x b v d
  unfolding pair
  pair_same side x b v d h = rw (party_same x h) (pair_by side b v (party_of T x) d)

  expand_same : (c : Clause) → All (Named T valid) (vars_of c) → (d : Build) → expand U c d ≡ expand T c d
  unfolding expand
  expand_same C.InstallRoot h d = refl
  expand_same (C.Excluded x y) h d = rw (excluded_same x y h.0)
  expand_same C.Learnt h d = refl
  expand_same (C.Requires x q) h d = rw (requirers_same x h.0, requires_same q (requirers T x))
  expand_same (C.Lock x y) h d = rw (lock_same x y h.0 h.1.0)
  expand_same (C.ForbidMultipleInstances x y) h d = forbid_same x y d h.0 h.1.0
  expand_same (C.Constrains x y v) h d = rw (constrains_same x y v h.0 h.1.0)
  expand_same (C.ConstrainsParent x y v) h d = pair_same Parent x y v d h.0
  expand_same (C.ConstrainsExcluded x y v) h d = pair_same Candidate x y v d h.0
  expand_same (C.AnyOf x y) h d = refl

  turn_same : (i : ℕ) (d : Build) → i < length T.clauses → turn_at U i d ≡ turn_at T i d
  unfolding turn_at
  turn_same i d h =
      let q : core_at U i ≡ core_at T i = ap in_core (at_same i h) in
      let z : core_turn U (clause_of U i) (handed i d) ≡ core_turn T (clause_of T i) (handed i d) = rw (clause_same i h) (learn (is_learnt (clause_of T i)) refl) in
      split (core_at T i)
      (λ t. let u : core_at U i ≡ true = q ∙ t in rw (t, u, turn_at) z)
      (λ t. let u : core_at U i ≡ false = q ∙ t in rw (t, u, turn_at))
    where
      learn : (b : Bool) → is_learnt (clause_of T i) ≡ b → core_turn U (clause_of T i) (handed i d) ≡ core_turn T (clause_of T i) (handed i d)
      learn true e = rw (e, core_turn)
      learn false e = rw (e, core_turn, expand_same (clause_of T i) (vars_named T valid i h) (handed i d))

  -- ---- the new clause

  turn_last : (d : Build) (l : Linked) → link_all (link (N.Solvable s) (N.Excluded r) (W.Conflict K.Excluded) ∷ []) (handing (length T.clauses) d.graph)
      ≡ l → turn_at U (length T.clauses) d ≡ expanded (kept_beside (handed (length T.clauses) d) l)
  unfolding turn_at expand excluded_links
  turn_last d l e =
      let q : at U.clauses (length T.clauses) ≡ E.clause = ap (λ (m : List Rec). at m (length T.clauses)) E.clauses_are
      ∙ get_or-append_seam T.clauses E.clause [] no_rec in
      let u : core_at U (length T.clauses) ≡ true = ap in_core q ∙ eq-eqb E.clause.first 1 E.core in
      rw (u, turn_at, last_clause, E.who, e)

  abbrev ending : ℕ → Turned → Built
  ending i (go e) = built e
  ending i (halt k) = stopped k i

  finish : (i : ℕ) (d : Build) → build_from 1 U i d ≡ ending i (turn_at U i d)
  unfolding build_from
  finish i d = by (turn_at U i d) refl
    where
      by : (t : Turned) → turn_at U i d ≡ t → build_from 1 U i d ≡ ending i (turn_at U i d)
      by (go e) q = rw (q, build_from)
      by (halt k) q = rw (q, build_from)

  build_more : (n i : ℕ) (b d : Build) → i + n ≡ length T.clauses → build_from n T i b ≡ built d
      → build_from (suc n) U i b ≡ ending (length T.clauses) (turn_at U (length T.clauses) d)
  unfolding build_from
  build_more zero i b d h e =
      let z : b ≡ d = cc in
      let y : i ≡ length T.clauses = omega arith in
      rw (← z, ← y) (finish i b)
  build_more (suc n) i b d h e = by (λ c q. build_more n (suc i) c d (omega arith) q) (turn_at T i b) refl
    where
      by : ((c : Build) → build_from n T (suc i) c ≡ built d → build_from (suc n) U (suc i) c ≡ ending (length T.clauses) (turn_at U (length T.clauses) d))
          → (t : Turned) → turn_at T i b ≡ t → build_from (suc (suc n)) U i b ≡ ending (length T.clauses) (turn_at U (length T.clauses) d)
      by rest (go c) q =
          let u : turn_at U i b ≡ go c = turn_same i b (omega arith) ∙ q in
          rw (u, build_from) (rest c (rw (q, build_from) at e))
      by rest (halt k) q = let z : stopped k i ≡ built d = rw (q, build_from) at e in clash (cc)

  build_extended : (d : Build) → build_of T ≡ built d → (l : Linked)
      → link_all (link (N.Solvable s) (N.Excluded r) (W.Conflict K.Excluded) ∷ []) (handing (length T.clauses) d.graph) ≡ l
      → build_of U ≡ ending (length T.clauses) (expanded (kept_beside (handed (length T.clauses) d) l))
  unfolding build_of
  build_extended d e l q = rw longer (build_more (length T.clauses) 0 start_build d (omega arith) e ∙ ap (ending (length T.clauses)) (turn_last d l q))

  -- the graph rules for the core with the new clause: the link added behind the core
  pub extended_built : (d : Build) → build_of T ≡ built d → (k : ℕ) (h : Graph) → add_excluded (handing (length T.clauses) d.graph) s r ≡ added k h
      → build_of U ≡ built (record { graph = h; last = d.last; made = d.made })
  unfolding link_all
  extended_built d e k h q = build_extended d e (more h) (rw (q, link_all))

  -- no room: 8, "place the number of clauses"
  pub extended_full : (d : Build) → build_of T ≡ built d → add_excluded (handing (length T.clauses) d.graph) s r ≡ full
      → build_of U ≡ stopped 8 (length T.clauses)
  unfolding link_all
  extended_full d e q = build_extended d e short (rw (q, link_all))
