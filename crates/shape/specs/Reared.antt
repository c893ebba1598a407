-- Building from valid tables keeps what `Shaped` says: each clause of the core links nodes that are known and of kinds that fit.
use Rattle.std.proofs.Math.Path.{◌≡◌, refl, sym}
use Rattle.std.proofs.Common.{ap, ◌∙◌, length-set, get_or-set_same, get_or-set_other, ltb-true, ltb-false, eqb-true}
use Rattle.std.specs.Prelude.{Bool, true, false, ℕ, zero, suc, ◌<◌, ◌≤◌, get_or, set, replicate, ltb, Option, Some, None}
use mathlib.Core.List.{List, [], ◌∷◌, ◌++◌, map}
use Rattle.std.proofs.Math.Option.{Option as Maybe, none, some}
use native.Mathlib.Omega.{arith}
use Rattle.std.proofs.Math.ListN.{length, get_or-eq_default}
use Rattle.std.proofs.lemmas.List.{get_or-replicate, length-replicate}
use Rattle.std.proofs.Math.Seq.{set_out}
use Rattle.std.proofs.Math.Dec.{eqb}
use Rattle.std.proofs.lemmas.Bool.{eqb-false}
use Rattle.basis.specs.Lists.{any, filter, concat_map, or_else}
use Rattle.basis.specs.Members.{split, clash, All, all_append}
use Rattle.records.specs.declared.Origin.{Origin}
use Rattle.records.specs.declared.Origin.TheVariants as O
use Rattle.records.specs.declared.Clause.{Clause}
use Rattle.records.specs.declared.Clause.TheVariants as C
use Rattle.records.specs.declared.Table.TheVariants.{Solvables, Reasons, Candidates, Clauses}
use Rattle.records.specs.declared.Slot.TheVariants as S
use Rattle.records.specs.declared.Shape.{Shape}
use Rattle.records.specs.Shapes.{Rec, shape_of}
use Rattle.records.specs.Tables.{Tables, at, no_rec}
use Rattle.records.specs.Views.{origin_of, clause_in, clause_of, in_core, core_at, assigned_by, candidates_of, gate_partners, aux_partners}
use Rattle.index.specs.Steps.{each_kind}
use Rattle.index.specs.Promise.{Valid, Sound}
use Rattle.store.specs.declared.ConflictNode.{ConflictNode}
use Rattle.store.specs.declared.ConflictNode.TheVariants as N
use Rattle.store.specs.declared.ConflictCause.TheVariants as K
use Rattle.store.specs.declared.ConflictEdge.{ConflictEdge}
use Rattle.store.specs.declared.ConflictEdge.TheVariants as W
use Rattle.store.specs.Graph.{Graph, Added, added, full, add_node, add_link}
use Rattle.expansion.specs.Triple.{Triple, triple, same_triple}
use Rattle.linking.specs.Links.{party_by, party_of, as_list, nodes_named, solvable_in, name_forbidden, any_of_in, parent_in, excluded_in, gate_reason, parent_reason}
use Rattle.linking.specs.Links.{excluded_reason, partners_or, requirers, requirers_by, Link, link, Linked, more, short, link_all, require_link, require_links}
use Rattle.linking.specs.Links.{requires_of, excluded_links, lock_links, constrains_links, previous_links, forbid_all}
use Rattle.expansion.specs.declared.Side.{Side}
use Rattle.expansion.specs.declared.Side.TheVariants.{Parent, Candidate}
use Rattle.expansion.specs.Expand.{Build, ClauseStep, on, stop, start_build, kept_beside, noted, once, once_all, triple_by, triples_of, others, pair, pair_all}
use Rattle.expansion.specs.Expand.{lastly, forbid, forbid_in, expand}
use Rattle.expansion.specs.Forbidding.{solvable_below}
use Rattle.shape.specs.Shaped.{Known, is_end, fits_target, Shaped, Good, shaped_start, shaped_link, shaped_node}

-- ---- lists of links and of triples

abbrev GoodLink : Tables → Link → Type 0
GoodLink T l = Good T l.source l.target l.weight

abbrev GoodTriple : Tables → Triple → Type 0
GoodTriple T t = Good T t.parent t.candidate (W.Conflict (K.Constrains t.vset))

link_step : (T : Tables) (l : Link) (ls : List Link) (g h : Graph) → ((k : Graph) → Shaped T k → link_all ls k ≡ more h → Shaped T h) → Shaped T g → GoodLink T l
    → (a : Added) → add_link g l.source l.target l.weight ≡ a → link_all (l ∷ ls) g ≡ more h → Shaped T h
unfolding link_all
link_step T l ls g h f P O (added i k) q e = f k (shaped_link T g k l.source l.target l.weight i P O q) (rw (q, link_all) at e)
link_step T l ls g h f P O full q e = let z : short ≡ more h = rw (q, link_all) at e in clash (cc)

links_shaped : (T : Tables) (ls : List Link) (g h : Graph) → All (GoodLink T) ls → Shaped T g → link_all ls g ≡ more h → Shaped T h
unfolding link_all
links_shaped T [] g h O P e = let z : g ≡ h = cc in rw (← z) P
links_shaped T (l ∷ ls) g h O P e =
    link_step T l ls g h (λ k Q z. links_shaped T ls k h O.1 Q z) P O.0 (add_link g l.source l.target l.weight) refl e

-- a build whose graph is shaped, and whose last solvables are known
pub record Sane (T : Tables) (b : Build) : Type 0 where
  pub shaped : Shaped T b.graph
  pub lasts : (n p : ℕ) → get_or b.last n none ≡ some p → p < length T.solvables

kept_sane : (T : Tables) (b d : Build) (ls : List Link) → All (GoodLink T) ls → Sane T b → kept_beside b (link_all ls b.graph) ≡ on d → Sane T d
kept_sane T b d ls O P e = go (link_all ls b.graph) refl
  where
    go : (l : Linked) → link_all ls b.graph ≡ l → Sane T d
    go (more h) q =
        let z : on (record { graph = h; last = b.last; made = b.made }) ≡ on d = rw (q, kept_beside) at e in
        let y : record { graph = h; last = b.last; made = b.made } ≡ d = cc in
        rw (← y) (record { shaped = links_shaped T ls b.graph h O P.shaped q; lasts = P.lasts })
    go short q = let z : stop ≡ on d = rw (q, kept_beside) at e in clash (cc)

once_sane : (T : Tables) (b d : Build) (t : Triple) → GoodTriple T t → Sane T b → once b t ≡ on d → Sane T d
unfolding once
once_sane T b d t O P e =
    split (any (same_triple t) b.made)
    (λ h. let z : on b ≡ on d = rw (h, once) at e in let y : b ≡ d = cc in rw (← y) P)
    (λ h. go h (add_link b.graph t.parent t.candidate (W.Conflict (K.Constrains t.vset))) refl)
  where
    go : any (same_triple t) b.made ≡ false → (a : Added) → add_link b.graph t.parent t.candidate (W.Conflict (K.Constrains t.vset)) ≡ a → Sane T d
    go h (added i k) q =
        let z : noted b t (added i k) ≡ on d = rw (h, once, q) at e in
        let y : k ≡ d.graph = cc in
        let u : b.last ≡ d.last = cc in
        record {
          shaped = rw (← y) (shaped_link T b.graph k t.parent t.candidate (W.Conflict (K.Constrains t.vset)) i P.shaped O q);
          lasts = rw (← u) P.lasts;
        }
    go h full q = let z : noted b t full ≡ on d = rw (h, once, q) at e in clash (cc)

once_step : (T : Tables) (t : Triple) (ts : List Triple) (b d : Build) → ((c : Build) → Sane T c → once_all ts c ≡ on d → Sane T d) → GoodTriple T t → Sane T b
    → (s : ClauseStep) → once b t ≡ s → once_all (t ∷ ts) b ≡ on d → Sane T d
unfolding once_all
once_step T t ts b d f O P (on c) q e = f c (once_sane T b c t O P q) (rw (q, once_all) at e)
once_step T t ts b d f O P stop q e = let z : stop ≡ on d = rw (q, once_all) at e in clash (cc)

onces_sane : (T : Tables) (ts : List Triple) (b d : Build) → All (GoodTriple T) ts → Sane T b → once_all ts b ≡ on d → Sane T d
unfolding once_all
onces_sane T [] b d O P e = let z : b ≡ d = cc in rw (← z) P
onces_sane T (t ∷ ts) b d O P e = once_step T t ts b d (λ c Q z. onces_sane T ts c d O.1 Q z) O.0 P (once b t) refl e

-- ---- what variables and recovered clauses name

abbrev End : Tables → ConflictNode → Type 0
End T n = Known T n × (is_end n ≡ true)

all_concat : {A B : Type 0} (P : B → Type 0) (f : A → List B) (xs : List A) → ((x : A) → All P (f x)) → All P (concat_map f xs)
all_concat P f [] h = tt
all_concat P f (x ∷ xs) h = all_append P (f x) (concat_map f xs) (h x) (all_concat P f xs h)

all_map_in : {A B : Type 0} (P : A → Type 0) (Q : B → Type 0) (f : A → B) (xs : List A) → ((x : A) → P x → Q (f x)) → All P xs → All Q (map f xs)
all_map_in P Q f [] h p = tt
all_map_in P Q f (x ∷ xs) h p = (h x p.0, all_map_in P Q f xs h p.1)

all_concat_in : {A B : Type 0} (P : A → Type 0) (Q : B → Type 0) (f : A → List B) (xs : List A) → ((x : A) → P x → All Q (f x)) → All P xs
    → All Q (concat_map f xs)
all_concat_in P Q f [] h p = tt
all_concat_in P Q f (x ∷ xs) h p = all_append Q (f x) (concat_map f xs) (h x p.0) (all_concat_in P Q f xs h p.1)

all_or : {A : Type 0} (P : A → Type 0) (xs ys : List A) → All P xs → All P ys → All P (or_else xs ys)
all_or P [] ys p q = q
all_or P (x ∷ xs) ys p q = p

-- the slots that name them
candidate_slot : (k : ℕ) (s : Shape) → shape_of k ≡ some s → s.table ≡ Candidates → s.b ≡ S.Names Solvables
candidate_slot =
    each_kind (λ o. (s : Shape) → o ≡ some s → s.table ≡ Candidates → s.b ≡ S.Names Solvables) (
      λ s e h. cc,
      (
        λ s e h. cc,
        (
          λ s e h. cc,
          (
            λ s e h. cc,
            (
              λ s e h. cc,
              (
                λ s e h. cc,
                (
                  λ s e h. cc,
                  (
                    λ s e h. cc,
                    (
                      λ s e h. cc,
                      (
                        λ s e h. cc,
                        (λ s e h. cc, (λ s e h. cc, (λ s e h. cc, (λ s e h. cc, (λ s e h. cc, (λ s e h. cc, (λ s e h. cc, (λ s e h. cc, tt)))))))),
                      ),
                    ),
                  ),
                ),
              ),
            ),
          ),
        ),
      ),
    )
    (λ s e h. cc)

reason_slot : (s : Shape) → shape_of 17 ≡ some s → s.b ≡ S.Names Reasons
unfolding shape_of
reason_slot s e = cc

excluded_kind : (r : Rec) (a b : ℕ) → clause_in r ≡ C.Excluded a b → (r.kind ≡ 17) × (r.b ≡ b)
unfolding clause_in
excluded_kind r a b e =
    split (eqb r.kind 16) (λ t. let z : C.InstallRoot ≡ C.Excluded a b = rw t at e in clash (cc)) (λ t0.
    split (eqb r.kind 17) (λ t. let z : C.Excluded r.a r.b ≡ C.Excluded a b = rw (t0, t) at e in (eqb-true r.kind 17 t, cc)) (λ t1.
    split (eqb r.kind 19) (λ t. let z : C.Requires r.a r.b ≡ C.Excluded a b = rw (t0, t1, t) at e in clash (cc)) (λ t2.
    split (eqb r.kind 20) (λ t. let z : C.Lock r.a r.b ≡ C.Excluded a b = rw (t0, t1, t2, t) at e in clash (cc)) (λ t3.
    split (eqb r.kind 21) (λ t. let z : C.ForbidMultipleInstances r.a r.b ≡ C.Excluded a b = rw (t0, t1, t2, t3, t) at e in clash (cc)) (λ t4.
    split (eqb r.kind 22) (λ t. let z : C.Constrains r.a r.b r.c ≡ C.Excluded a b = rw (t0, t1, t2, t3, t4, t) at e in clash (cc)) (λ t5.
    split (eqb r.kind 23) (λ t. let z : C.ConstrainsParent r.a r.b r.c ≡ C.Excluded a b = rw (t0, t1, t2, t3, t4, t5, t) at e in clash (cc)) (λ t6.
    split (eqb r.kind 24) (λ t. let z : C.ConstrainsExcluded r.a r.b r.c ≡ C.Excluded a b = rw (t0, t1, t2, t3, t4, t5, t6, t) at e in
    clash (cc)) (λ t7.
    split (eqb r.kind 25) (λ t. let z : C.AnyOf r.a r.b ≡ C.Excluded a b = rw (t0, t1, t2, t3, t4, t5, t6, t7, t) at e in clash (cc)) (λ t8.
    let z : C.Learnt ≡ C.Excluded a b = rw (t0, t1, t2, t3, t4, t5, t6, t7, t8) at e in clash (cc))))))))))

all_at : (P : Rec → Type 0) (rs : List Rec) → ((i : ℕ) → i < length rs → P (at rs i)) → All P rs
all_at P [] h = tt
all_at P (r ∷ rs) h = (h 0 (omega arith), all_at P rs (λ i l. h (suc i) (omega arith)))

all_filter : (P : Rec → Type 0) (p : Rec → Bool) (rs : List Rec) → All P rs → All P (filter p rs)
all_filter P p [] h = tt
all_filter P p (r ∷ rs) h = split (p r) (λ t. rw (t, filter) (h.0, all_filter P p rs h.1)) (λ t. rw (t, filter) (all_filter P p rs h.1))

module _ (T : Tables) (valid : Valid T) where
  origin_end : (v : ℕ) (o : Origin) → origin_of T v ≡ o → All (End T) (as_list (party_by o))
  origin_end v O.Root e = ((tt, refl), tt)
  origin_end v (O.Solvable s) e = ((solvable_below T valid v s e, refl), tt)
  origin_end v (O.ForbidMultiple n) e = tt
  origin_end v O.RequiresGate e = tt
  origin_end v O.ConstrainsAuxiliary e = tt
  origin_end v O.Other e = tt

  party_end : (v : ℕ) → All (End T) (as_list (party_of T v))
  unfolding party_of
  party_end v = origin_end v (origin_of T v) refl

  any_end : (c : Clause) → All (End T) (as_list (any_of_in T c))
  any_end C.InstallRoot = tt
  any_end (C.Excluded a b) = tt
  any_end C.Learnt = tt
  any_end (C.Requires a b) = tt
  any_end (C.Lock a b) = tt
  any_end (C.ForbidMultipleInstances a b) = tt
  any_end (C.Constrains a b v) = tt
  any_end (C.ConstrainsParent a b v) = tt
  any_end (C.ConstrainsExcluded a b v) = tt
  any_end (C.AnyOf a b) = party_end b

  parent_end : (c : Clause) → All (End T) (as_list (parent_in T c))
  parent_end C.InstallRoot = tt
  parent_end (C.Excluded a b) = tt
  parent_end C.Learnt = tt
  parent_end (C.Requires a b) = tt
  parent_end (C.Lock a b) = tt
  parent_end (C.ForbidMultipleInstances a b) = tt
  parent_end (C.Constrains a b v) = tt
  parent_end (C.ConstrainsParent a b v) = party_end a
  parent_end (C.ConstrainsExcluded a b v) = tt
  parent_end (C.AnyOf a b) = tt

  excluded_end : (c : Clause) → All (End T) (as_list (excluded_in T c))
  excluded_end C.InstallRoot = tt
  excluded_end (C.Excluded a b) = tt
  excluded_end C.Learnt = tt
  excluded_end (C.Requires a b) = tt
  excluded_end (C.Lock a b) = tt
  excluded_end (C.ForbidMultipleInstances a b) = tt
  excluded_end (C.Constrains a b v) = tt
  excluded_end (C.ConstrainsParent a b v) = tt
  excluded_end (C.ConstrainsExcluded a b v) = party_end a
  excluded_end (C.AnyOf a b) = tt

  reason_end : (f : Clause → Option ConflictNode) → ((c : Clause) → All (End T) (as_list (f c))) → (o : Maybe ℕ)
      → All (End T) (as_list (elim o [ none ↦ None | some i ↦ f (clause_of T i) ]))
  reason_end f h none = tt
  reason_end f h (some i) = h (clause_of T i)

  gate_end : (v : ℕ) → All (End T) (as_list (gate_reason T v))
  unfolding gate_reason
  gate_end v = reason_end (any_of_in T) any_end (assigned_by T v)

  parents_end : (v : ℕ) → All (End T) (as_list (parent_reason T v))
  unfolding parent_reason
  parents_end v = reason_end (parent_in T) parent_end (assigned_by T v)

  excludeds_end : (v : ℕ) → All (End T) (as_list (excluded_reason T v))
  unfolding excluded_reason
  excludeds_end v = reason_end (excluded_in T) excluded_end (assigned_by T v)

  partners_end : (vs : List ℕ) (p : Option ConflictNode) → All (End T) (as_list p) → All (End T) (partners_or T vs p)
  unfolding partners_or
  partners_end vs p h = all_or (End T) (concat_map (nodes_named T) vs) (as_list p) (all_concat (End T) (nodes_named T) vs party_end) h

  requirers_by_lem : (v : ℕ) (o : Origin) → origin_of T v ≡ o → All (End T) (requirers_by T v o)
  requirers_by_lem v O.Root e = ((tt, refl), tt)
  requirers_by_lem v (O.Solvable s) e = ((solvable_below T valid v s e, refl), tt)
  requirers_by_lem v (O.ForbidMultiple n) e = tt
  requirers_by_lem v O.RequiresGate e = partners_end (gate_partners T v) (gate_reason T v) (gate_end v)
  requirers_by_lem v O.ConstrainsAuxiliary e = tt
  requirers_by_lem v O.Other e = tt

  requirers_end : (v : ℕ) → All (End T) (requirers T v)
  unfolding requirers
  requirers_end v = requirers_by_lem v (origin_of T v) refl

  others_end : (side : Side) (v : ℕ) → All (End T) (others T side v)
  unfolding others
  others_end Parent v = partners_end (aux_partners T 24 v) (excluded_reason T v) (excludeds_end v)
  others_end Candidate v = partners_end (aux_partners T 23 v) (parent_reason T v) (parents_end v)

  -- ---- solvables and reasons that records name

  solvable_in_lem : (v : ℕ) (o : Origin) → origin_of T v ≡ o → All (λ s. s < length T.solvables) (solvable_in o)
  solvable_in_lem v O.Root e = tt
  solvable_in_lem v (O.Solvable s) e = (solvable_below T valid v s e, tt)
  solvable_in_lem v (O.ForbidMultiple n) e = tt
  solvable_in_lem v O.RequiresGate e = tt
  solvable_in_lem v O.ConstrainsAuxiliary e = tt
  solvable_in_lem v O.Other e = tt

  candidate_below : (i : ℕ) → i < length T.candidates → (at T.candidates i).b < length T.solvables
  candidate_below i h =
      let s : Sound T Candidates i (at T.candidates i) = valid.sound Candidates i h in
      rw (candidate_slot (at T.candidates i).kind s.shape s.known s.mine) at s.right_b

  candidates_below : (q : ℕ) → All (λ c. c < length T.solvables) (candidates_of T q)
  unfolding candidates_of
  candidates_below q =
      all_map_in (λ r. r.b < length T.solvables) (λ c. c < length T.solvables) (λ r. r.b) (filter (λ r. eqb r.a q) T.candidates) (λ r h. h)
      (all_filter (λ r. r.b < length T.solvables) (λ r. eqb r.a q) T.candidates
      (all_at (λ r. r.b < length T.solvables) T.candidates candidate_below))

  reason_below : (i a r : ℕ) → clause_of T i ≡ C.Excluded a r → r < length T.reasons
  unfolding clause_of
  reason_below i a r e =
      let p = excluded_kind (at T.clauses i) a r e in
      let k : (at T.clauses i).kind ≡ 17 = p.0 in
      let b : (at T.clauses i).b ≡ r = p.1 in
      split (ltb i (length T.clauses))
      (λ t. let s : Sound T Clauses i (at T.clauses i) = valid.sound Clauses i (ltb-true i (length T.clauses) t) in
      let h : (at T.clauses i).b < length T.reasons = rw (reason_slot s.shape (rw k at s.known)) at s.right_b in
      rw (← b) h)
      (λ t. let z : at T.clauses i ≡ no_rec = get_or-eq_default T.clauses no_rec (ltb-false i (length T.clauses) t) in
      let y : ◌≡◌ {A = ℕ} 0 17 = sym (ap (λ (x : Rec). x.kind) z) ∙ k in let f : ⊥ = omega arith in absurd f)

  -- ---- each clause

  excluded_good : (a r : ℕ) → r < length T.reasons → All (GoodLink T) (excluded_links T a r)
  unfolding excluded_links
  excluded_good a r h =
      all_map_in (λ s. s < length T.solvables) (GoodLink T) (λ s. link (N.Solvable s) (N.Excluded r) (W.Conflict K.Excluded)) (solvable_in (origin_of T a))
      (λ s k. record { source_known = k; target_known = h; source_end = refl; target_fits = refl }) (solvable_in_lem a (origin_of T a) refl)

  lock_good : (a b : ℕ) → All (GoodLink T) (lock_links T a b)
  unfolding lock_links
  lock_good a b =
      all_concat (GoodLink T) (λ l. map (λ f. link N.Root (N.Solvable f) (W.Conflict (K.Locked l))) (solvable_in (origin_of T b))) (solvable_in (origin_of T a))
      (λ l. all_map_in (λ s. s < length T.solvables) (GoodLink T) (λ f. link N.Root (N.Solvable f) (W.Conflict (K.Locked l))) (solvable_in (origin_of T b))
      (λ f k. record { source_known = tt; target_known = k; source_end = refl; target_fits = refl }) (solvable_in_lem b (origin_of T b) refl))

  constrains_good : (a b v : ℕ) → All (GoodLink T) (constrains_links T a b v)
  unfolding constrains_links
  constrains_good a b v =
      all_concat_in (End T) (GoodLink T) (λ n. map (λ m. link n m (W.Conflict (K.Constrains v))) (nodes_named T b)) (nodes_named T a)
      (λ n h. all_map_in (End T) (GoodLink T) (λ m. link n m (W.Conflict (K.Constrains v))) (nodes_named T b)
      (λ m k. record { source_known = h.0; target_known = k.0; source_end = h.1; target_fits = k.1 }) (party_end b))
      (party_end a)

  require_good : (q : ℕ) (cs : List ℕ) → All (λ c. c < length T.solvables) cs → (p : ConflictNode) → End T p → All (GoodLink T) (require_links q cs p)
  require_good q [] k p h = (record { source_known = h.0; target_known = tt; source_end = h.1; target_fits = refl }, tt)
  require_good q (c ∷ cs) k p h =
      all_map_in (λ c. c < length T.solvables) (GoodLink T) (require_link q p) (c ∷ cs)
      (λ d l. record { source_known = h.0; target_known = l; source_end = h.1; target_fits = refl }) k

  requires_good : (q : ℕ) (ps : List ConflictNode) → All (End T) ps → All (GoodLink T) (requires_of T q ps)
  unfolding requires_of
  requires_good q ps h = all_concat_in (End T) (GoodLink T) (require_links q (candidates_of T q)) ps (require_good q (candidates_of T q) (candidates_below q)) h

  triple_good : (side : Side) (n : ConflictNode) (v : ℕ) (m : ConflictNode) → End T n → End T m → GoodTriple T (triple_by side n v m)
  triple_good Parent n v m h k = record { source_known = h.0; target_known = k.0; source_end = h.1; target_fits = k.1 }
  triple_good Candidate n v m h k = record { source_known = k.0; target_known = h.0; source_end = k.1; target_fits = h.1 }

  pairs_good : (side : Side) (n : ConflictNode) (v : ℕ) (ms : List ConflictNode) → End T n → All (End T) ms → All (GoodTriple T) (triples_of side n v ms)
  unfolding triples_of
  pairs_good side n v ms h k = all_map_in (End T) (GoodTriple T) (triple_by side n v) ms (λ m l. triple_good side n v m h l) k

  pair_by : (side : Side) (b v : ℕ) (r : Option ConflictNode) → All (End T) (as_list r) → (c d : Build) → Sane T c → pair_all T side b v r c ≡ on d → Sane T d
  pair_by side b v None h c d P e = let z : c ≡ d = cc in rw (← z) P
  pair_by side b v (Some n) h c d P e =
      onces_sane T (triples_of side n v (others T side b)) c d (pairs_good side n v (others T side b) h.0 (others_end side b)) P e

  pair_sane : (side : Side) (a b v : ℕ) (c d : Build) → Sane T c → pair T side a b v c ≡ on d → Sane T d
  unfolding pair
  pair_sane side a b v c d P e = pair_by side b v (party_of T a) (party_end a) c d P e

  previous_good : (l : Maybe ℕ) (s : ℕ) → ((p : ℕ) → l ≡ some p → p < length T.solvables) → s < length T.solvables → All (GoodLink T) (previous_links l s)
  previous_good none s h k = tt
  previous_good (some p) s h k = (record { source_known = h p refl; target_known = k; source_end = refl; target_fits = refl }, tt)

  forbid_graph : (g h : Graph) (l : Maybe ℕ) (s : ℕ) → ((p : ℕ) → l ≡ some p → p < length T.solvables) → s < length T.solvables → Shaped T g
      → forbid_all g l s ≡ more h → Shaped T h
  unfolding forbid_all
  forbid_graph g h l s f k P e = go (add_node g (N.Solvable s)) refl
    where
      go : (a : Added) → add_node g (N.Solvable s) ≡ a → Shaped T h
      go (added i j) q = links_shaped T (previous_links l s) j h (previous_good l s f k) (shaped_node T g j (N.Solvable s) i P k q) (rw (q, forbid_all) at e)
      go full q = let z : short ≡ more h = rw (q, forbid_all) at e in clash (cc)

  lasts_more : (last : List (Maybe ℕ)) (n s : ℕ) → ((m p : ℕ) → get_or last m none ≡ some p → p < length T.solvables)
      → s < length T.solvables → (m p : ℕ) → get_or (set last n (some s)) m none ≡ some p → p < length T.solvables
  lasts_more last n s f k m p e =
      split (eqb m n)
      (λ t. split (ltb n (length last))
      (λ u. let z : get_or (set last n (some s)) n none ≡ some s = get_or-set_same last n (some s) none (ltb-true n (length last) u) in
      let y : get_or (set last n (some s)) m none ≡ some s = ap (λ (i : ℕ). get_or (set last n (some s)) i none) (eqb-true m n t) ∙ z in
      let x : some s ≡ some p = sym y ∙ e in
      let w : s ≡ p = cc in
      rw (← w) k)
      (λ u. f m p (sym (ap (λ (l : List (Maybe ℕ)). get_or l m none) (set_out last n (some s) (ltb-false n (length last) u))) ∙ e)))
      (λ t. f m p (sym (get_or-set_other last n m (some s) none (eqb-false m n t)) ∙ e))

  forbid_by : (ss ns : List ℕ) → All (λ s. s < length T.solvables) ss → (c d : Build) → Sane T c → forbid_in c ss ns ≡ on d → Sane T d
  forbid_by [] ns h c d P e = let z : c ≡ d = cc in rw (← z) P
  forbid_by (s ∷ ss) [] h c d P e = let z : c ≡ d = cc in rw (← z) P
  forbid_by (s ∷ ss) (n ∷ ns) h c d P e = go (forbid_all c.graph (get_or c.last n none) s) refl
    where
      go : (l : Linked) → forbid_all c.graph (get_or c.last n none) s ≡ l → Sane T d
      go (more g) q =
          let z : on (record { graph = g; last = set c.last n (some s); made = c.made }) ≡ on d = rw (q, lastly) at e in
          let y : record { graph = g; last = set c.last n (some s); made = c.made } ≡ d = cc in
          rw (← y) (record {
            shaped = forbid_graph c.graph g (get_or c.last n none) s (λ p i. P.lasts n p i) h.0 P.shaped q;
            lasts = lasts_more c.last n s P.lasts h.0;
          })
      go short q = let z : stop ≡ on d = rw (q, lastly) at e in clash (cc)

  forbid_sane : (x y : ℕ) (c d : Build) → Sane T c → forbid T x y c ≡ on d → Sane T d
  unfolding forbid
  forbid_sane x y c d P e = forbid_by (solvable_in (origin_of T x)) (name_forbidden (origin_of T y)) (solvable_in_lem x (origin_of T x) refl) c d P e

  same_sane : (b d : Build) → Sane T b → on b ≡ on d → Sane T d
  same_sane b d P e = let z : b ≡ d = cc in rw (← z) P

  expand_by_lem : (i : ℕ) (c : Clause) → clause_of T i ≡ c → (b d : Build) → Sane T b → expand T c b ≡ on d → Sane T d
  unfolding expand
  expand_by_lem i C.InstallRoot q b d P e = same_sane b d P e
  expand_by_lem i (C.Excluded x r) q b d P e = kept_sane T b d (excluded_links T x r) (excluded_good x r (reason_below i x r q)) P e
  expand_by_lem i C.Learnt q b d P e = same_sane b d P e
  expand_by_lem i (C.Requires x r) q b d P e = kept_sane T b d (requires_of T r (requirers T x)) (requires_good r (requirers T x) (requirers_end x)) P e
  expand_by_lem i (C.Lock x y) q b d P e = kept_sane T b d (lock_links T x y) (lock_good x y) P e
  expand_by_lem i (C.ForbidMultipleInstances x y) q b d P e = forbid_sane x y b d P e
  expand_by_lem i (C.Constrains x y v) q b d P e = kept_sane T b d (constrains_links T x y v) (constrains_good x y v) P e
  expand_by_lem i (C.ConstrainsParent x y v) q b d P e = pair_sane Parent x y v b d P e
  expand_by_lem i (C.ConstrainsExcluded x y v) q b d P e = pair_sane Candidate x y v b d P e
  expand_by_lem i (C.AnyOf x y) q b d P e = same_sane b d P e

  pub expand_sane : (i : ℕ) (b d : Build) → Sane T b → expand T (clause_of T i) b ≡ on d → Sane T d
  expand_sane i b d P e = expand_by_lem i (clause_of T i) refl b d P e

pub start_sane : (T : Tables) → Sane T start_build
start_sane T = record { shaped = shaped_start T; lasts = λ n p e. absurd (never 128 n p e) }
  where
    never : (k n p : ℕ) → get_or (replicate {A = Maybe ℕ} k none) n none ≡ some p → ⊥
    never zero n p e = clash (cc)
    never (suc k) zero p e = clash (cc)
    never (suc k) (suc n) p e = never k n p e
