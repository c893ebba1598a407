-- The requirement or version set that an edge of a drawn graph names is in its table.
use Rattle.std.specs.Prelude.{◌≡◌, Bool, true, false, length, get_or, ltb, Option, Some, None}
use Rattle.std.proofs.Math.Path.{refl}
use Rattle.std.proofs.Common.{sym, ap, ◌∙◌, ltb-true, ltb-false, eqb-true}
use mathlib.Core.List.{List, [], ◌∷◌, ◌++◌, map}
use Rattle.std.proofs.Math.Option.{Option as Maybe, none, some}
use Prim.Native.Nat.{ℕ, zero, suc, ◌<◌, ◌-◌}
use Rattle.std.proofs.Math.Dec.{eqb}
use Rattle.std.proofs.Math.ListN.{get_or-eq_default}
use Rattle.basis.specs.Lists.{any, place, concat_map}
use Rattle.basis.specs.Members.{split, clash, All, all_append}
use Rattle.records.specs.declared.Clause.{Clause}
use Rattle.records.specs.declared.Clause.TheVariants as C
use Rattle.records.specs.declared.Table.TheVariants.{VersionSets, Requirements, Clauses}
use Rattle.records.specs.declared.Slot.TheVariants as S
use Rattle.records.specs.declared.Shape.{Shape}
use Rattle.records.specs.Shapes.{Rec, shape_of}
use Rattle.records.specs.Tables.{Tables, at, no_rec}
use Rattle.records.specs.Views.{origin_of, clause_in, clause_of, core_at, candidates_of}
use Rattle.index.specs.Promise.{Valid, Sound}
use Rattle.store.specs.declared.ConflictNode.{ConflictNode}
use Rattle.store.specs.declared.ConflictNode.TheVariants as N
use Rattle.store.specs.declared.ConflictCause.TheVariants as K
use Rattle.store.specs.declared.ConflictEdge.{ConflictEdge}
use Rattle.store.specs.declared.ConflictEdge.TheVariants as W
use Rattle.store.specs.declared.Edge.{Edge}
use Rattle.store.specs.Graph.{Graph, handing, Added, added, full, same_node, with_node, with_edge, add_node, add_edge, add_link, renumber_edge, settle, unreached}
use Rattle.expansion.specs.Triple.{Triple, triple, same_triple}
use Rattle.linking.specs.Links.{party_of, nodes_named, solvable_in, name_forbidden, requirers, Link, link, Linked, more, short, link_all, require_link, require_links}
use Rattle.linking.specs.Links.{requires_of, excluded_links, lock_links, constrains_links, previous_links, forbid_all}
use Rattle.expansion.specs.declared.Side.{Side}
use Rattle.expansion.specs.declared.Side.TheVariants.{Parent, Candidate}
use Rattle.expansion.specs.Expand.{Build, ClauseStep, on, stop, start_build, kept_beside, noted, once, once_all, triple_by, triples_of, others, pair, pair_all}
use Rattle.expansion.specs.Expand.{lastly, forbid, forbid_in, expand}
use Rattle.graph.specs.Graphs.{is_learnt, Turned, go, halt, expanded, core_turn, handed, turn_at, Built, built, stopped, build_from, build_of, drawn}
use Rattle.graph.specs.Graphs.{refused, reached_all, graph_of}

abbrev pub Said : Tables → ConflictEdge → Type 0
Said T (W.Requires q) = q < length T.requirements
Said T (W.Conflict (K.Locked s)) = Unit {0}
Said T (W.Conflict (K.Constrains v)) = v < length T.version_sets
Said T (W.Conflict K.ForbidMultipleInstances) = Unit {0}
Said T (W.Conflict K.Excluded) = Unit {0}

abbrev pub Says : Tables → List Edge → Type 0
Says T es = All (λ e. Said T e.weight) es

-- ---- adding

node_said : (T : Tables) (g h : Graph) (x : ConflictNode) (i : ℕ) → Says T g.edges → add_node g x ≡ added i h → Says T h.edges
unfolding add_node
node_said T g h x i P e = by (place (same_node x) g.nodes 0) refl
  where
    by : (o : Maybe ℕ) → place (same_node x) g.nodes 0 ≡ o → Says T h.edges
    by (some j) q = let z : added j g ≡ added i h = rw (q, add_node) at e in let y : g ≡ h = cc in rw (← y) P
    by none q =
        split (ltb (length g.nodes) 128)
        (λ t. let z : added (length g.nodes) (with_node g x) ≡ added i h = rw (q, add_node, t) at e in let y : with_node g x ≡ h = cc in rw (← y) P)
        (λ t. let z : full ≡ added i h = rw (q, add_node, t) at e in clash (cc))

edge_said : (T : Tables) (g h : Graph) (e : Edge) (i : ℕ) → Says T g.edges → Said T e.weight → add_edge g e ≡ added i h → Says T h.edges
unfolding add_edge
edge_said T g h e i P s q =
    split (ltb (length g.edges) 1024)
    (λ t. let z : added (length g.edges) (with_edge g e) ≡ added i h = rw t at q in let y : with_edge g e ≡ h = cc in
    rw (← y) (all_append (λ f. Said T f.weight) g.edges (e ∷ []) P (s, tt)))
    (λ t. let z : full ≡ added i h = rw t at q in clash (cc))

link_said : (T : Tables) (g h : Graph) (x y : ConflictNode) (w : ConflictEdge) (i : ℕ) → Says T g.edges → Said T w → add_link g x y w ≡ added i h
    → Says T h.edges
unfolding add_link
link_said T g h x y w i P s e = by (add_node g x) refl
  where
    next : (j : ℕ) (k : Graph) → add_node g x ≡ added j k → (b : Added) → add_node k y ≡ b → Says T h.edges
    next j k q full r = let z : full ≡ added i h = rw (q, add_link, r) at e in clash (cc)
    next j k q (added m l) r =
        edge_said T l h (record { source = j; target = m; weight = w; clause = l.hand }) i (node_said T k l y m (node_said T g k x j P q) r) s (rw (
          q,
          add_link,
          r,
        ) at e)

    by : (a : Added) → add_node g x ≡ a → Says T h.edges
    by full q = let z : full ≡ added i h = rw (q, add_link) at e in clash (cc)
    by (added j k) q = next j k q (add_node k y) refl

-- ---- lists of links and of triples

abbrev SaidLink : Tables → Link → Type 0
SaidLink T l = Said T l.weight

link_step : (T : Tables) (l : Link) (ls : List Link) (g h : Graph) → ((k : Graph) → Says T k.edges → link_all ls k ≡ more h → Says T h.edges)
    → Says T g.edges → SaidLink T l
    → (a : Added) → add_link g l.source l.target l.weight ≡ a → link_all (l ∷ ls) g ≡ more h → Says T h.edges
unfolding link_all
link_step T l ls g h f P O (added i k) q e = f k (link_said T g k l.source l.target l.weight i P O q) (rw (q, link_all) at e)
link_step T l ls g h f P O full q e = let z : short ≡ more h = rw (q, link_all) at e in clash (cc)

links_said : (T : Tables) (ls : List Link) (g h : Graph) → All (SaidLink T) ls → Says T g.edges → link_all ls g ≡ more h → Says T h.edges
unfolding link_all
links_said T [] g h O P e = let z : g ≡ h = cc in rw (← z) P
links_said T (l ∷ ls) g h O P e = link_step T l ls g h (λ k Q z. links_said T ls k h O.1 Q z) P O.0 (add_link g l.source l.target l.weight) refl e

kept_said : (T : Tables) (b d : Build) (ls : List Link) → All (SaidLink T) ls → Says T b.graph.edges → kept_beside b (link_all ls b.graph) ≡ on d
    → Says T d.graph.edges
kept_said T b d ls O P e = by (link_all ls b.graph) refl
  where
    by : (l : Linked) → link_all ls b.graph ≡ l → Says T d.graph.edges
    by (more h) q =
        let z : on (record { graph = h; last = b.last; made = b.made }) ≡ on d = rw (q, kept_beside) at e in
        let y : h ≡ d.graph = cc in
        rw (← y) (links_said T ls b.graph h O P q)
    by short q = let z : stop ≡ on d = rw (q, kept_beside) at e in clash (cc)

abbrev SaidTriple : Tables → Triple → Type 0
SaidTriple T t = t.vset < length T.version_sets

once_said : (T : Tables) (b d : Build) (t : Triple) → SaidTriple T t → Says T b.graph.edges → once b t ≡ on d → Says T d.graph.edges
unfolding once
once_said T b d t O P e =
    split (any (same_triple t) b.made)
    (λ h. let z : on b ≡ on d = rw (h, once) at e in let y : b ≡ d = cc in rw (← y) P)
    (λ h. by h (add_link b.graph t.parent t.candidate (W.Conflict (K.Constrains t.vset))) refl)
  where
    by : any (same_triple t) b.made ≡ false → (a : Added) → add_link b.graph t.parent t.candidate (W.Conflict (K.Constrains t.vset)) ≡ a
        → Says T d.graph.edges
    by h (added i k) q =
        let z : noted b t (added i k) ≡ on d = rw (h, once, q) at e in
        let y : k ≡ d.graph = cc in
        rw (← y) (link_said T b.graph k t.parent t.candidate (W.Conflict (K.Constrains t.vset)) i P O q)
    by h full q = let z : noted b t full ≡ on d = rw (h, once, q) at e in clash (cc)

once_step : (T : Tables) (t : Triple) (ts : List Triple) (b d : Build)
    → ((c : Build) → Says T c.graph.edges → once_all ts c ≡ on d → Says T d.graph.edges) → SaidTriple T t → Says T b.graph.edges
    → (s : ClauseStep) → once b t ≡ s → once_all (t ∷ ts) b ≡ on d → Says T d.graph.edges
unfolding once_all
once_step T t ts b d f O P (on c) q e = f c (once_said T b c t O P q) (rw (q, once_all) at e)
once_step T t ts b d f O P stop q e = let z : stop ≡ on d = rw (q, once_all) at e in clash (cc)

onces_said : (T : Tables) (ts : List Triple) (b d : Build) → All (SaidTriple T) ts → Says T b.graph.edges → once_all ts b ≡ on d → Says T d.graph.edges
unfolding once_all
onces_said T [] b d O P e = let z : b ≡ d = cc in rw (← z) P
onces_said T (t ∷ ts) b d O P e = once_step T t ts b d (λ c Q z. onces_said T ts c d O.1 Q z) O.0 P (once b t) refl e

-- ---- what a clause's links say

all_of : {A B : Type 0} (P : B → Type 0) (f : A → B) (xs : List A) → ((x : A) → P (f x)) → All P (map f xs)
all_of P f [] h = tt
all_of P f (x ∷ xs) h = (h x, all_of P f xs h)

all_from : {A B : Type 0} (P : B → Type 0) (f : A → List B) (xs : List A) → ((x : A) → All P (f x)) → All P (concat_map f xs)
all_from P f [] h = tt
all_from P f (x ∷ xs) h = all_append P (f x) (concat_map f xs) (h x) (all_from P f xs h)

module _ (T : Tables) where
  excluded_said : (a r : ℕ) → All (SaidLink T) (excluded_links T a r)
  unfolding excluded_links
  excluded_said a r = all_of (SaidLink T) (λ s. link (N.Solvable s) (N.Excluded r) (W.Conflict K.Excluded)) (solvable_in (origin_of T a)) (λ s. tt)

  lock_said : (a b : ℕ) → All (SaidLink T) (lock_links T a b)
  unfolding lock_links
  lock_said a b =
      all_from (SaidLink T) (λ l. map (λ f. link N.Root (N.Solvable f) (W.Conflict (K.Locked l))) (solvable_in (origin_of T b))) (solvable_in (origin_of T a))
      (λ l. all_of (SaidLink T) (λ f. link N.Root (N.Solvable f) (W.Conflict (K.Locked l))) (solvable_in (origin_of T b)) (λ f. tt))

  constrains_said : (a b v : ℕ) → v < length T.version_sets → All (SaidLink T) (constrains_links T a b v)
  unfolding constrains_links
  constrains_said a b v h =
      all_from (SaidLink T) (λ n. map (λ m. link n m (W.Conflict (K.Constrains v))) (nodes_named T b)) (nodes_named T a)
      (λ n. all_of (SaidLink T) (λ m. link n m (W.Conflict (K.Constrains v))) (nodes_named T b) (λ m. h))

  require_said : (q : ℕ) (cs : List ℕ) → q < length T.requirements → (p : ConflictNode) → All (SaidLink T) (require_links q cs p)
  require_said q [] h p = (h, tt)
  require_said q (c ∷ cs) h p = all_of (SaidLink T) (require_link q p) (c ∷ cs) (λ d. h)

  requires_said : (q : ℕ) (ps : List ConflictNode) → q < length T.requirements → All (SaidLink T) (requires_of T q ps)
  unfolding requires_of
  requires_said q ps h = all_from (SaidLink T) (require_links q (candidates_of T q)) ps (require_said q (candidates_of T q) h)

  triple_said : (side : Side) (n : ConflictNode) (v : ℕ) (m : ConflictNode) → v < length T.version_sets → SaidTriple T (triple_by side n v m)
  triple_said Parent n v m h = h
  triple_said Candidate n v m h = h

  pair_by : (side : Side) (b v : ℕ) (r : Option ConflictNode) → v < length T.version_sets → (c d : Build) → Says T c.graph.edges → pair_all T side b v r c ≡ on d
      → Says T d.graph.edges
  unfolding triples_of
  pair_by side b v None h c d P e = let z : c ≡ d = cc in rw (← z) P
  pair_by side b v (Some n) h c d P e =
      onces_said T (triples_of side n v (others T side b)) c d (all_of (SaidTriple T) (triple_by side n v) (others T side b) (λ m. triple_said side n v m h)) P e

  pair_said : (side : Side) (a b v : ℕ) → v < length T.version_sets → (c d : Build) → Says T c.graph.edges → pair T side a b v c ≡ on d
      → Says T d.graph.edges
  unfolding pair
  pair_said side a b v h c d P e = pair_by side b v (party_of T a) h c d P e

  previous_said : (l : Maybe ℕ) (s : ℕ) → All (SaidLink T) (previous_links l s)
  previous_said none s = tt
  previous_said (some p) s = (tt, tt)

  forbid_graph : (g h : Graph) (l : Maybe ℕ) (s : ℕ) → Says T g.edges → forbid_all g l s ≡ more h → Says T h.edges
  unfolding forbid_all
  forbid_graph g h l s P e = by (add_node g (N.Solvable s)) refl
    where
      by : (a : Added) → add_node g (N.Solvable s) ≡ a → Says T h.edges
      by (added i j) q = links_said T (previous_links l s) j h (previous_said l s) (node_said T g j (N.Solvable s) i P q) (rw (q, forbid_all) at e)
      by full q = let z : short ≡ more h = rw (q, forbid_all) at e in clash (cc)

  forbid_by : (ss ns : List ℕ) (c d : Build) → Says T c.graph.edges → forbid_in c ss ns ≡ on d → Says T d.graph.edges
  forbid_by [] ns c d P e = let z : c ≡ d = cc in rw (← z) P
  forbid_by (s ∷ ss) [] c d P e = let z : c ≡ d = cc in rw (← z) P
  forbid_by (s ∷ ss) (n ∷ ns) c d P e = by (forbid_all c.graph (get_or c.last n none) s) refl
    where
      by : (l : Linked) → forbid_all c.graph (get_or c.last n none) s ≡ l → Says T d.graph.edges
      by (more g) q =
          let z : lastly c n s (more g) ≡ on d = rw (q, lastly) at e in
          let y : g ≡ d.graph = cc in
          rw (← y) (forbid_graph c.graph g (get_or c.last n none) s P q)
      by short q = let z : stop ≡ on d = rw (q, lastly) at e in clash (cc)

  forbid_said : (x y : ℕ) (c d : Build) → Says T c.graph.edges → forbid T x y c ≡ on d → Says T d.graph.edges
  unfolding forbid
  forbid_said x y c d P e = forbid_by (solvable_in (origin_of T x)) (name_forbidden (origin_of T y)) c d P e

  same_said : (b d : Build) → Says T b.graph.edges → on b ≡ on d → Says T d.graph.edges
  same_said b d P e = let z : b ≡ d = cc in rw (← z) P

-- ---- the numbers that a clause names

abbrev Names : Tables → Clause → Type 0
Names T C.InstallRoot = Unit {0}
Names T (C.Excluded a b) = Unit {0}
Names T C.Learnt = Unit {0}
Names T (C.Requires a q) = q < length T.requirements
Names T (C.Lock a b) = Unit {0}
Names T (C.ForbidMultipleInstances a b) = Unit {0}
Names T (C.Constrains a b v) = v < length T.version_sets
Names T (C.ConstrainsParent a b v) = v < length T.version_sets
Names T (C.ConstrainsExcluded a b v) = v < length T.version_sets
Names T (C.AnyOf a b) = Unit {0}

slot_19 : (s : Shape) → shape_of 19 ≡ some s → s.b ≡ S.Names Requirements
unfolding shape_of
slot_19 s e = cc

slot_22 : (s : Shape) → shape_of 22 ≡ some s → s.c ≡ S.Names VersionSets
unfolding shape_of
slot_22 s e = cc

slot_23 : (s : Shape) → shape_of 23 ≡ some s → s.c ≡ S.Names VersionSets
unfolding shape_of
slot_23 s e = cc

slot_24 : (s : Shape) → shape_of 24 ≡ some s → s.c ≡ S.Names VersionSets
unfolding shape_of
slot_24 s e = cc

module _ (T : Tables) where
  requires_in : (i : ℕ) (r : Rec) → Sound T Clauses i r → r.kind ≡ 19 → r.b < length T.requirements
  requires_in i r s k = rw (slot_19 s.shape (rw k at s.known)) at s.right_b

  sets_in_lem : (i : ℕ) (r : Rec) (k : ℕ) → Sound T Clauses i r → r.kind ≡ k → ((s : Shape) → shape_of k ≡ some s → s.c ≡ S.Names VersionSets)
      → r.c < length T.version_sets
  sets_in_lem i r k s q f = rw (f s.shape (rw q at s.known)) at s.right_c

  clause_in_lem : (i : ℕ) (r : Rec) → Sound T Clauses i r → Names T (clause_in r)
  unfolding clause_in
  clause_in_lem i r s =
      split (eqb r.kind 16) (λ t. rw t tt) (λ t0. rw t0
      (split (eqb r.kind 17) (λ t. rw t tt) (λ t1. rw t1
      (split (eqb r.kind 19) (λ t. rw t (requires_in i r s (eqb-true r.kind 19 t))) (λ t2. rw t2
      (split (eqb r.kind 20) (λ t. rw t tt) (λ t3. rw t3
      (split (eqb r.kind 21) (λ t. rw t tt) (λ t4. rw t4
      (split (eqb r.kind 22) (λ t. rw t (sets_in_lem i r 22 s (eqb-true r.kind 22 t) slot_22)) (λ t5. rw t5
      (split (eqb r.kind 23) (λ t. rw t (sets_in_lem i r 23 s (eqb-true r.kind 23 t) slot_23)) (λ t6. rw t6
      (split (eqb r.kind 24) (λ t. rw t (sets_in_lem i r 24 s (eqb-true r.kind 24 t) slot_24)) (λ t7. rw t7
      (split (eqb r.kind 25) (λ t. rw t tt) (λ t8. rw t8 tt)))))))))))))))))

  none_in : Names T (clause_in no_rec)
  unfolding clause_in
  none_in = tt

module _ (T : Tables) (valid : Valid T) where
  clause_names : (i : ℕ) → Names T (clause_of T i)
  unfolding clause_of
  clause_names i =
      split (ltb i (length T.clauses))
      (λ t. clause_in_lem T i (at T.clauses i) (valid.sound Clauses i (ltb-true i (length T.clauses) t)))
      (λ t. let z : at T.clauses i ≡ no_rec = get_or-eq_default T.clauses no_rec (ltb-false i (length T.clauses) t) in rw z (none_in T))

  -- ---- all clauses

  expand_by_lem : (c : Clause) → Names T c → (b d : Build) → Says T b.graph.edges → expand T c b ≡ on d → Says T d.graph.edges
  unfolding expand
  expand_by_lem C.InstallRoot n b d P e = same_said T b d P e
  expand_by_lem (C.Excluded x r) n b d P e = kept_said T b d (excluded_links T x r) (excluded_said T x r) P e
  expand_by_lem C.Learnt n b d P e = same_said T b d P e
  expand_by_lem (C.Requires x r) n b d P e = kept_said T b d (requires_of T r (requirers T x)) (requires_said T r (requirers T x) n) P e
  expand_by_lem (C.Lock x y) n b d P e = kept_said T b d (lock_links T x y) (lock_said T x y) P e
  expand_by_lem (C.ForbidMultipleInstances x y) n b d P e = forbid_said T x y b d P e
  expand_by_lem (C.Constrains x y v) n b d P e = kept_said T b d (constrains_links T x y v) (constrains_said T x y v n) P e
  expand_by_lem (C.ConstrainsParent x y v) n b d P e = pair_said T Parent x y v n b d P e
  expand_by_lem (C.ConstrainsExcluded x y v) n b d P e = pair_said T Candidate x y v n b d P e
  expand_by_lem (C.AnyOf x y) n b d P e = same_said T b d P e

  turn_said : (i : ℕ) (b d : Build) → Says T b.graph.edges → turn_at T i b ≡ go d → Says T d.graph.edges
  unfolding turn_at
  turn_said i b d P e =
      split (core_at T i)
      (λ t. split (is_learnt (clause_of T i))
      (λ u. let z : halt 7 ≡ go d = rw (t, turn_at, u, core_turn) at e in clash (cc))
      (λ u. step (expand T (clause_of T i) (handed i b)) refl (rw (t, turn_at, u, core_turn) at e)))
      (λ t. let z : go b ≡ go d = rw (t, turn_at) at e in let y : b ≡ d = cc in rw (← y) P)
    where
      step : (s : ClauseStep) → expand T (clause_of T i) (handed i b) ≡ s → expanded (expand T (clause_of T i) (handed i b)) ≡ go d → Says T d.graph.edges
      step (on c) q z =
          let y : go c ≡ go d = rw (q, expanded) at z in let x : c ≡ d = cc in rw (← x) (expand_by_lem (clause_of T i) (clause_names i) (handed i b) c P q)
      step stop q z = let y : halt 8 ≡ go d = rw (q, expanded) at z in clash (cc)

  build_step : (n i : ℕ) (b d : Build) → ((c : Build) → Says T c.graph.edges → build_from n T (suc i) c ≡ built d → Says T d.graph.edges)
      → Says T b.graph.edges
      → (t : Turned) → turn_at T i b ≡ t → build_from (suc n) T i b ≡ built d → Says T d.graph.edges
  unfolding build_from
  build_step n i b d f P (go c) q e = f c (turn_said i b c P q) (rw (q, build_from) at e)
  build_step n i b d f P (halt k) q e = let z : stopped k i ≡ built d = rw (q, build_from) at e in clash (cc)

  build_said : (n i : ℕ) (b d : Build) → Says T b.graph.edges → build_from n T i b ≡ built d → Says T d.graph.edges
  unfolding build_from
  build_said zero i b d P e = let y : b ≡ d = cc in rw (← y) P
  build_said (suc n) i b d P e = build_step n i b d (λ c Q z. build_said n (suc i) c d Q z) P (turn_at T i b) refl e

  moved_said : (last : ℕ) (es : List Edge) → Says T es → Says T (map (renumber_edge last) es)
  moved_said last [] P = tt
  moved_said last (e ∷ es) P = (P.0, moved_said last es P.1)

  settle_said : (G : Graph) → Says T G.edges → Says T (settle G).edges
  unfolding settle
  settle_said G P = split (any (λ e. eqb e.target 1) G.edges) (λ t. rw t P) (λ t. rw t (moved_said (length G.nodes - 1) G.edges P))

  settled_said : (b : Build) → build_of T ≡ built b → Says T (settle b.graph).edges
  unfolding build_of
  settled_said b e = settle_said b.graph (build_said (length T.clauses) 0 start_build b tt e)

  pub drawn_said : (G : Graph) → graph_of T ≡ drawn G → Says T G.edges
  unfolding graph_of reached_all
  drawn_said G e = by (build_of T) refl
    where
      end : (b : Build) → build_of T ≡ built b → (o : Maybe ℕ) → unreached (settle b.graph) ≡ o → Says T G.edges
      end b q none u =
          let z : drawn (settle b.graph) ≡ drawn G = rw (q, graph_of, u, reached_all) at e in
          let y : settle b.graph ≡ G = cc in
          rw (← y) (settled_said b q)
      end b q (some n) u = let z : refused 9 n ≡ drawn G = rw (q, graph_of, u, reached_all) at e in clash (cc)

      by : (B : Built) → build_of T ≡ B → Says T G.edges
      by (built b) q = end b q (unreached (settle b.graph)) refl
      by (stopped k i) q = let z : refused k i ≡ drawn G = rw (q, graph_of) at e in clash (cc)
