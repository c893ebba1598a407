-- ForbidMultipleInstances, and clauses whose links alone count: the graph grew, the rest of the state is as it was or has one more last
-- solvable. And the dispatch over the kinds of clauses.
use Rattle.std.specs.Prelude.{◌≡◌, refl, List, [], ◌∷◌, ℕ, zero, suc, ◌+◌, ◌<◌, ◌≤◌, get_or, set, ltb, Result, Ok, Err}
use Rattle.std.proofs.Common.{sym, ap, ◌∙◌, ltb-true, ltb-false}
use Rattle.std.proofs.Math.Option.{Option, none, some}
use native.Mathlib.Omega.{arith}
use Rattle.std.proofs.Math.ListN.{length, get_or-eq_default}
use Rattle.basis.specs.Members.{split, clash}
use Rattle.records.specs.declared.Origin.{Origin}
use Rattle.records.specs.declared.Origin.TheVariants as O
use Rattle.records.specs.declared.Clause.{Clause}
use Rattle.records.specs.declared.Clause.TheVariants as C
use Rattle.records.specs.declared.Table.TheVariants.{Names, Solvables, Variables}
use Rattle.records.specs.declared.Slot.TheVariants as S
use Rattle.records.specs.declared.Shape.{Shape}
use Rattle.records.specs.Shapes.{Rec, shape_of}
use Rattle.records.specs.Tables.{Tables, at, no_rec}
use Rattle.records.specs.Read.{tables_of}
use Rattle.records.specs.Views.{origin_of, origin_by}
use Rattle.index.specs.Steps.{each_kind}
use Rattle.index.specs.Promise.{Valid, Sound}
use Rattle.index.specs.Index.{Loaded}
use Rattle.index.specs.Found.{loaded_valid}
use Rattle.store.specs.declared.Size.{Size}
use Rattle.store.specs.Graph.{Graph}
use Rattle.store.specs.Table.{graph_in, Growing, edges_count}
use Rattle.expansion.specs.Hashed.{last_in, triples_put}
use Rattle.store.specs.declared.Full.{Full}
use Rattle.linking.specs.Links.{solvable_in, name_forbidden, Link, requires_of, requirers, excluded_links, lock_links, constrains_links}
use Rattle.linking.specs.Working.{LinkedSoFar, more_to, short_at, link_all_in, forbid_all_in, last_by}
use Rattle.linking.specs.Growth.{grown_in, Grew, edges_all, edges_forbid}
use Rattle.expansion.specs.declared.Work.{Work}
use Rattle.expansion.specs.declared.Side.TheVariants.{Parent, Candidate}
use Rattle.expansion.specs.Expand.{Build}
use Rattle.expansion.specs.Working.{StepSoFar, on_to, stop_at, kept_in, lastly_in, forbid_clause_in, forbid_named_in, pair_in, expand_in}
use Rattle.expansion.specs.Lasts.{lasts_in, lasts_read, lasts_put}
use Rattle.expansion.specs.State.{build_in, Holds, progress_in, HoldsIn, Expanded}

-- ---- what a variable names is below its table's count

variable_slot : (k : ℕ) (s : Shape) → shape_of k ≡ some s → s.table ≡ Variables → s.c ≡ S.Named
variable_slot =
    each_kind (λ o. (s : Shape) → o ≡ some s → s.table ≡ Variables → s.c ≡ S.Named) (
      λ s e h. cc,
      (
        λ s e h. cc,
        (
          λ s e h. cc,
          (
            λ s e h. cc,
            (
              λ s e h. cc,
              (
                λ s e h. cc,
                (
                  λ s e h. cc,
                  (
                    λ s e h. cc,
                    (
                      λ s e h. cc,
                      (
                        λ s e h. cc,
                        (λ s e h. cc, (λ s e h. cc, (λ s e h. cc, (λ s e h. cc, (λ s e h. cc, (λ s e h. cc, (λ s e h. cc, (λ s e h. cc, tt)))))))),
                      ),
                    ),
                  ),
                ),
              ),
            ),
          ),
        ),
      ),
    )
    (λ s e h. cc)

is_solvable_lem : (o c n : ℕ) → origin_by o c ≡ O.Solvable n → (o ≡ 1) × (c ≡ n)
is_solvable_lem zero c n e = clash (cc)
is_solvable_lem (suc zero) c n e = (refl, cc)
is_solvable_lem (suc (suc zero)) c n e = clash (cc)
is_solvable_lem (suc (suc (suc zero))) c n e = clash (cc)
is_solvable_lem (suc (suc (suc (suc zero)))) c n e = clash (cc)
is_solvable_lem (suc (suc (suc (suc (suc o))))) c n e = clash (cc)

is_forbid_lem : (o c n : ℕ) → origin_by o c ≡ O.ForbidMultiple n → (o ≡ 2) × (c ≡ n)
is_forbid_lem zero c n e = clash (cc)
is_forbid_lem (suc zero) c n e = clash (cc)
is_forbid_lem (suc (suc zero)) c n e = (refl, cc)
is_forbid_lem (suc (suc (suc zero))) c n e = clash (cc)
is_forbid_lem (suc (suc (suc (suc zero)))) c n e = clash (cc)
is_forbid_lem (suc (suc (suc (suc (suc o))))) c n e = clash (cc)

module _ (T : Tables) (valid : Valid T) (v : ℕ) where
  abbrev rec : Rec
  rec = at T.variables v

  inside : (rec.b ≡ 0 → ⊥) → v < length T.variables
  inside h =
      split (ltb v (length T.variables))
      (λ t. ltb-true v (length T.variables) t)
      (λ t. let l : length T.variables ≤ v = ltb-false v (length T.variables) t in
      absurd (h (ap (λ (r : Rec). r.b) (get_or-eq_default T.variables no_rec l))))

  names : v < length T.variables → (rec.b ≡ 1 → rec.c < length T.solvables) × (rec.b ≡ 2 → rec.c < length T.names)
  names l =
      let s : Sound T Variables v rec = valid.sound Variables v l in
      let r = rw (variable_slot rec.kind s.shape s.known s.mine) at s.right_c in
      (r.0, r.1)

  pub solvable_below : (n : ℕ) → origin_of T v ≡ O.Solvable n → n < length T.solvables
  unfolding origin_of
  solvable_below n e =
      let p = is_solvable_lem rec.b rec.c n e in
      let b : rec.b ≡ 1 = p.0 in
      let c : rec.c ≡ n = p.1 in
      let l : v < length T.variables = inside (λ z. omega arith) in
      let h : rec.c < length T.solvables = (names l).0 b in
      omega arith

  pub name_below : (n : ℕ) → origin_of T v ≡ O.ForbidMultiple n → n < length T.names
  unfolding origin_of
  name_below n e =
      let p = is_forbid_lem rec.b rec.c n e in
      let b : rec.b ≡ 2 = p.0 in
      let c : rec.c ≡ n = p.1 in
      let l : v < length T.variables = inside (λ z. omega arith) in
      let h : rec.c < length T.names = (names l).1 b in
      omega arith

-- o is what `origin` gave
module _ (file ix : List ℕ) (L : Loaded file ix) (v n : ℕ) (o : Origin) (q : o ≡ origin_of (tables_of file) v) where
  pub solvable_small : o ≡ O.Solvable n → n < 256
  solvable_small e = omega (arith, solvable_below (tables_of file) (loaded_valid file ix L) v n (sym q ∙ e), (loaded_valid file ix L).within Solvables)

  pub name_small : o ≡ O.ForbidMultiple n → n < 128
  name_small e = omega (arith, name_below (tables_of file) (loaded_valid file ix L) v n (sym q ∙ e), (loaded_valid file ix L).within Names)

-- ---- the size alone changed

abbrev pub widened : Work → Result Size Full → Result Work Full
widened k (Ok s) = Ok (record { size = s; triples = k.triples })
widened k (Err e) = Err e

pub widen_on : (k : Work) (r : Result Size Full) (s : Size) → r ≡ Ok s → Ok (record { size = s; triples = k.triples }) ≡ widened k r
widen_on k r s e = ap (widened k) (sym e)

pub widen_full : (k : Work) (r : Result Size Full) (e : Full) → r ≡ Err e → Err e ≡ widened k r
widen_full k r s e = ap (widened k) (sym e)

pub ruleset widens = (widen_on, widen_full)

module _ (g tr w h : List ℕ) (k : Work) (H : Holds g tr w k) where
  fewer : (s : Size) (W : LinkedSoFar) → more_to (graph_in h s) ≡ W → Growing h s
      → ((j : Graph) → W ≡ more_to j → length (graph_in g k.size).edges ≤ length j.edges) → k.triples ≤ s.edges
  fewer s W q P f =
      omega (arith, f (graph_in h s) (sym q), edges_count h s P.stored, edges_count g k.size H.growing.stored, H.few)

  -- the links ls went in
  pub links_done : (ls : List Link) (r : Result Size Full) (d : Result Work Full) → Grew (link_all_in ls (graph_in g k.size)) h r → d ≡ widened k r
      → Expanded (kept_in (build_in g tr w k) (link_all_in ls (graph_in g k.size))) h tr w d
  links_done ls (Ok s) d R q =
      rw q
      (record {
        is = ap (kept_in (build_in g tr w k)) R.is;
        holds =
            record {
              growing = R.growing;
              triples = H.triples;
              few = fewer s (link_all_in ls (graph_in g k.size)) R.is R.growing (λ j e.
                  edges_all ls (graph_in g k.size) j e);
            };
      })
  links_done ls (Err e) d R q = rw q (record { is = ap (kept_in (build_in g tr w k)) R.is; holds = R.growing })

  -- p, the last solvable under name n as the table holds it, was linked to s, which is the last one now
  last_done : (p n s : ℕ) (l : List ℕ) (r : Result Size Full) → Grew (forbid_all_in (graph_in g k.size) (last_by p) s) h r → n < 128 → l ≡ set w (3072 + n) (s + 1)
      → Expanded (lastly_in (build_in g tr w k) n s (forbid_all_in (graph_in g k.size) (last_by p) s)) h tr l (widened k r)
  last_done p n s l (Ok z) R f q =
      let m : lasts_in l ≡ set (lasts_in w) n (some s) = lasts_put w l n s q f in
      record {
        is = rw (← R.is, m);
        holds =
            record {
              growing = R.growing;
              triples = triples_put tr w l k.triples n (s + 1) H.triples q f;
              few = fewer z (forbid_all_in (graph_in g k.size) (last_by p) s) R.is R.growing (λ j e. edges_forbid (graph_in g k.size) j (last_by p) s e);
            };
      }
  last_done p n s l (Err e) R f q = record { is = rw (← R.is); holds = R.growing }

-- ---- the ways of a ForbidMultipleInstances: a, b its variables, o, u their origins

module _ (T : Tables) (a b : ℕ) (o : Origin) (q : o ≡ origin_of T a) (g tr w : List ℕ) (k : Work) (H : Holds g tr w k) where
  pub forbid_skip : solvable_in o ≡ [] → Expanded (forbid_clause_in T a b (build_in g tr w k)) g tr w (Ok k)
  unfolding forbid_clause_in
  forbid_skip e = record { is = rw (← q, e); holds = H }

  pub forbid_unnamed : (u : Origin) (n : ℕ) → u ≡ origin_of T b → o ≡ O.Solvable n → name_forbidden u ≡ []
      → Expanded (forbid_clause_in T a b (build_in g tr w k)) g tr w (Ok k)
  unfolding forbid_clause_in
  forbid_unnamed u n z e f = record { is = rw (← q, ← z, e, f); holds = H }

  -- m' is the name's number as an index
  pub forbid_done : (u : Origin) (n m m' p : ℕ) (h l : List ℕ) (r : Result Size Full) (d : Result Work Full) → u ≡ origin_of T b → o ≡ O.Solvable n → u ≡ O.ForbidMultiple m
      → m' ≡ m → m' < 128 → p ≡ get_or (last_in w) m' 0 → Grew (forbid_all_in (graph_in g k.size) (last_by p) n) h r → l ≡ set w (3072 + m') (n + 1)
      → d ≡ widened k r → Expanded (forbid_clause_in T a b (build_in g tr w k)) h tr l d
  unfolding forbid_clause_in
  forbid_done u n m m' p h l r d z e f x y t R s v =
      let D : Expanded (lastly_in (build_in g tr w k) m' n (forbid_all_in (graph_in g k.size) (last_by p) n)) h tr l d =
      rw v (last_done g tr w h k H p m' n l r R y s) in
      record { is = D.is ∙ rw (← q, ← z, e, f, ← x, t, ← lasts_read w m'); holds = D.holds }

pub ruleset forbids = (forbid_skip, forbid_unnamed, forbid_done)

-- ---- the dispatch: c is a clause of the kind that the arm found

module _ (T : Tables) (c : Clause) (g tr w g' tr' w' : List ℕ) (k : Work) where
  pub expand_root : c ≡ C.InstallRoot → Holds g tr w k → Expanded (expand_in T c (build_in g tr w k)) g tr w (Ok k)
  unfolding expand_in
  expand_root e H = record { is = rw e; holds = H }

  pub expand_learnt : c ≡ C.Learnt → Holds g tr w k → Expanded (expand_in T c (build_in g tr w k)) g tr w (Ok k)
  unfolding expand_in
  expand_learnt e H = record { is = rw e; holds = H }

  pub expand_any : (a b : ℕ) → c ≡ C.AnyOf a b → Holds g tr w k → Expanded (expand_in T c (build_in g tr w k)) g tr w (Ok k)
  unfolding expand_in
  expand_any a b e H = record { is = rw e; holds = H }

  pub expand_excluded : (a r : ℕ) (u : Result Size Full) (d : Result Work Full) → c ≡ C.Excluded a r → Holds g tr w k
      → Grew (link_all_in (excluded_links T a r) (graph_in g k.size)) g' u → d ≡ widened k u → Expanded (expand_in T c (build_in g tr w k)) g' tr w d
  unfolding expand_in
  expand_excluded a r u d e H R q = rw e (links_done g tr w g' k H (excluded_links T a r) u d R q)

  pub expand_requires : (a q : ℕ) (u : Result Size Full) (d : Result Work Full) → c ≡ C.Requires a q → Holds g tr w k
      → Grew (link_all_in (requires_of T q (requirers T a)) (graph_in g k.size)) g' u → d ≡ widened k u → Expanded (expand_in T c (build_in g tr w k)) g' tr w d
  unfolding expand_in
  expand_requires a q u d e H R z = rw e (links_done g tr w g' k H (requires_of T q (requirers T a)) u d R z)

  pub expand_lock : (a b : ℕ) (u : Result Size Full) (d : Result Work Full) → c ≡ C.Lock a b → Holds g tr w k → Grew (link_all_in (lock_links T a b) (graph_in g k.size)) g' u
      → d ≡ widened k u → Expanded (expand_in T c (build_in g tr w k)) g' tr w d
  unfolding expand_in
  expand_lock a b u d e H R q = rw e (links_done g tr w g' k H (lock_links T a b) u d R q)

  pub expand_constrains : (a b v : ℕ) (u : Result Size Full) (d : Result Work Full) → c ≡ C.Constrains a b v → Holds g tr w k
      → Grew (link_all_in (constrains_links T a b v) (graph_in g k.size)) g' u → d ≡ widened k u → Expanded (expand_in T c (build_in g tr w k)) g' tr w d
  unfolding expand_in
  expand_constrains a b v u d e H R q = rw e (links_done g tr w g' k H (constrains_links T a b v) u d R q)

  pub expand_forbid : (a b : ℕ) (d : Result Work Full) → c ≡ C.ForbidMultipleInstances a b → Expanded (forbid_clause_in T a b (build_in g tr w k)) g' tr' w' d
      → Expanded (expand_in T c (build_in g tr w k)) g' tr' w' d
  unfolding expand_in
  expand_forbid a b d e R = rw e R

  pub expand_parent : (a b v : ℕ) (d : Result Work Full) → c ≡ C.ConstrainsParent a b v → Expanded (pair_in T Parent a b v (build_in g tr w k)) g' tr' w' d
      → Expanded (expand_in T c (build_in g tr w k)) g' tr' w' d
  unfolding expand_in
  expand_parent a b v d e R = rw e R

  pub expand_candidate : (a b v : ℕ) (d : Result Work Full) → c ≡ C.ConstrainsExcluded a b v → Expanded (pair_in T Candidate a b v (build_in g tr w k)) g' tr' w' d
      → Expanded (expand_in T c (build_in g tr w k)) g' tr' w' d
  unfolding expand_in
  expand_candidate a b v d e R = rw e R

pub ruleset expands =
    (expand_root, expand_learnt, expand_any, expand_excluded, expand_requires, expand_lock, expand_constrains, expand_forbid, expand_parent, expand_candidate)

-- the name's number as an index
pub name_wide : (file ix : List ℕ) (v m m' : ℕ) (u : Origin) → m' ≡ m → Loaded file ix → u ≡ origin_of (tables_of file) v → u ≡ O.ForbidMultiple m → m' < 128
name_wide file ix v m m' u x L q e = rw x (name_small file ix L v m u q e)
