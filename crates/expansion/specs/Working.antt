-- What each clause of the core adds, with what stays in working memory where there is no room: the graph as far as it came. With that
-- graph forgotten it is the expansion of `Expand`.
use Rattle.std.specs.Prelude.{◌≡◌, refl, Bool, true, false, List, [], ◌∷◌, ℕ, get_or, set, Option, Some, None}
use Rattle.std.proofs.Common.{sym, ap, ◌∙◌}
use Rattle.std.proofs.Math.Option.{none, some}
use Rattle.basis.specs.Lists.{any, snoc}
use Rattle.records.specs.declared.Clause.{Clause}
use Rattle.records.specs.declared.Clause.TheVariants as C
use Rattle.records.specs.Tables.{Tables}
use Rattle.records.specs.Views.{origin_of}
use Rattle.store.specs.declared.ConflictCause.TheVariants as K
use Rattle.store.specs.declared.ConflictEdge.{ConflictEdge}
use Rattle.store.specs.declared.ConflictEdge.TheVariants as W
use Rattle.store.specs.Graph.{Graph, add_link}
use Rattle.store.specs.Working.{AddedSoFar, added_to, full_at, add_link_in, forget_added, forget_link}
use Rattle.expansion.specs.Triple.{Triple, same_triple}
use Rattle.store.specs.declared.ConflictNode.{ConflictNode}
use Rattle.linking.specs.Links.{Link, party_of, solvable_in, name_forbidden, requirers, link_all, forbid_all}
use Rattle.linking.specs.Links.{requires_of, excluded_links, lock_links, constrains_links}
use Rattle.linking.specs.Working.{LinkedSoFar, more_to, short_at, link_all_in, forbid_all_in, forget_linked, forget_links, forget_forbid}
use Rattle.expansion.specs.declared.Side.{Side}
use Rattle.expansion.specs.declared.Side.TheVariants.{Parent, Candidate}
use Rattle.expansion.specs.Expand.{Build, ClauseStep, on, stop, kept_beside, noted, once, once_all, triples_of, others, pair_all}
use Rattle.expansion.specs.Expand.{lastly, forbid_in, forbid, pair, expand}

-- ---- the definitions

-- `ClauseStep`; where there is no room, with the graph so far
pub data StepSoFar : Type 0 where
  on_to : Build → StepSoFar
  stop_at : Graph → StepSoFar

abbrev pub kept_in : Build → LinkedSoFar → StepSoFar
kept_in b (more_to g) = on_to (record { graph = g; last = b.last; made = b.made })
kept_in b (short_at g) = stop_at g

abbrev pub noted_in : Build → Triple → AddedSoFar → StepSoFar
noted_in b t (added_to i g) = on_to (record { graph = g; last = b.last; made = snoc b.made t })
noted_in b t (full_at g) = stop_at g

unfoldable pub once_in : Build → Triple → StepSoFar
unfolding add_link_in
once_in b t =
    elim (any (same_triple t) b.made) [
      | true ↦ on_to b
      | false ↦ noted_in b t (add_link_in b.graph t.parent t.candidate (W.Conflict (K.Constrains t.vset)))
    ]

unfoldable pub once_all_in : List Triple → Build → StepSoFar
unfolding once_in
once_all_in [] b = on_to b
once_all_in (t ∷ rest) b = elim (once_in b t) [ stop_at g ↦ stop_at g | on_to c ↦ once_all_in rest c ]

abbrev pub pair_all_in : Tables → Side → ℕ → ℕ → Option ConflictNode → Build → StepSoFar
pair_all_in T side b v None d = on_to d
pair_all_in T side b v (Some n) d = once_all_in (triples_of side n v (others T side b)) d

abbrev pub lastly_in : Build → ℕ → ℕ → LinkedSoFar → StepSoFar
lastly_in b n s (more_to g) = on_to (record { graph = g; last = set b.last n (some s); made = b.made })
lastly_in b n s (short_at g) = stop_at g

abbrev pub forbid_named_in : Build → List ℕ → List ℕ → StepSoFar
forbid_named_in b [] ns = on_to b
forbid_named_in b (s ∷ ss) [] = on_to b
forbid_named_in b (s ∷ ss) (n ∷ ns) = lastly_in b n s (forbid_all_in b.graph (get_or b.last n none) s)

unfoldable pub forbid_clause_in : Tables → ℕ → ℕ → Build → StepSoFar
unfolding origin_of forbid_all_in
forbid_clause_in T x y b = forbid_named_in b (solvable_in (origin_of T x)) (name_forbidden (origin_of T y))

unfoldable pub pair_in : Tables → Side → ℕ → ℕ → ℕ → Build → StepSoFar
unfolding once_all_in triples_of others party_of
pair_in T side a b v d = pair_all_in T side b v (party_of T a) d

abbrev pub expand_by_in : Tables → Build → Clause → StepSoFar
expand_by_in T d C.InstallRoot = on_to d
expand_by_in T d (C.Excluded a r) = kept_in d (link_all_in (excluded_links T a r) d.graph)
expand_by_in T d C.Learnt = on_to d
expand_by_in T d (C.Requires a q) = kept_in d (link_all_in (requires_of T q (requirers T a)) d.graph)
expand_by_in T d (C.Lock a b) = kept_in d (link_all_in (lock_links T a b) d.graph)
expand_by_in T d (C.ForbidMultipleInstances a b) = forbid_clause_in T a b d
expand_by_in T d (C.Constrains a b v) = kept_in d (link_all_in (constrains_links T a b v) d.graph)
expand_by_in T d (C.ConstrainsParent a b v) = pair_in T Parent a b v d
expand_by_in T d (C.ConstrainsExcluded a b v) = pair_in T Candidate a b v d
expand_by_in T d (C.AnyOf a b) = on_to d

unfoldable pub expand_in : Tables → Clause → Build → StepSoFar
unfolding link_all_in excluded_links requires_of requirers lock_links forbid_clause_in constrains_links pair_in
expand_in T c b = expand_by_in T b c

-- ---- with the graph forgotten

abbrev pub forget_step : StepSoFar → ClauseStep
forget_step (on_to b) = on b
forget_step (stop_at g) = stop

forget_kept : (b : Build) (l : LinkedSoFar) → forget_step (kept_in b l) ≡ kept_beside b (forget_linked l)
forget_kept b (more_to g) = refl
forget_kept b (short_at g) = refl

forget_lastly : (b : Build) (n s : ℕ) (l : LinkedSoFar) → forget_step (lastly_in b n s l) ≡ lastly b n s (forget_linked l)
forget_lastly b n s (more_to g) = refl
forget_lastly b n s (short_at g) = refl

forget_noted : (b : Build) (t : Triple) (a : AddedSoFar) → forget_step (noted_in b t a) ≡ noted b t (forget_added a)
forget_noted b t (added_to i g) = refl
forget_noted b t (full_at g) = refl

-- the links ls of a clause that touches nothing else
forget_linked_lem : (b : Build) (ls : List Link) → forget_step (kept_in b (link_all_in ls b.graph)) ≡ kept_beside b (link_all ls b.graph)
forget_linked_lem b ls = forget_kept b (link_all_in ls b.graph) ∙ ap (kept_beside b) (forget_links ls b.graph)

pub forget_once : (b : Build) (t : Triple) → forget_step (once_in b t) ≡ once b t
unfolding once_in once
forget_once b t = by_made (any (same_triple t) b.made) (W.Conflict (K.Constrains t.vset))
  where
    by_made : (m : Bool) (w : ConflictEdge)
        → forget_step (elim m [ true ↦ on_to b | false ↦ noted_in b t (add_link_in b.graph t.parent t.candidate w) ])
        ≡ elim m [ true ↦ on b | false ↦ noted b t (add_link b.graph t.parent t.candidate w) ]
    by_made true w = refl
    by_made false w =
        forget_noted b t (add_link_in b.graph t.parent t.candidate w)
        ∙ ap (noted b t) (forget_link b.graph t.parent t.candidate w)

forget_then : (ts : List Triple) (s : StepSoFar) → ((c : Build) → forget_step (once_all_in ts c) ≡ once_all ts c)
    → forget_step (elim s [ stop_at g ↦ stop_at g | on_to c ↦ once_all_in ts c ]) ≡ elim (forget_step s) [ stop ↦ stop | on c ↦ once_all ts c ]
forget_then ts (on_to c) f = f c
forget_then ts (stop_at g) f = refl

pub forget_onces : (ts : List Triple) (b : Build) → forget_step (once_all_in ts b) ≡ once_all ts b
unfolding once_all_in once_all
forget_onces [] b = refl
forget_onces (t ∷ ts) b =
    forget_then ts (once_in b t) (forget_onces ts)
    ∙ ap (λ (s : ClauseStep). elim s as (λ _. ClauseStep) [ stop ↦ stop | on c ↦ once_all ts c ]) (forget_once b t)

pub forget_pair : (T : Tables) (side : Side) (a b v : ℕ) (d : Build) → forget_step (pair_in T side a b v d) ≡ pair T side a b v d
unfolding pair_in pair
forget_pair T side a b v d = by_party (party_of T a)
  where
    by_party : (p : Option ConflictNode) → forget_step (pair_all_in T side b v p d) ≡ pair_all T side b v p d
    by_party None = refl
    by_party (Some n) = forget_onces (triples_of side n v (others T side b)) d

pub forget_forbidden : (T : Tables) (x y : ℕ) (b : Build) → forget_step (forbid_clause_in T x y b) ≡ forbid T x y b
unfolding forbid_clause_in forbid
forget_forbidden T x y b = by_names (solvable_in (origin_of T x)) (name_forbidden (origin_of T y))
  where
    by_names : (ss ns : List ℕ) → forget_step (forbid_named_in b ss ns) ≡ forbid_in b ss ns
    by_names [] ns = refl
    by_names (s ∷ ss) [] = refl
    by_names (s ∷ ss) (n ∷ ns) =
        forget_lastly b n s (forbid_all_in b.graph (get_or b.last n none) s)
        ∙ ap (lastly b n s) (forget_forbid b.graph (get_or b.last n none) s)

pub forget_expand : (T : Tables) (c : Clause) (b : Build) → forget_step (expand_in T c b) ≡ expand T c b
unfolding expand_in expand
forget_expand T C.InstallRoot b = refl
forget_expand T (C.Excluded a r) b = forget_linked_lem b (excluded_links T a r)
forget_expand T C.Learnt b = refl
forget_expand T (C.Requires a q) b = forget_linked_lem b (requires_of T q (requirers T a))
forget_expand T (C.Lock a c) b = forget_linked_lem b (lock_links T a c)
forget_expand T (C.ForbidMultipleInstances a c) b = forget_forbidden T a c b
forget_expand T (C.Constrains a c v) b = forget_linked_lem b (constrains_links T a c v)
forget_expand T (C.ConstrainsParent a c v) b = forget_pair T Parent a c v b
forget_expand T (C.ConstrainsExcluded a c v) b = forget_pair T Candidate a c v b
forget_expand T (C.AnyOf a c) b = refl
