-- What each clause of the core adds to the graph, to the triples made and to the last solvables (conflict.rs: `Conflict::graph`;
-- document 01, "Graph rules").
use Rattle.std.specs.Prelude.{Bool, true, false, List, [], ◌∷◌, map, ℕ, get_or, set, replicate, Option as Maybe, Some, None}
use Rattle.std.proofs.Math.Option.{Option, none, some}
use Rattle.basis.specs.Lists.{any, snoc}
use Rattle.records.specs.declared.Clause.{Clause}
use Rattle.records.specs.declared.Clause.TheVariants as C
use Rattle.records.specs.Tables.{Tables}
use Rattle.records.specs.Views.{origin_of, aux_partners}
use Rattle.store.specs.declared.ConflictNode.{ConflictNode}
use Rattle.store.specs.declared.ConflictNode.TheVariants as N
use Rattle.store.specs.declared.ConflictCause.TheVariants as K
use Rattle.store.specs.declared.ConflictEdge.TheVariants as W
use Rattle.store.specs.Graph.{Graph, start_graph, Added, added, full, add_node, add_edge, add_link}
use Rattle.expansion.specs.Triple.{Triple, triple, same_triple}
use Rattle.linking.specs.Links.{party_of, solvable_in, name_forbidden, parent_reason, excluded_reason, partners_or, requirers}
use Rattle.linking.specs.Links.{Linked, more, short, link_all, requires_of, excluded_links, lock_links, constrains_links, forbid_all}
use Rattle.expansion.specs.declared.Side.{Side}
use Rattle.expansion.specs.declared.Side.TheVariants.{Parent, Candidate}

-- ---- building

-- the graph so far, by a name's number the last solvable under that forbidden name, if there is one (`last_node_by_name`), and the
-- triples made (`constrains_edges`): conflict.rs, lines 50, 57 and 163
pub record Build : Type 0 where
  pub graph : Graph
  pub last : List (Option ℕ)
  pub made : List Triple

-- what the loop begins with (conflict.rs, lines 50 to 57 and 163): root and unresolved, no name, no triple
abbrev pub start_build : Build
start_build = record { graph = start_graph; last = replicate 128 none; made = [] }

-- what a clause leads to in `expand_by`: the build goes on; or 8, "node 129 or edge 1,025 would be added"
pub data ClauseStep : Type 0 where
  on : Build → ClauseStep
  stop : ClauseStep

-- the links of a clause that touches nothing else, in `expand_by`
abbrev pub kept_beside : Build → Linked → ClauseStep
kept_beside b (more g) = on (record { graph = g; last = b.last; made = b.made })
kept_beside b short = stop

-- "Each triple .. makes one edge" (`constrains_edges.insert`, conflict.rs, lines 291 and 319)
abbrev pub noted : Build → Triple → Added → ClauseStep
noted b t (added i g) = on (record { graph = g; last = b.last; made = snoc b.made t })
noted b t full = stop

-- "Each triple (parent, candidate, version set of the clause at hand) from clauses 23 and 24 makes one edge"
unfoldable pub once : Build → Triple → ClauseStep
unfolding add_link add_node add_edge
once b t =
    elim (any (same_triple t) b.made) [
      | true ↦ on b
      | false ↦ noted b t (add_link b.graph t.parent t.candidate (W.Conflict (K.Constrains t.vset)))
    ]

-- "a clause's partners in file order"
unfoldable pub once_all : List Triple → Build → ClauseStep
unfolding once
once_all [] b = on b
once_all (t ∷ rest) b = elim (once b t) [ stop ↦ stop | on c ↦ once_all rest c ]

-- "(parent, candidate, version set of the clause at hand)": the clause's own node, and one of the other side
abbrev pub triple_by : Side → ConflictNode → ℕ → ConflictNode → Triple
triple_by Parent p v d = triple p d v
triple_by Candidate d v p = triple p d v

-- the triples of a clause, "a clause's partners in file order"
unfoldable pub triples_of : Side → ConflictNode → ℕ → List ConflictNode → List Triple
triples_of side n v ms = map (triple_by side n v) ms

-- the other side of an auxiliary: for a parent the candidates that it excludes (kind 24), for a candidate the parents (kind 23);
-- "a side absent from the core comes from the assigned-by clause of the auxiliary"
unfoldable pub others : Tables → Side → ℕ → List ConflictNode
unfolding partners_or aux_partners parent_reason excluded_reason
others T Parent v = partners_or T (aux_partners T 24 v) (excluded_reason T v)
others T Candidate v = partners_or T (aux_partners T 23 v) (parent_reason T v)

-- clauses 23 and 24: the clause's own node with each of the other side (conflict.rs, lines 281 to 336)
abbrev pub pair_all : Tables → Side → ℕ → ℕ → Maybe ConflictNode → Build → ClauseStep
pair_all T side b v None d = on d
pair_all T side b v (Some n) d = once_all (triples_of side n v (others T side b)) d

-- the solvable is now the last one under the name (`last_node_by_name.insert`, conflict.rs, line 255)
abbrev pub lastly : Build → ℕ → ℕ → Linked → ClauseStep
lastly b n s (more g) = on (record { graph = g; last = set b.last n (some s); made = b.made })
lastly b n s short = stop

-- solvable and forbidden name, where the variables name them (conflict.rs, lines 243 to 263)
abbrev pub forbid_in : Build → List ℕ → List ℕ → ClauseStep
forbid_in b [] ns = on b
forbid_in b (s ∷ ss) [] = on b
forbid_in b (s ∷ ss) (n ∷ ns) = lastly b n s (forbid_all b.graph (get_or b.last n none) s)

-- "ForbidMultipleInstances links the previous solvable under that forbidden name to this one."
unfoldable pub forbid : Tables → ℕ → ℕ → Build → ClauseStep
unfolding origin_of forbid_all
forbid T x y b = forbid_in b (solvable_in (origin_of T x)) (name_forbidden (origin_of T y))

-- clauses 23 and 24, by the node that a names (`pair_all`)
unfoldable pub pair : Tables → Side → ℕ → ℕ → ℕ → Build → ClauseStep
unfolding once_all triples_of others party_of
pair T side a b v d = pair_all T side b v (party_of T a) d

-- one clause of the core (the match of `Conflict::graph`, conflict.rs, lines 168 to 350); Learnt is refused before
abbrev pub expand_by : Tables → Build → Clause → ClauseStep
expand_by T d C.InstallRoot = on d
expand_by T d (C.Excluded a r) = kept_beside d (link_all (excluded_links T a r) d.graph)
expand_by T d C.Learnt = on d
expand_by T d (C.Requires a q) = kept_beside d (link_all (requires_of T q (requirers T a)) d.graph)
expand_by T d (C.Lock a b) = kept_beside d (link_all (lock_links T a b) d.graph)
expand_by T d (C.ForbidMultipleInstances a b) = forbid T a b d
expand_by T d (C.Constrains a b v) = kept_beside d (link_all (constrains_links T a b v) d.graph)
expand_by T d (C.ConstrainsParent a b v) = pair T Parent a b v d
expand_by T d (C.ConstrainsExcluded a b v) = pair T Candidate a b v d
expand_by T d (C.AnyOf a b) = on d

-- one clause of the core (`expand_by`)
unfoldable pub expand : Tables → Clause → Build → ClauseStep
unfolding link_all excluded_links requires_of requirers lock_links forbid constrains_links pair
expand T c b = expand_by T b c
