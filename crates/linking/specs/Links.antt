-- What a clause of the core links (conflict.rs: `Conflict::graph`; document 01, "Graph rules"): the nodes that its variables name, and its
-- edges in order.
use Rattle.std.specs.Prelude.{List, [], ◌∷◌, ◌++◌, map, ℕ, Option, Some, None}
use Rattle.std.proofs.Math.Option.{Option as Maybe, none, some}
use Rattle.basis.specs.Lists.{concat_map, or_else}
use Rattle.records.specs.declared.Origin.{Origin}
use Rattle.records.specs.declared.Origin.TheVariants as O
use Rattle.records.specs.declared.Clause.{Clause}
use Rattle.records.specs.declared.Clause.TheVariants as C
use Rattle.records.specs.Tables.{Tables}
use Rattle.records.specs.Views.{origin_of, clause_in, clause_of, assigned_by, candidates_of, gate_partners}
use Rattle.store.specs.declared.ConflictNode.{ConflictNode}
use Rattle.store.specs.declared.ConflictNode.TheVariants as N
use Rattle.store.specs.declared.ConflictCause.TheVariants as K
use Rattle.store.specs.declared.ConflictEdge.{ConflictEdge}
use Rattle.store.specs.declared.ConflictEdge.TheVariants as W
use Rattle.store.specs.Graph.{Graph, Added, added, full, add_node, add_edge, add_link}

-- ---- variables as nodes

-- conflict.rs, `as_solvable_or_root`: the other origins name neither
abbrev pub party_by : Origin → Option ConflictNode
party_by O.Root = Some N.Root
party_by (O.Solvable s) = Some (N.Solvable s)
party_by (O.ForbidMultiple n) = None
party_by O.RequiresGate = None
party_by O.ConstrainsAuxiliary = None
party_by O.Other = None

-- the node that variable v names, if it does (conflict.rs, `as_solvable_or_root`)
unfoldable pub party_of : Tables → ℕ → Option ConflictNode
unfolding origin_of
party_of T v = party_by (origin_of T v)

-- `Option::into_iter`: the node, or none
abbrev pub as_list : Option ConflictNode → List ConflictNode
as_list (Some n) = n ∷ []
as_list None = []

-- a variable's node, or none: "Partners neither root nor solvable are skipped."
abbrev pub nodes_named : Tables → ℕ → List ConflictNode
nodes_named T v = as_list (party_of T v)

-- conflict.rs, `as_solvable`: the solvable that a variable stands for; the other origins skip the clause
abbrev pub solvable_in : Origin → List ℕ
solvable_in O.Root = []
solvable_in (O.Solvable s) = s ∷ []
solvable_in (O.ForbidMultiple n) = []
solvable_in O.RequiresGate = []
solvable_in O.ConstrainsAuxiliary = []
solvable_in O.Other = []

-- the name that a forbid-multiple variable forbids twice (conflict.rs, lines 249 to 253)
abbrev pub name_forbidden : Origin → List ℕ
name_forbidden O.Root = []
name_forbidden (O.Solvable s) = []
name_forbidden (O.ForbidMultiple n) = n ∷ []
name_forbidden O.RequiresGate = []
name_forbidden O.ConstrainsAuxiliary = []
name_forbidden O.Other = []

-- ---- recovery: the clause that assigned a variable (conflict.rs: `reason_clause`), by its kind, "whatever its own auxiliary"

-- "b of the gate's assigned-by clause if that is AnyOf, whatever its a"
abbrev pub any_of_in : Tables → Clause → Option ConflictNode
any_of_in T C.InstallRoot = None
any_of_in T (C.Excluded a b) = None
any_of_in T C.Learnt = None
any_of_in T (C.Requires a b) = None
any_of_in T (C.Lock a b) = None
any_of_in T (C.ForbidMultipleInstances a b) = None
any_of_in T (C.Constrains a b c) = None
any_of_in T (C.ConstrainsParent a b c) = None
any_of_in T (C.ConstrainsExcluded a b c) = None
any_of_in T (C.AnyOf a b) = party_of T b

-- the parent, "if that is of the other kind, whatever its own auxiliary" (conflict.rs, line 113)
abbrev pub parent_in : Tables → Clause → Option ConflictNode
parent_in T C.InstallRoot = None
parent_in T (C.Excluded a b) = None
parent_in T C.Learnt = None
parent_in T (C.Requires a b) = None
parent_in T (C.Lock a b) = None
parent_in T (C.ForbidMultipleInstances a b) = None
parent_in T (C.Constrains a b c) = None
parent_in T (C.ConstrainsParent a b c) = party_of T a
parent_in T (C.ConstrainsExcluded a b c) = None
parent_in T (C.AnyOf a b) = None

-- the candidate, "if that is of the other kind, whatever its own auxiliary" (conflict.rs, line 102)
abbrev pub excluded_in : Tables → Clause → Option ConflictNode
excluded_in T C.InstallRoot = None
excluded_in T (C.Excluded a b) = None
excluded_in T C.Learnt = None
excluded_in T (C.Requires a b) = None
excluded_in T (C.Lock a b) = None
excluded_in T (C.ForbidMultipleInstances a b) = None
excluded_in T (C.Constrains a b c) = None
excluded_in T (C.ConstrainsParent a b c) = None
excluded_in T (C.ConstrainsExcluded a b c) = party_of T a
excluded_in T (C.AnyOf a b) = None

-- by "the gate's assigned-by clause" (conflict.rs, line 152)
unfoldable pub gate_reason : Tables → ℕ → Option ConflictNode
unfolding assigned_by clause_of clause_in party_of
gate_reason T v = elim (assigned_by T v) [ none ↦ None | some i ↦ any_of_in T (clause_of T i) ]

-- by "the assigned-by clause of the auxiliary" (conflict.rs, lines 109 to 119)
unfoldable pub parent_reason : Tables → ℕ → Option ConflictNode
unfolding assigned_by clause_of clause_in party_of
parent_reason T v = elim (assigned_by T v) [ none ↦ None | some i ↦ parent_in T (clause_of T i) ]

-- by "the assigned-by clause of the auxiliary" (conflict.rs, lines 98 to 108)
unfoldable pub excluded_reason : Tables → ℕ → Option ConflictNode
unfolding assigned_by clause_of clause_in party_of
excluded_reason T v = elim (assigned_by T v) [ none ↦ None | some i ↦ excluded_in T (clause_of T i) ]

-- the nodes of the partners in the core; "If none is left", the recovered one
unfoldable pub partners_or : Tables → List ℕ → Option ConflictNode → List ConflictNode
unfolding party_of
partners_or T vs p = or_else (concat_map (nodes_named T) vs) (as_list p)

-- "Requires: for each requirer": the variable itself, or the gate's requirers; another origin adds nothing
abbrev pub requirers_by : Tables → ℕ → Origin → List ConflictNode
requirers_by T v O.Root = N.Root ∷ []
requirers_by T v (O.Solvable s) = N.Solvable s ∷ []
requirers_by T v (O.ForbidMultiple n) = []
requirers_by T v O.RequiresGate = partners_or T (gate_partners T v) (gate_reason T v)
requirers_by T v O.ConstrainsAuxiliary = []
requirers_by T v O.Other = []

-- the nodes that require by variable v (conflict.rs, lines 192 to 199)
unfoldable pub requirers : Tables → ℕ → List ConflictNode
unfolding origin_of partners_or gate_partners gate_reason
requirers T v = requirers_by T v (origin_of T v)

-- ---- links

-- an edge by what its ends stand for: what `add_link` adds
pub record Link : Type 0 where
  pub source : ConflictNode
  pub target : ConflictNode
  pub weight : ConflictEdge

-- a `Link`
abbrev pub link : ConflictNode → ConflictNode → ConflictEdge → Link
link x y w = record { source = x; target = y; weight = w }

-- the graph with all links, or 8, "node 129 or edge 1,025 would be added"
pub data Linked : Type 0 where
  more : Graph → Linked
  short : Linked

-- the links one after another, each by `add_link`
unfoldable pub link_all : List Link → Graph → Linked
unfolding add_link add_node add_edge
link_all [] g = more g
link_all (l ∷ rest) g = elim (add_link g l.source l.target l.weight) [ full ↦ short | added i h ↦ link_all rest h ]

-- "an edge per candidate in table order, or one to unresolved if there are none"
abbrev pub require_link : ℕ → ConflictNode → ℕ → Link
require_link q p c = link p (N.Solvable c) (W.Requires q)

-- of one requirer: "an edge per candidate in table order, or one to unresolved if there are none"
abbrev pub require_links : ℕ → List ℕ → ConflictNode → List Link
require_links q [] p = link p N.UnresolvedDependency (W.Requires q) ∷ []
require_links q (c ∷ cs) p = map (require_link q p) (c ∷ cs)

-- "Requires: for each requirer, an edge per candidate in table order" (conflict.rs, lines 205 to 229)
unfoldable pub requires_of : Tables → ℕ → List ConflictNode → List Link
unfolding candidates_of
requires_of T q ps = concat_map (require_links q (candidates_of T q)) ps

-- "One excluded node per reason."
unfoldable pub excluded_links : Tables → ℕ → ℕ → List Link
unfolding origin_of
excluded_links T a r = map (λ s. link (N.Solvable s) (N.Excluded r) (W.Conflict K.Excluded)) (solvable_in (origin_of T a))

-- "Lock runs from the root to the forbidden one."
unfoldable pub lock_links : Tables → ℕ → ℕ → List Link
unfolding origin_of
lock_links T a b =
    concat_map (λ l. map (λ f. link N.Root (N.Solvable f) (W.Conflict (K.Locked l))) (solvable_in (origin_of T b))) (solvable_in (origin_of T a))

-- Constrains: from a's node to b's, with the version set (conflict.rs, lines 264 to 280)
unfoldable pub constrains_links : Tables → ℕ → ℕ → ℕ → List Link
unfolding party_of
constrains_links T a b v = concat_map (λ n. map (λ m. link n m (W.Conflict (K.Constrains v))) (nodes_named T b)) (nodes_named T a)

-- "links the previous solvable under that forbidden name to this one", if there is one
abbrev pub previous_links : Maybe ℕ → ℕ → List Link
previous_links none s = []
previous_links (some p) s = link (N.Solvable p) (N.Solvable s) (W.Conflict K.ForbidMultipleInstances) ∷ []

-- the node is added even where there is no link (conflict.rs, line 247)
unfoldable pub forbid_all : Graph → Maybe ℕ → ℕ → Linked
unfolding add_node link_all
forbid_all g p s = elim (add_node g (N.Solvable s)) [ full ↦ short | added i h ↦ link_all (previous_links p s) h ]
