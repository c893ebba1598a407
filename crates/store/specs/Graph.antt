-- The graph: nodes and edges as added, oldest first; what is left when `unresolved` may have gone; what is reached.
use Rattle.std.specs.Prelude.{Bool, true, false, cond, ◌&&◌, ◌||◌, not, List, [], ◌∷◌, ◌++◌, map, reverse, ℕ, zero, suc, ◌-◌, length, get_or, drop, ltb, eqb}
use Rattle.std.proofs.Math.Option.{Option, none, some}
use Rattle.basis.specs.Lists.{any, filter, first, place, has, snoc, upto}
use Rattle.store.specs.declared.ConflictNode.{ConflictNode}
use Rattle.store.specs.declared.ConflictNode.TheVariants as N
use Rattle.store.specs.declared.ConflictCause.TheVariants as C
use Rattle.store.specs.declared.ConflictEdge.{ConflictEdge}
use Rattle.store.specs.declared.ConflictEdge.TheVariants as W
use Rattle.store.specs.declared.Edge.{Edge}

-- document 02, order 3: "An edge entry gains the number of the core clause that added it", which is `clause` of an edge; "per node, the
-- clause that first added it; root and unresolved show 65,535", which is `firsts`. `hand` is the clause at hand: what is added keeps it
pub record Graph : Type 0 where
  pub nodes : List ConflictNode
  pub edges : List Edge
  pub firsts : List ℕ
  pub hand : ℕ

-- conflict.rs, `ConflictNode`: its `==`
abbrev pub same_node : ConflictNode → ConflictNode → Bool
same_node N.Root N.Root = true
same_node N.Root (N.Solvable t) = false
same_node N.Root N.UnresolvedDependency = false
same_node N.Root (N.Excluded t) = false
same_node (N.Solvable s) N.Root = false
same_node (N.Solvable s) (N.Solvable t) = eqb s t
same_node (N.Solvable s) N.UnresolvedDependency = false
same_node (N.Solvable s) (N.Excluded t) = false
same_node N.UnresolvedDependency N.Root = false
same_node N.UnresolvedDependency (N.Solvable t) = false
same_node N.UnresolvedDependency N.UnresolvedDependency = true
same_node N.UnresolvedDependency (N.Excluded t) = false
same_node (N.Excluded s) N.Root = false
same_node (N.Excluded s) (N.Solvable t) = false
same_node (N.Excluded s) N.UnresolvedDependency = false
same_node (N.Excluded s) (N.Excluded t) = eqb s t

-- "Root is node 0, unresolved node 1, others as first added"
abbrev pub start_graph : Graph
start_graph = record { nodes = N.Root ∷ N.UnresolvedDependency ∷ []; edges = []; firsts = 65535 ∷ 65535 ∷ []; hand = 65535 }

-- the graph with clause i at hand, as `handed` gives it
abbrev pub handing : ℕ → Graph → Graph
handing i g = record { nodes = g.nodes; edges = g.edges; firsts = g.firsts; hand = i }

-- one more node, which the clause at hand adds first: "per node, the clause that first added it"
abbrev pub with_node : Graph → ConflictNode → Graph
with_node g x = record { nodes = snoc g.nodes x; edges = g.edges; firsts = snoc g.firsts g.hand; hand = g.hand }

-- conflict.rs, `add_edge`: one more edge, behind the older ones
abbrev pub with_edge : Graph → Edge → Graph
with_edge g e = record { nodes = g.nodes; edges = snoc g.edges e; firsts = g.firsts; hand = g.hand }

-- ---- adding: 8 where "node 129 or edge 1,025 would be added"

-- how adding went: the number of the node or edge, and the graph with it; or 8, "node 129 or edge 1,025 would be added"
pub data Added : Type 0 where
  added : ℕ → Graph → Added
  full : Added

-- conflict.rs, `add_node`: the node's number, a new one where it is not there yet
unfoldable pub add_node : Graph → ConflictNode → Added
add_node g x =
    elim (place (same_node x) g.nodes 0) [
      | some i ↦ added i g
      | none ↦ cond (ltb (length g.nodes) 128) (added (length g.nodes) (with_node g x)) full
    ]

-- conflict.rs, `add_edge`; no room for "edge 1,025"
unfoldable pub add_edge : Graph → Edge → Added
add_edge g e = cond (ltb (length g.edges) 1024) (added (length g.edges) (with_edge g e)) full

-- both ends, the source first, then the edge, which keeps the clause at hand (conflict.rs, lines 206 and 220 to 226)
unfoldable pub add_link : Graph → ConflictNode → ConflictNode → ConflictEdge → Added
unfolding add_node add_edge
add_link g x y w =
    elim (add_node g x) [
      | full ↦ full
      | added i h ↦ elim (add_node h y) [ full ↦ full | added j k ↦ add_edge k (record { source = i; target = j; weight = w; clause = k.hand }) ]
    ]

-- ---- "If unresolved has no incoming edge it is removed, and the last node takes number 1."
-- conflict.rs leaves this to petgraph's `remove_node`; no edge goes with it, since none starts at unresolved, and edges keep their order.
-- A node takes the clause that first added it along, and an edge keeps its own

-- "the last node takes number 1"
abbrev pub renumber : ℕ → ℕ → ℕ
renumber last x = cond (eqb x last) 1 x

-- both ends of an edge: "the last node takes number 1"
abbrev pub renumber_edge : ℕ → Edge → Edge
renumber_edge last e = record { source = renumber last e.source; target = renumber last e.target; weight = e.weight; clause = e.clause }

-- `slice::last`, as a list of one or of none
abbrev pub last_one : {A : Type 0} → List A → List A
last_one [] = []
last_one (x ∷ []) = x ∷ []
last_one (x ∷ y ∷ r) = last_one (y ∷ r)

-- `slice::split_last`: all but the last
abbrev pub front : {A : Type 0} → List A → List A
front [] = []
front (x ∷ []) = []
front (x ∷ y ∷ r) = x ∷ front (y ∷ r)

-- "If unresolved has no incoming edge it is removed, and the last node takes number 1." (conflict.rs, lines 354 to 363)
unfoldable pub settle : Graph → Graph
settle g =
    cond (any (λ e. eqb e.target 1) g.edges) g
    (record {
      nodes = N.Root ∷ last_one (drop 2 g.nodes) ++ front (drop 2 g.nodes);
      edges = map (renumber_edge (length g.nodes - 1)) g.edges;
      firsts = 65535 ∷ last_one (drop 2 g.firsts) ++ front (drop 2 g.firsts);
      hand = g.hand;
    })

-- ---- looking at a graph: "Outgoing and incoming edges are read newest first."

-- "Outgoing and incoming edges are read newest first."
unfoldable pub out : Graph → ℕ → List Edge
out g n = filter (λ e. eqb e.source n) (reverse g.edges)

-- "Outgoing and incoming edges are read newest first."
unfoldable pub into : Graph → ℕ → List Edge
into g n = filter (λ e. eqb e.target n) (reverse g.edges)

-- the node with this number: "Root is node 0, unresolved node 1, others as first added."
abbrev pub node_at : Graph → ℕ → ConflictNode
node_at g n = get_or g.nodes n N.Root

-- of node n, "the clause that first added it"
abbrev pub first_at : Graph → ℕ → ℕ
first_at g n = get_or g.firsts n 65535

-- conflict.rs, `ConflictNode::Solvable`
abbrev pub is_solvable : ConflictNode → Bool
is_solvable N.Root = false
is_solvable (N.Solvable s) = true
is_solvable N.UnresolvedDependency = false
is_solvable (N.Excluded r) = false

-- conflict.rs, `ConflictNode::UnresolvedDependency`
abbrev pub is_unresolved : ConflictNode → Bool
is_unresolved N.Root = false
is_unresolved (N.Solvable s) = false
is_unresolved N.UnresolvedDependency = true
is_unresolved (N.Excluded r) = false

-- conflict.rs, `ConflictEdge::Conflict`
abbrev pub is_conflict : ConflictEdge → Bool
is_conflict (W.Requires q) = false
is_conflict (W.Conflict c) = true

-- conflict.rs, `try_requires`
abbrev pub try_requires : ConflictEdge → Option ℕ
try_requires (W.Requires q) = some q
try_requires (W.Conflict c) = none

-- conflict.rs, `ConflictCause::Excluded`
abbrev pub is_excluded : ConflictEdge → Bool
is_excluded (W.Requires q) = false
is_excluded (W.Conflict (C.Locked s)) = false
is_excluded (W.Conflict (C.Constrains v)) = false
is_excluded (W.Conflict C.ForbidMultipleInstances) = false
is_excluded (W.Conflict C.Excluded) = true

-- ---- 9: "a node not reached from the root"

-- one step of `Bfs` (conflict.rs, line 368): the nodes seen so far, and those that an edge leads to from one of them
abbrev pub spread : Graph → List ℕ → List ℕ
spread g seen = filter (λ n. has n seen || any (λ e. eqb e.target n && has e.source seen) g.edges) (upto (length g.nodes) 0)

-- `Bfs` (conflict.rs, lines 367 to 370) until nothing is added: as many rounds as there are nodes are enough
abbrev pub rounds : ℕ → Graph → List ℕ → List ℕ
rounds zero g seen = seen
rounds (suc k) g seen =
    let more = spread g seen in elim (eqb (length more) (length seen)) [ true ↦ seen | false ↦ rounds k g more ]

-- 9: "reached from the root"
unfoldable pub reached : Graph → List ℕ
reached g = rounds (length g.nodes) g (0 ∷ [])

-- "lowest such node": that is not reached
unfoldable pub unreached : Graph → Option ℕ
unfolding reached
unreached g = let seen = reached g in first (λ n. not (has n seen)) (upto (length g.nodes) 0)
