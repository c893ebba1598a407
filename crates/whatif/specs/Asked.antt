-- Document 02, order 10: "What if this one were excluded too." What the question gives for a graph that is drawn, for tables, for a file.
use Rattle.std.specs.Prelude.{Bool, true, false, cond, ◌&&◌, List, [], ◌∷◌, ℕ, ◌+◌, length, ltb, leb}
use Rattle.std.proofs.Math.Option.{Option, none, some}
use Rattle.basis.specs.Lists.{any, snoc}
use Rattle.records.specs.Tables.{Tables}
use Rattle.store.specs.declared.ConflictNode.{ConflictNode}
use Rattle.store.specs.declared.ConflictNode.TheVariants as N
use Rattle.store.specs.declared.ConflictCause.TheVariants as C
use Rattle.store.specs.declared.ConflictEdge.TheVariants as W
use Rattle.store.specs.declared.Edge.{Edge}
use Rattle.store.specs.Graph.{Graph, same_node, node_at, is_unresolved}
use Rattle.store.specs.Numbers.{number_of}
use Rattle.graph.specs.Graphs.{Outcome, drawn, refused, graph_of}
use Rattle.cycles.specs.Cycles.{on_cycle, cycle_of}

-- ---- the graph asked for: at most one node and one edge behind the others

-- x is one of the nodes: "A reason that already has a node uses it"
abbrev pub has_node : List ConflictNode → ConflictNode → Bool
has_node ns x = any (same_node x) ns

-- "A reason that already has a node uses it"; a new one stands at the end
abbrev pub nodes_with : List ConflictNode → ConflictNode → List ConflictNode
nodes_with ns x = elim (has_node ns x) [ true ↦ ns | false ↦ snoc ns x ]

-- "the new node's clause is the number of clauses", which is c
abbrev pub with_first : List ConflictNode → ConflictNode → List ℕ → ℕ → List ℕ
with_first ns x fs c = elim (has_node ns x) [ true ↦ fs | false ↦ snoc fs c ]

-- from the chosen package, the solvable s, to the excluded node of reason r, made by clause c: "one edge, the newest"
abbrev pub new_edge : List ConflictNode → ℕ → ℕ → ℕ → Edge
new_edge ns c s r = record { source = number_of ns (N.Solvable s); target = number_of ns (N.Excluded r); weight = W.Conflict C.Excluded; clause = c }

-- "one more Excluded clause at its end": its edge is the newest, and "a second exclusion of the same package adds a second edge"
unfoldable pub asked : Graph → ℕ → ℕ → ℕ → Graph
asked G c s r =
    record {
      nodes = nodes_with G.nodes (N.Excluded r);
      edges = snoc G.edges (new_edge G.nodes c s r);
      firsts = with_first G.nodes (N.Excluded r) G.firsts c;
      hand = c;
    }

-- ---- "Refusals: 4 .., 8 .., 17 ..; in that order"

-- "4 for an unknown solvable or reason, or a solvable without a node"
abbrev pub known : Tables → Graph → ℕ → ℕ → Bool
known T G s r = ltb s (length T.solvables) && (ltb r (length T.reasons) && has_node G.nodes (N.Solvable s))

-- 1 where unresolved has gone: "unresolved counted"
abbrev pub gone_count : Graph → ℕ
gone_count G = cond (is_unresolved (node_at G 1)) 0 1

-- "8 as in the build, unresolved counted": no node 129 and no edge 1,025, the nodes as the build counts them before unresolved may go
abbrev pub fits_graph : Graph → ℕ → Bool
fits_graph G r = leb (length (nodes_with G.nodes (N.Excluded r)) + gone_count G) 128 && ltb (length G.edges) 1024

-- "17 as in order 9": "place the lowest node on one"
abbrev pub unless_cycle : Option ℕ → Outcome → Outcome
unless_cycle none x = x
unless_cycle (some n) x = refused 17 n

-- the question about solvable s and reason r, asked of the graph G that tables T drew: the graph asked for, or a refusal with its place.
-- "place 0"; "place the number of clauses", which is the new clause's own number
unfoldable pub question_of : Tables → Graph → ℕ → ℕ → Outcome
unfolding asked cycle_of
question_of T G s r =
    cond (known T G s r)
    (cond (fits_graph G r)
    (unless_cycle (cycle_of G) (drawn (asked G (length T.clauses) s r)))
    (refused 8 (length T.clauses)))
    (refused 4 0)

-- "it builds once, with that file's refusals first, and asks from there"
abbrev pub ask_drawn : Tables → ℕ → ℕ → Outcome → Outcome
ask_drawn T s r (refused k p) = refused k p
ask_drawn T s r (drawn G) = question_of T G s r

-- of a file's tables (`ask_drawn`)
unfoldable pub ask_tables : Tables → ℕ → ℕ → Outcome
unfolding graph_of question_of
ask_tables T s r = ask_drawn T s r (graph_of T)
