-- Two graphs "compared by what a node stands for" (document 02, order 10): their numbers may differ, since the rebuilt one gives the place of
-- unresolved to its own last node.
use Rattle.std.specs.Prelude.{◌≡◌, List, map, ℕ, ◌<◌, length, get_or}
use Rattle.basis.specs.Members.{In, Distinct}
use Rattle.store.specs.declared.ConflictNode.{ConflictNode}
use Rattle.store.specs.declared.ConflictNode.TheVariants as N
use Rattle.store.specs.declared.ConflictEdge.{ConflictEdge}
use Rattle.store.specs.declared.Edge.{Edge}
use Rattle.store.specs.Graph.{Graph, node_at, first_at}
use Rattle.labels.specs.Labels.{installable, missing}

-- an edge between what its ends stand for, with what it says and the clause that made it
pub record Arc : Type 0 where
  pub source : ConflictNode
  pub target : ConflictNode
  pub weight : ConflictEdge
  pub clause : ℕ

abbrev pub stands_for : List ConflictNode → Edge → Arc
stands_for ns e = record { source = get_or ns e.source N.Root; target = get_or ns e.target N.Root; weight = e.weight; clause = e.clause }

-- the edges in order
unfoldable pub named : Graph → List Arc
named G = map (stands_for G.nodes) G.edges

-- "the same nodes, edges": what one graph has the other has, and none of it twice
pub record GraphsAlike (H G : Graph) : Type 0 where
  pub once_on : Distinct H.nodes
  pub once_back : Distinct G.nodes
  pub nodes_on : (x : ConflictNode) → In x H.nodes → In x G.nodes
  pub nodes_back : (x : ConflictNode) → In x G.nodes → In x H.nodes
  pub edges : named H ≡ named G

-- "the same nodes, edges and labels": of two nodes that stand for the same, each label is the same, and the clause that first added them
pub record SameGraph (H G : Graph) : Type 0 where
  pub alike : GraphsAlike H G
  pub installables : (m j : ℕ) → m < length H.nodes → j < length G.nodes → node_at H m ≡ node_at G j → installable H m ≡ installable G j
  pub missings : (m j : ℕ) → m < length H.nodes → j < length G.nodes → node_at H m ≡ node_at G j → missing H m ≡ missing G j
  pub firsts : (m j : ℕ) → m < length H.nodes → j < length G.nodes → node_at H m ≡ node_at G j → first_at H m ≡ first_at G j
