-- A graph with other clauses' numbers: f e for the edge e, fs for the nodes, h at hand. Document 02, order 3: "merging ignores the new
-- number, so groups stay as they are". What does not look at clauses' numbers says the same of both (Laws).
use Rattle.std.specs.Prelude.{List, map, ℕ}
use Rattle.store.specs.declared.Edge.{Edge}
use Rattle.store.specs.Graph.{Graph}

abbrev pub renoted : (Edge → ℕ) → Edge → Edge
renoted f e = record { source = e.source; target = e.target; weight = e.weight; clause = f e }

abbrev pub other : (Edge → ℕ) → List ℕ → ℕ → Graph → Graph
other f fs h G = record { nodes = G.nodes; edges = map (renoted f) G.edges; firsts = fs; hand = h }
