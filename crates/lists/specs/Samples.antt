-- The definitions on small files, by computing: P1, P2, P3, and P7's nodes in lists of 3 and of 4 entries.
use Rattle.std.specs.Prelude.{◌≡◌, refl, List, [], ◌∷◌, map, ℕ, ◌+◌, length, replicate}
use Rattle.records.specs.Shapes.{Rec, cut, shape_of}
use Rattle.records.specs.Tables.{Tables}
use Rattle.records.specs.Read.{read_from, read_of}
use Rattle.records.specs.Views.{clause_in, clause_of}
use Rattle.store.specs.declared.ConflictNode.TheVariants as N
use Rattle.store.specs.declared.ConflictEdge.TheVariants as W
use Rattle.store.specs.declared.Edge.{Edge}
use Rattle.store.specs.Graph.{Graph, settle, reached, unreached}
use Rattle.graph.specs.Graphs.{turn_at, build_from, build_of, reached_all, graph_of}
use Rattle.lists.specs.declared.entries.NodeEntry.{NodeEntry}
use Rattle.lists.specs.Nodes.{node_entries, entered, denied, nodes_of, refusal_of, counted_by}

abbrev node : ℕ → ℕ → ℕ → ℕ → ℕ → ℕ → NodeEntry
node k n g i m c = record { kind = k; number = n; group = g; installable = i; missing = m; clause = c }

-- P1 no records: "one node", which is installable; P2 33 bytes; P3 Learnt in the core, and outside it
pub files :
    map nodes_of ([] ∷ replicate 33 0 ∷ (18 ∷ 1 ∷ replicate 30 0) ∷ (18 ∷ replicate 31 0) ∷ [])
    ≡ entered (node 0 0 0 1 0 65535 ∷ []) ∷ denied 1 0 ∷ denied 7 0 ∷ entered (node 0 0 0 1 0 65535 ∷ []) ∷ []
unfolding nodes_of read_of read_from cut shape_of clause_in clause_of turn_at build_from build_of reached_all graph_of settle reached unreached node_entries
files = refl

-- ---- P7: replay 2 and replay 1, both of which require what has no candidate

abbrev named : ℕ → List ℕ → Rec
named n t = record { kind = 1; first = length t; a = n; b = 0; c = 0; text = t }

abbrev solvable : ℕ → ℕ → Rec
solvable s v = record { kind = 2; first = 1; a = s; b = 0; c = 0; text = v ∷ [] }

abbrev tables : Tables
tables = record {
  names = named 0 (114 ∷ 101 ∷ 112 ∷ 108 ∷ 97 ∷ 121 ∷ []) ∷ [];
  solvables = solvable 0 50 ∷ solvable 1 49 ∷ [];
  version_sets = [];
  requirements = [];
  candidates = [];
  reasons = [];
  variables = [];
  assigned = [];
  clauses = [];
}

abbrev needs : ℕ → ℕ → ℕ → Edge
needs a q b = record { source = a; target = b; weight = W.Requires q; clause = a + b }

abbrev p7 : Graph
p7 =
    record {
      nodes = N.Root ∷ N.UnresolvedDependency ∷ N.Solvable 0 ∷ N.Solvable 1 ∷ [];
      edges = needs 0 0 2 ∷ needs 0 0 3 ∷ needs 2 1 1 ∷ needs 3 1 1 ∷ [];
      firsts = 65535 ∷ 65535 ∷ 4 ∷ 6 ∷ [];
      hand = 9;
    }

-- "All four nodes are missing, none installable"; the two solvables are one group, whose first member is node 2
pub merged : node_entries tables p7 ≡ node 0 0 0 0 1 65535 ∷ node 2 0 1 0 1 65535 ∷ node 1 0 2 0 1 4 ∷ node 1 1 2 0 1 6 ∷ []
unfolding node_entries
merged = refl

pub one_short : map (counted_by (entered (node_entries tables p7))) (3 ∷ 4 ∷ []) ≡ refusal_of 10 0 ∷ record { number = 0; place = 0; units = 1; count = 4 } ∷ []
unfolding node_entries
one_short = refl
