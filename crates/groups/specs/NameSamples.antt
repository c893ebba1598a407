-- The numbers on a small graph, by computing: two records with one text, a text that begins another, nodes that are no
-- solvables, and entries past the last node.
use Rattle.std.specs.Prelude.{◌≡◌, ℕ, ◌+◌, List, [], ◌∷◌, length, refl}
use Rattle.store.specs.declared.ConflictNode.TheVariants as N
use Rattle.store.specs.Graph.{Graph}
use Rattle.records.specs.Shapes.{Rec}
use Rattle.records.specs.Tables.{Tables}
use Rattle.groups.specs.Naming.{ids_to}

abbrev name : ℕ → List ℕ → Rec
name n t = record { kind = 1; first = length t; a = n; b = 0; c = 0; text = t }

abbrev solvable : ℕ → ℕ → Rec
solvable s n = record { kind = 2; first = 1; a = s; b = n; c = 0; text = 49 ∷ [] }

-- names "a", "ab", "a", and four solvables
abbrev tables : Tables
tables = record {
  names = name 0 (97 ∷ []) ∷ name 1 (97 ∷ 98 ∷ []) ∷ name 2 (97 ∷ []) ∷ [];
  solvables = solvable 0 0 ∷ solvable 1 1 ∷ solvable 2 2 ∷ solvable 3 0 ∷ [];
  version_sets = [];
  requirements = [];
  candidates = [];
  reasons = [];
  variables = [];
  assigned = [];
  clauses = [];
}

abbrev graph : Graph
graph = record {
  nodes = N.Root ∷ N.UnresolvedDependency ∷ N.Solvable 0 ∷ N.Solvable 1 ∷ N.Solvable 2 ∷ N.Excluded 0 ∷ N.Solvable 3 ∷ [];
  edges = [];
  firsts = [];
  hand = 9;
}

pub by_text : ids_to tables graph 7 (9 ∷ 9 ∷ 9 ∷ 9 ∷ 9 ∷ 9 ∷ 9 ∷ 8 ∷ 7 ∷ []) ≡ 0 ∷ 0 ∷ 2 ∷ 3 ∷ 2 ∷ 0 ∷ 2 ∷ 8 ∷ 7 ∷ []
unfolding ids_to
by_text = refl
