-- The edges as plain numbers (document 02, order 3): five an edge, oldest edge first.
use Rattle.std.specs.Prelude.{List, [], ◌∷◌, ◌++◌, ℕ, ◌*◌, length, drop}
use Rattle.basis.specs.Lists.{concat_map}
use Rattle.store.specs.declared.ConflictCause.{ConflictCause}
use Rattle.store.specs.declared.ConflictCause.TheVariants as C
use Rattle.store.specs.declared.ConflictEdge.{ConflictEdge}
use Rattle.store.specs.declared.ConflictEdge.TheVariants as W
use Rattle.store.specs.declared.Edge.{Edge}
use Rattle.store.specs.Graph.{Graph}

-- "kind (0 requires, 1 locked, 2 constrains, 3 forbid-multiple, 4 excluded)"
abbrev pub cause_kind : ConflictCause → ℕ
cause_kind (C.Locked s) = 1
cause_kind (C.Constrains v) = 2
cause_kind C.ForbidMultipleInstances = 3
cause_kind C.Excluded = 4

-- "kind (0 requires, 1 locked, 2 constrains, 3 forbid-multiple, 4 excluded)"
abbrev pub edge_kind : ConflictEdge → ℕ
edge_kind (W.Requires q) = 0
edge_kind (W.Conflict c) = cause_kind c

-- "the number that it names (requirement, locked solvable, version set, else 0)"
abbrev pub cause_names : ConflictCause → ℕ
cause_names (C.Locked s) = s
cause_names (C.Constrains v) = v
cause_names C.ForbidMultipleInstances = 0
cause_names C.Excluded = 0

-- "the number that it names (requirement, locked solvable, version set, else 0)"
abbrev pub names_of : ConflictEdge → ℕ
names_of (W.Requires q) = q
names_of (W.Conflict c) = cause_names c

-- "source, target, kind .., the number that it names .., clause"
abbrev pub numbers_of : Edge → List ℕ
numbers_of e = e.source ∷ e.target ∷ edge_kind e.weight ∷ names_of e.weight ∷ e.clause ∷ []

-- "oldest edge first"
unfoldable pub edge_numbers : Graph → List ℕ
edge_numbers G = concat_map numbers_of G.edges

-- "numbers past the last edge stay"
unfoldable pub edges_over : Graph → List ℕ → List ℕ
unfolding edge_numbers
edges_over G l = edge_numbers G ++ drop (5 * length G.edges) l
