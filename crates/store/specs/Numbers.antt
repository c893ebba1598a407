-- Document 02, order 10 asks a graph that is settled: which number a node has there, by what it stands for.
use Rattle.std.specs.Prelude.{true, false, List, [], ◌∷◌, ℕ, suc}
use Rattle.store.specs.declared.ConflictNode.{ConflictNode}
use Rattle.store.specs.Graph.{same_node}
use Rattle.store.specs.declared.ConflictNode.TheVariants as N

-- the number of a node (conflict.rs, `add_node`); where it is not there, the number that it would get at the end
abbrev pub number_of : List ConflictNode → ConflictNode → ℕ
number_of [] x = 0
number_of (y ∷ ns) x = elim (same_node x y) [ true ↦ 0 | false ↦ suc (number_of ns x) ]

-- "kind and number as in `ConflictNode`, 0 where it has none": the number, which fits 16 bits, as its type says
abbrev pub node_number : ConflictNode → ℕ
node_number N.Root = 0
node_number (N.Solvable s) = s
node_number N.UnresolvedDependency = 0
node_number (N.Excluded r) = r

-- "kind and number as in `ConflictNode`, 0 where it has none": the number is `node_number`
abbrev pub node_kind : ConflictNode → ℕ
node_kind N.Root = 0
node_kind (N.Solvable s) = 1
node_kind N.UnresolvedDependency = 2
node_kind (N.Excluded r) = 3
