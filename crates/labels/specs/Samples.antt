-- The definitions on small graphs, by computing: P7, a cycle, and what is easily got wrong.
use Rattle.std.specs.Prelude.{◌≡◌, refl, Bool, true, false, List, [], ◌∷◌, ℕ, zero, suc, ◌+◌}
use Rattle.store.specs.declared.ConflictNode.TheVariants as N
use Rattle.store.specs.declared.ConflictEdge.{ConflictEdge}
use Rattle.store.specs.declared.ConflictEdge.TheVariants as W
use Rattle.store.specs.declared.Edge.{Edge}
use Rattle.store.specs.Graph.{Graph}
use Rattle.labels.specs.Labels.{order_of, installables, missings}

abbrev needs : ℕ → ℕ → ℕ → Edge
needs a q b = record { source = a; target = b; weight = W.Requires q; clause = a + b }

-- P7: "All four nodes are missing, none installable."
abbrev p7 : Graph
p7 =
    record {
      nodes = N.Root ∷ N.UnresolvedDependency ∷ N.Solvable 0 ∷ N.Solvable 1 ∷ [];
      edges = needs 0 0 2 ∷ needs 0 0 3 ∷ needs 2 1 1 ∷ needs 3 1 1 ∷ [];
      firsts = 65535 ∷ 65535 ∷ 4 ∷ 6 ∷ [];
      hand = 9;
    }

p7_order : order_of p7 ≡ 1 ∷ 2 ∷ 3 ∷ 0 ∷ []
unfolding order_of
p7_order = refl

p7_installable : installables p7 ≡ []
unfolding installables
p7_installable = refl

p7_missing : missings p7 ≡ 0 ∷ 3 ∷ 2 ∷ 1 ∷ []
unfolding missings
p7_missing = refl

-- Nodes 1 and 2 have equal edges, and the cycle through node 3 gives them unequal labels: 2 is left before 3 is installable.
abbrev ring : Graph
ring =
    record {
      nodes = N.Root ∷ N.Solvable 0 ∷ N.Solvable 1 ∷ N.Solvable 2 ∷ N.Solvable 3 ∷ [];
      edges = needs 0 0 1 ∷ needs 0 0 2 ∷ needs 1 2 3 ∷ needs 2 2 3 ∷ needs 3 1 1 ∷ needs 3 1 2 ∷ needs 3 1 4 ∷ [];
      firsts = [];
      hand = 9;
    }

ring_order : order_of ring ≡ 2 ∷ 4 ∷ 3 ∷ 1 ∷ 0 ∷ []
unfolding order_of
ring_order = refl

ring_installable : installables ring ≡ 0 ∷ 1 ∷ 3 ∷ 4 ∷ []
unfolding installables
ring_installable = refl

ring_missing : missings ring ≡ []
unfolding missings
ring_missing = refl
