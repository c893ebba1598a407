-- The definitions on small graphs, by computing: P7, a cycle, and what is easily got wrong.
use Rattle.std.specs.Prelude.{◌≡◌, ℕ, zero, suc, ◌+◌, true, false, cond, List, [], ◌∷◌, ◌==◌, refl}
use Rattle.store.specs.declared.ConflictNode.TheVariants as N
use Rattle.store.specs.declared.ConflictCause.TheVariants as C
use Rattle.store.specs.declared.ConflictEdge.TheVariants as W
use Rattle.store.specs.declared.Edge.{Edge}
use Rattle.store.specs.Graph.{Graph}
use Rattle.groups.specs.Groups.{groups, singles, lead_of}

abbrev needs : ℕ → ℕ → ℕ → Edge
needs a q b = record { source = a; target = b; weight = W.Requires q; clause = a + b }

abbrev bars : ℕ → ℕ → Edge
bars a b = record { source = a; target = b; weight = W.Conflict C.ForbidMultipleInstances; clause = 7 }

abbrev locks : ℕ → ℕ → ℕ → Edge
locks a s b = record { source = a; target = b; weight = W.Conflict (C.Locked s); clause = 8 }

-- every solvable has the same name
abbrev one : ℕ → List ℕ
one s = 114 ∷ []

-- solvable 1 has another
abbrev other : ℕ → List ℕ
other s = cond (s == 1) (113 ∷ []) (114 ∷ [])

-- P7: replay 2 and replay 1 are one group
abbrev p7 : Graph
p7 =
    record {
      nodes = N.Root ∷ N.UnresolvedDependency ∷ N.Solvable 0 ∷ N.Solvable 1 ∷ [];
      edges = needs 0 0 2 ∷ needs 0 0 3 ∷ needs 2 1 1 ∷ needs 3 1 1 ∷ [];
      firsts = 65535 ∷ 65535 ∷ 4 ∷ 6 ∷ [];
      hand = 9;
    }

p7_groups : groups one p7 ≡ (2 ∷ 3 ∷ []) ∷ []
unfolding groups
p7_groups = refl

p7_lead : lead_of one p7 3 ≡ 2
unfolding lead_of
p7_lead = refl

-- by the text of the name, whatever the solvable's or the name's number
p7_other : groups other p7 ≡ []
unfolding groups
p7_other = refl

-- the members of a group may have unequal labels: nodes 1 and 2, see the samples of `labels`
abbrev ring : Graph
ring =
    record {
      nodes = N.Root ∷ N.Solvable 0 ∷ N.Solvable 1 ∷ N.Solvable 2 ∷ N.Solvable 3 ∷ [];
      edges = needs 0 0 1 ∷ needs 0 0 2 ∷ needs 1 2 3 ∷ needs 2 2 3 ∷ needs 3 1 1 ∷ needs 3 1 2 ∷ needs 3 1 4 ∷ [];
      firsts = [];
      hand = 9;
    }

ring_groups : groups one ring ≡ (1 ∷ 2 ∷ []) ∷ []
unfolding groups
ring_groups = refl

ring_singles : singles one ring ≡ 3 ∷ 4 ∷ []
unfolding singles
ring_singles = refl

-- "Telling conflict causes apart when merging" is an error: the root bars 1, and locks 2; the order of the edges does not count
abbrev barred : Graph
barred =
    record {
      nodes = N.Root ∷ N.Solvable 0 ∷ N.Solvable 1 ∷ [];
      edges = needs 0 0 1 ∷ bars 0 1 ∷ locks 0 5 2 ∷ needs 0 0 2 ∷ [];
      firsts = [];
      hand = 9;
    }

barred_groups : groups one barred ≡ (1 ∷ 2 ∷ []) ∷ []
unfolding groups
barred_groups = refl
