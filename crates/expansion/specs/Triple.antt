-- "Each triple (parent, candidate, version set of the clause at hand) from clauses 23 and 24 makes one edge": the triples made,
-- one word each in a table, chained by hash; and, in the table of those chains, the last solvable under each forbidden name.
use Rattle.std.specs.Prelude.{Bool, ◌&&◌, ℕ, eqb}
use Rattle.store.specs.declared.ConflictNode.{ConflictNode}
use Rattle.store.specs.Graph.{same_node}

-- "(parent, candidate, version set of the clause at hand)" (conflict.rs, `ConstrainsEdge`)
pub record Triple : Type 0 where
  pub parent : ConflictNode
  pub candidate : ConflictNode
  pub vset : ℕ

-- a `Triple`
abbrev pub triple : ConflictNode → ConflictNode → ℕ → Triple
triple p d v = record { parent = p; candidate = d; vset = v }

-- "Each triple .. makes one edge": the same in all three (conflict.rs, `ConstrainsEdge`)
abbrev pub same_triple : Triple → Triple → Bool
same_triple s t = same_node s.parent t.parent && (same_node s.candidate t.candidate && eqb s.vset t.vset)
