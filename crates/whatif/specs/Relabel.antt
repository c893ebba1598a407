-- The labels of the graph asked for, from those of the graph as it is: along an order of its nodes, a node's mark is worked out again only
-- where the node is the chosen one or an edge leads to a node that was worked out again. No other mark is stored to.
use Rattle.std.specs.Prelude.{Bool, true, false, ◌||◌, List, [], ◌∷◌, ℕ, get_or, set, replicate, eqb}
use Rattle.basis.specs.Lists.{any}
use Rattle.store.specs.Graph.{Graph}
use Rattle.labels.specs.Labels.{targets}
use Rattle.labels.specs.Marks.{anew}

-- the marks, and a 1 for each node that was worked out again
pub record Pass : Type 0 where
  pub marks : List ℕ
  pub up : List ℕ

-- node n is the chosen one, a, or an edge leads from it to a node with a 1
unfoldable pub touched : Graph → ℕ → List ℕ → ℕ → Bool
touched K a up n = eqb n a || any (λ t. eqb (get_or up t 0) 1) (targets K n)

-- one node's turn
unfoldable pub turn : Graph → ℕ → ℕ → Pass → Pass
unfolding touched anew
turn K a n w = elim (touched K a w.up n) [ true ↦ record { marks = set w.marks n (anew K w.marks n); up = set w.up n 1 } | false ↦ w ]

unfoldable pub turns : Graph → ℕ → List ℕ → Pass → Pass
unfolding turn
turns K a [] w = w
turns K a (n ∷ ns) w = turns K a ns (turn K a n w)

-- along an order, from any marks
unfoldable pub relabel : Graph → ℕ → List ℕ → List ℕ → List ℕ
unfolding turns
relabel K a order ms = (turns K a order (record { marks = ms; up = replicate 128 0 })).marks

-- which nodes were stored to
unfoldable pub stored : Graph → ℕ → List ℕ → List ℕ → List ℕ
unfolding turns
stored K a order ms = (turns K a order (record { marks = ms; up = replicate 128 0 })).up
