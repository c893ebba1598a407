-- What the turn of a core clause leaves (document 02, order 3): "An edge entry gains the number of the core clause that added it".
use Rattle.std.specs.Prelude.{◌≡◌, List, ◌++◌, ℕ}
use Rattle.basis.specs.Members.{All}
use Rattle.store.specs.declared.Edge.{Edge}
use Rattle.store.specs.Graph.{Graph}
use Rattle.expansion.specs.Expand.{Build}
use Rattle.graph.specs.Working.{TurnedSoFar, go_to, halt_at}

-- h is g with more at the end, all of it noted with the clause at hand in g
pub record Noted (g h : Graph) : Type 0 where
  pub hand : h.hand ≡ g.hand
  pub edges : List Edge
  pub edges_are : h.edges ≡ g.edges ++ edges
  pub edges_noted : All (λ e. e.clause ≡ g.hand) edges
  pub firsts : List ℕ
  pub firsts_are : h.firsts ≡ g.firsts ++ firsts
  pub firsts_noted : All (λ c. c ≡ g.hand) firsts

-- the graph as far as a turn came
abbrev pub turned_graph : TurnedSoFar → Graph
turned_graph (go_to b) = b.graph
turned_graph (halt_at k g) = g
