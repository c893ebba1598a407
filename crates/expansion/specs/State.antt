-- The state of building over its tables: g holds the graph, tr the triples made, w their chains and the last solvables; k is how far
-- building came. And what an answer says of it.
use Rattle.std.specs.Prelude.{◌≡◌, List, ℕ, ◌≤◌, Result, Ok, Err}
use Rattle.store.specs.Table.{graph_in, Growing}
use Rattle.expansion.specs.Hashed.{Triples, made_in}
use Rattle.expansion.specs.declared.Work.{Work}
use Rattle.store.specs.declared.Full.{Full}
use Rattle.expansion.specs.Expand.{Build}
use Rattle.expansion.specs.Working.{StepSoFar, on_to, stop_at}
use Rattle.expansion.specs.Lasts.{lasts_in}

-- the build that the tables hold
abbrev pub build_in : List ℕ → List ℕ → List ℕ → Work → Build
build_in g tr w k = record { graph = graph_in g k.size; last = lasts_in w; made = made_in tr k.triples }

-- the promise; each triple made an edge, so there is room for its word
pub record Holds (g tr w : List ℕ) (k : Work) : Type 0 where
  pub growing : Growing g k.size
  pub triples : Triples tr w k.triples
  pub few : k.triples ≤ k.size.edges

-- what tables and answer say of a clause
abbrev pub progress_in : List ℕ → List ℕ → List ℕ → Result Work Full → StepSoFar
progress_in g tr w (Ok k) = on_to (build_in g tr w k)
progress_in g tr w (Err e) = stop_at (graph_in g e.size)

-- the promise after it: without room of the graph alone
abbrev pub HoldsIn : List ℕ → List ℕ → List ℕ → Result Work Full → Type 0
HoldsIn g tr w (Ok k) = Holds g tr w k
HoldsIn g tr w (Err e) = Growing g e.size

-- the tables and answer r hold X, and the promise
pub record Expanded (X : StepSoFar) (g tr w : List ℕ) (r : Result Work Full) : Type 0 where
  pub is : progress_in g tr w r ≡ X
  pub holds : HoldsIn g tr w r
