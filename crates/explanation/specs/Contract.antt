-- The contract of the explanation over (edition, file, option, room): it says one thing for every input, and of a file that is drawn what demand 3 asks.
use Rattle.std.specs.Prelude.{◌≡◌, true, List, ℕ, ◌≤◌}
use Rattle.std.proofs.Math.Option.{some}
use Rattle.records.specs.Read.{good, read_of}
use Rattle.records.specs.Tables.{Tables}
use Rattle.store.specs.Graph.{Graph}
use Rattle.graph.specs.Graphs.{drawn, graph_of}
use Rattle.machine.specs.Units.{Result}
use Rattle.explanation.specs.Explain.{is_edition, explain_edition}

-- for some number of turns `explain_edition` gives r
pub record ExplainedFile (e : ℕ) (file : List ℕ) (opt room : ℕ) (r : Result) : Type 0 where
  pub turns : ℕ
  pub so : explain_edition e turns file opt room ≡ some r

-- ---- a file that is accepted and drawn

-- what the definitions go by
pub record Drawn (e : ℕ) (file : List ℕ) (opt : ℕ) (T : Tables) (G : Graph) : Type 0 where
  pub edition : is_edition e ≡ true
  pub option : opt ≤ 1
  pub tables : read_of file ≡ good T
  pub graph : graph_of T ≡ drawn G
