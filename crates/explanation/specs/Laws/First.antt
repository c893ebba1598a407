-- "For edition 1 demand 3 reads as before": the definition and demand 3 at edition 1, in document 01's words, with no edition in them.
use Rattle.std.specs.Prelude.{◌≡◌, refl, ◌⊎◌, true, false, List, ℕ, ◌<◌, ◌≤◌, leb}
use Rattle.std.proofs.Math.Option.{some}
use Rattle.records.specs.Read.{good, bad, read_of}
use Rattle.records.specs.Tables.{Tables}
use Rattle.store.specs.Graph.{Graph}
use Rattle.labels.specs.Runs.{Run}
use Rattle.groups.specs.Counts.{solvables}
use Rattle.graph.specs.Graphs.{drawn, refused, graph_of}
use Rattle.machine.specs.Machine.{Plan}
use Rattle.machine.specs.Bound.{most}
use Rattle.machine.specs.Told.{Finishes}
use Rattle.machine.specs.Count.{groups, unmerged}
use Rattle.machine.specs.Units.{Result}
use Rattle.machine.specs.Explained.{explain}
use Rattle.machine.specs.Demand.{Demand, LeavesUnits}
use Rattle.plan.specs.Plan.{Shown, shown_of, plan_of, start_of, popped}
use Rattle.plan.specs.Display.{solvable_of}
use Rattle.lines.specs.Lines.{lines_of}
use Rattle.explanation.specs.Explain.{refusal, explain_file}
use Rattle.explanation.specs.Contract.{ExplainedFile, Drawn}
use Rattle.explanation.specs.Laws.Contract.{file_demand, file_depth, file_whole, file_less, file_leaves}

-- 12 for the option alone, and the machine over the plan as it is
pub first_file : (n : ℕ) (file : List ℕ) (opt room : ℕ)
    → explain_file n file opt room
    ≡ elim (leb opt 1) [
      | false ↦ some (refusal 12 0)
      | true ↦ elim (read_of file) [
        | bad k p ↦ some (refusal k p)
        | good T ↦ elim (graph_of T) [
          | refused k p ↦ some (refusal k p)
          | drawn G ↦ let S = shown_of T G in explain (plan_of S) (lines_of S opt) (solvable_of S) n (start_of S) room
        ]
      ]
    ]
first_file n file opt room = refl

module _ (file : List ℕ) (opt : ℕ) (T : Tables) (G : Graph) (x : Drawn 1 file opt T G) where
  abbrev S : Shown
  S = shown_of T G

  abbrev P : Plan Run
  P = plan_of S

  -- "the bound g + (g + 1) × u"
  abbrev bound : ℕ
  bound = most P (groups P (solvables G)) (unmerged P (solvables G))

  pub first_demand : Demand P (lines_of S opt) (solvable_of S) (popped S 0) bound
  first_demand = file_demand 1 file opt T G x

  module _ (room : ℕ) (r : Result) (f : ExplainedFile 1 file opt room r) where
    pub first_depth : r.depth ≤ bound
    first_depth = file_depth 1 file opt T G x room r f

    pub first_whole : (file_demand 1 file opt T G x).size ≤ room
        → ((r.number ≡ 0) × (r.place ≡ 0) × Finishes P (start_of S)) ⊎ ((r.number ≡ 11) × (Finishes P (start_of S) → ⊥))
    first_whole h = file_whole 1 file opt T G x room r f h

    pub first_less : room < (file_demand 1 file opt T G x).size → r.number ≡ 10
    first_less h = file_less 1 file opt T G x room r f h

    pub first_leaves : LeavesUnits P (lines_of S opt) (start_of S) room r
    first_leaves = file_leaves 1 file opt T G x room r f
