-- Order 11: "all openings in the whole text together", counted line by line and not on a branch.
use Rattle.std.specs.Prelude.{Bool, false, List, [], map, ℕ, ◌+◌, length}
use Rattle.basis.specs.Lists.{concat_map, filter}
use Rattle.records.specs.Read.{Reading, good, bad, read_of}
use Rattle.records.specs.Tables.{Tables}
use Rattle.labels.specs.Runs.{Run}
use Rattle.groups.specs.Counts.{solvables}
use Rattle.graph.specs.Graphs.{Outcome, drawn, refused, graph_of}
use Rattle.machine.specs.Machine.{Entry, requirement, candidate, tell}
use Rattle.machine.specs.Count.{groups, unmerged}
use Rattle.machine.specs.Edition.{edited}
use Rattle.plan.specs.Plan.{Shown, shown_of, plan_of, start_of, line_kind, is_requiring}
use Rattle.lines.specs.Lines.{lines_of}

module _ (S : Shown) (opt : ℕ) where
  abbrev pub is_opening : Entry Run → Bool
  is_opening e = elim e.op [ requirement r ↦ false | candidate n ↦ is_requiring (line_kind S n) ]

  -- of each line, in order, whether it opens a package: "Opening a package means writing its 'would require' line"
  abbrev pub opening_lines : List (Entry Run) → List Bool
  opening_lines es = concat_map (λ e. map (λ l. is_opening e) (lines_of S opt e)) es

-- how many of them do
abbrev pub how_many : List Bool → ℕ
how_many bs = length (filter (λ b. b) bs)

-- the lines of a file's text, of which the room takes the first; none where no graph is drawn
abbrev pub openings_in : ℕ → ℕ → Tables → ℕ → Outcome → List Bool
openings_in e n T opt (refused k p) = []
openings_in e n T opt (drawn G) = let S = shown_of T G in opening_lines S opt (tell (edited e (plan_of S)) n (start_of S)).shown

abbrev pub openings_read : ℕ → ℕ → ℕ → Reading → List Bool
openings_read e n opt (bad k p) = []
openings_read e n opt (good T) = openings_in e n T opt (graph_of T)

-- what n turns of the machine tell in edition e
unfoldable pub openings_of : ℕ → ℕ → List ℕ → ℕ → List Bool
unfolding read_of graph_of shown_of
openings_of e n file opt = openings_read e n opt (read_of file)

-- "g + u": the merge groups and the packages in none, among the solvable nodes
abbrev pub once_in : Tables → Outcome → ℕ
once_in T (refused k p) = 0
once_in T (drawn G) = let P = plan_of (shown_of T G) in length (groups P (solvables G)) + length (unmerged P (solvables G))

abbrev pub once_read : Reading → ℕ
once_read (bad k p) = 0
once_read (good T) = once_in T (graph_of T)

unfoldable pub once_of : List ℕ → ℕ
unfolding read_of graph_of shown_of solvables
once_of file = once_read (read_of file)
