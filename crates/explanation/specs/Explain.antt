-- The explanation of a file, over the edition: 12 first, then 1 to 6 by the reader, 7 to 9 by the graph, then the text with 10 and 11.
use Rattle.std.specs.Prelude.{Bool, true, false, ◌&&◌, ◌||◌, List, [], ℕ, leb, eqb}
use Rattle.std.proofs.Math.Option.{Option, some}
use Rattle.records.specs.Read.{good, bad, read_of}
use Rattle.records.specs.Tables.{Tables}
use Rattle.graph.specs.Graphs.{drawn, refused, graph_of}
use Rattle.machine.specs.Units.{Result}
use Rattle.machine.specs.Explained.{explain}
use Rattle.machine.specs.Edition.{edited}
use Rattle.plan.specs.Plan.{Shown, shown_of, plan_of, start_of}
use Rattle.plan.specs.Display.{solvable_of}
use Rattle.lines.specs.Lines.{lines_of}

-- "the last three are 0 for 1 to 9 and 12"
abbrev pub refusal : ℕ → ℕ → Result
refusal k p = record { number = k; place = p; bytes = 0; units = 0; depth = 0; text = [] }

-- what is shown of a labelled graph by an edition's rules, if n turns are enough: `fmt_graph` (conflict.rs, lines 893 to 1186) on the root's
-- edges, with 10 and 11
abbrev pub explain_shown : ℕ → ℕ → Shown → ℕ → ℕ → Option Result
explain_shown e n S opt room = explain (edited e (plan_of S)) (lines_of S opt) (solvable_of S) n (start_of S) room

-- "then core clauses in order (7, 8), then 9"
abbrev pub explain_tables : ℕ → ℕ → Tables → ℕ → ℕ → Option Result
explain_tables e n T opt room = elim (graph_of T) [ refused k p ↦ some (refusal k p) | drawn G ↦ explain_shown e n (shown_of T G) opt room ]

-- order 11: "12 also for an edition that is not 1 or 2"
abbrev pub is_edition : ℕ → Bool
is_edition e = eqb e 1 || eqb e 2

-- "12 is tested first, then 1, then record by record in the table's order"; of the edition "before all others"
abbrev pub explain_edition : ℕ → ℕ → List ℕ → ℕ → ℕ → Option Result
explain_edition e n file opt room =
    elim (is_edition e && leb opt 1) [
      | false ↦ some (refusal 12 0)
      | true ↦ elim (read_of file) [ bad k p ↦ some (refusal k p) | good T ↦ explain_tables e n T opt room ]
    ]

-- document 01's explanation: "Edition 1 stays for the archive and remains the Rust's"
abbrev pub explain_file : ℕ → List ℕ → ℕ → ℕ → Option Result
explain_file n file opt room = explain_edition 1 n file opt room
