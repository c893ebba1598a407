-- What `urzulempa_tgf` writes of a file (document 02, order 14): 1 to 9 first, then the lines that fit.
use Rattle.std.specs.Prelude.{List, ℕ}
use Rattle.records.specs.Tables.{Tables}
use Rattle.records.specs.Read.{Reading, good, bad, read_of}
use Rattle.graph.specs.Graphs.{Outcome, drawn, refused, graph_of}
use Rattle.machine.specs.Units.{Result}
use Rattle.explanation.specs.Explain.{refusal}
use Rattle.wall.specs.Export.{export_shown}

-- 7 to 9: "Refusals change nothing that was lent"
abbrev pub export_by : ℕ → Tables → Outcome → Result
export_by room T (refused k p) = refusal k p
export_by room T (drawn G) = export_shown T G room

-- 1 to 6: "Refusals change nothing that was lent"
abbrev pub export_read : ℕ → Reading → Result
export_read room (bad k p) = refusal k p
export_read room (good T) = export_by room T (graph_of T)

-- from the file's bytes (`export_read`)
unfoldable pub export_file : List ℕ → ℕ → Result
export_file file room = export_read room (read_of file)
