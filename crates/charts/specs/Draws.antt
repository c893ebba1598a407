-- The graph text of a file: 12 first, then 1 to 9, then the units that fit.
use Rattle.std.specs.Prelude.{cond, List, ℕ, leb}
use Rattle.records.specs.Tables.{Tables}
use Rattle.records.specs.Read.{Reading, good, bad, read_of}
use Rattle.graph.specs.Graphs.{Outcome, drawn, refused, graph_of}
use Rattle.machine.specs.Units.{Result}
use Rattle.drawing.specs.declared.PenAnswer as Drawn
use Rattle.drawing.specs.Draw.{drawn_of}
use Rattle.drawing.specs.Graphviz.{draw_shown}
use Rattle.explanation.specs.Explain.{refusal}
use Rattle.calls.specs.declared.Answer.{Answer}

-- 7 to 9 write nothing: "the last three are 0 for 1 to 9 and 12"
abbrev pub draw_by : ℕ → ℕ → Tables → Outcome → Result
draw_by opt room T (refused k p) = refusal k p
draw_by opt room T (drawn G) = draw_shown (drawn_of opt T G) room

-- 1 to 6 write nothing: "the last three are 0 for 1 to 9 and 12"
abbrev pub draw_read : ℕ → ℕ → Reading → Result
draw_read opt room (bad k p) = refusal k p
draw_read opt room (good T) = draw_by opt room T (graph_of T)

-- once the option is known to be 0 or 1, in `draw_file`
unfoldable pub draw_bytes : ℕ → ℕ → List ℕ → Result
draw_bytes opt room file = draw_read opt room (read_of file)

-- "12 is tested first"
unfoldable pub draw_file : List ℕ → ℕ → ℕ → Result
unfolding draw_bytes
draw_file file opt room = cond (leb opt 1) (draw_bytes opt room file) (refusal 12 0)

-- "An answer holds number, place, bytes, units, depth": all of the result but the text
abbrev pub result_answer : Result → Answer
result_answer r = record { number = r.number; place = r.place; bytes = r.bytes; units = r.units; depth = r.depth }

abbrev pub drawing_as : Drawn.PenAnswer → Answer
drawing_as r = record { number = r.number; place = r.place; bytes = r.bytes; units = r.units; depth = r.depth }
