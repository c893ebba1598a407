-- The units of the graph text that fit. "The graph text never gets 11, and its depth is 0."
use Rattle.std.specs.Prelude.{List, map, ℕ}
use Rattle.machine.specs.Units.{TextUnit, Result, fit}
use Rattle.drawing.specs.declared.PenAnswer.{PenAnswer}
use Rattle.drawing.specs.Draw.{Sketch, drawing_units}

-- a unit of the graph text, which opens nothing: "its depth is 0"
abbrev pub unit_of : List ℕ → TextUnit
unit_of t = record { bytes = t; openings = 0 }

-- the units that fit; 10 where "the next unit doesn't fit the room"
unfoldable pub fit_units : List (List ℕ) → ℕ → Result
fit_units us room = fit 0 0 room (map unit_of us)

-- the graph text, as far as it fits (conflict.rs, `graphviz`)
unfoldable pub draw_shown : Sketch → ℕ → Result
unfolding drawing_units fit_units
draw_shown D room = fit_units (drawing_units D) room

-- the answer: all of the result but the bytes written
abbrev pub answer_in : Result → PenAnswer
answer_in r = record { number = r.number; place = r.place; bytes = r.bytes; units = r.units; depth = r.depth }
