-- P7 as graph text, which document 01 does not mark: what the contract of `urzulempa_graphviz` says of it.
use Rattle.std.specs.Prelude.{◌≡◌, List, [], ◌∷◌, ℕ, ◌≤◌, length}
use Prim.Native.String.{String}
use Rattle.std.proofs.Common.{le-leb}
use Rattle.basis.specs.Quote.{utf8}
use Rattle.records.specs.Shapes.{cut, shape_of}
use Rattle.records.specs.Read.{read_from, read_of}
use Rattle.graph.specs.Graphs.{graph_of}
use Rattle.machine.specs.Units.{TextUnit, text_of, fit, written}
use Rattle.drawing.specs.Draw.{drawn_of}
use Rattle.drawing.specs.Graphviz.{draw_shown}
use Rattle.charts.specs.Draws.{draw_file}
use Rattle.demands.specs.Cases.Files.{replay}

abbrev unit : String → TextUnit
unit s = record { bytes = utf8 s; openings = 0 }

-- "the opening, one edge or the closing brace"
abbrev units : List TextUnit
units =
    unit "digraph {"
    ∷ unit "\"<root>\" -> \"replay 2\"[color=black, label=\"replay *\"];"
    ∷ unit "\"replay 2\" -> \"unresolved\"[color=red, label=\"codec 9\"];"
    ∷ unit "}"
    ∷ []

whole : (room : ℕ) (us : List TextUnit) → length (text_of us) ≤ room → fit 0 0 room us ≡ written 0 0 us
whole room us h = rw (le-leb (length (text_of us)) room h)

-- "P7 as simplified graph text, with no newline", in every room that is long enough
pub p7_graph : (room : ℕ) → 119 ≤ room
    → draw_file replay 1 room
    ≡ record {
      number = 0;
      place = 0;
      bytes = 119;
      units = 4;
      depth = 0;
      text = utf8 "digraph {\"<root>\" -> \"replay 2\"[color=black, label=\"replay *\"];\"replay 2\" -> \"unresolved\"[color=red, label=\"codec 9\"];}";
    }
unfolding draw_file cut shape_of read_from read_of graph_of drawn_of draw_shown
p7_graph room h = whole room units h
