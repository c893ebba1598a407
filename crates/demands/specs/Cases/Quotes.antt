-- Order 5: a load with quotes, as graph text and as explanation.
use Rattle.std.specs.Prelude.{◌≡◌, refl, List, [], ◌∷◌, ℕ, ◌≤◌, length}
use Prim.Native.String.{String}
use Rattle.std.proofs.Common.{le-leb}
use Rattle.basis.specs.Quote.{utf8}
use Rattle.records.specs.Shapes.{cut, shape_of}
use Rattle.records.specs.Read.{read_from, read_of}
use Rattle.graph.specs.Graphs.{graph_of}
use Rattle.machine.specs.Units.{TextUnit, text_of, fit, written}
use Rattle.drawing.specs.Draw.{drawn_of}
use Rattle.drawing.specs.Graphviz.{draw_shown}
use Rattle.lists.specs.Nodes.{entered, nodes_of}
use Rattle.charts.specs.Draws.{draw_file}
use Rattle.demands.specs.Cases.Files.{monitor}
use Rattle.demands.specs.Cases.Texts.{printed, monitor_lines}
use Rattle.demands.specs.Cases.Table.{Case, at_least, answer, node}
use Rattle.demands.specs.Cases.Bound.{bound_of}
use Rattle.demands.specs.Cases.Right.{Right, told, Computed, row_right}

-- ---- the graph text

abbrev unit : String → TextUnit
unit s = record { bytes = utf8 s; openings = 0 }

abbrev units : List TextUnit
units = unit "digraph {" ∷ unit "\"<root>\" -> \"panel 4\\\" monitor\"[color=black, label=\"any \\\"panel\\\"\"];" ∷ unit "}" ∷ []

whole : (room : ℕ) (us : List TextUnit) → length (text_of us) ≤ room → fit 0 0 room us ≡ written 0 0 us
whole room us h = rw (le-leb (length (text_of us)) room h)

-- three bytes more than without the backslashes, in every room that is long enough
pub monitor_graph : (room : ℕ) → 78 ≤ room
    → draw_file monitor 0 room
    ≡ record {
      number = 0;
      place = 0;
      bytes = 78;
      units = 3;
      depth = 0;
      text = utf8 "digraph {\"<root>\" -> \"panel 4\\\" monitor\"[color=black, label=\"any \\\"panel\\\"\"];}";
    }
unfolding draw_file cut shape_of read_from read_of graph_of drawn_of draw_shown
monitor_graph room h = whole room units h

-- a room that the text without its backslashes would fill up to the brace
pub monitor_short : draw_file monitor 0 74 ≡ record { number = 10; place = 1; bytes = 9; units = 1; depth = 0; text = utf8 "digraph {" }
unfolding draw_file cut shape_of read_from read_of graph_of drawn_of draw_shown
monitor_short = refl

-- ---- "The explanation keeps plain text."

abbrev pub plain : Case
plain =
    record {
      file = monitor;
      option = 0;
      rooms = at_least 88;
      answer = answer 0 0 88 2 0;
      text = printed monitor_lines;
      nodes = entered (node 0 0 0 1 0 65535 ∷ node 1 0 1 1 0 0 ∷ []);
      bound = 1;
    }

row_plain : Computed plain
unfolding told bound_of nodes_of cut shape_of read_from
row_plain = record { tells = refl; longer = refl; listed = refl; bounded = refl; within = refl }

pub plain_right : Right plain
plain_right = row_right plain row_plain
