-- P7 of document 01 as graph text: the definitions computed.
use Rattle.std.specs.Prelude.{◌≡◌, refl, List, [], ◌∷◌, ℕ, ◌+◌, length}
use Rattle.basis.specs.Quote.{utf8}
use Rattle.records.specs.Shapes.{Rec}
use Rattle.records.specs.Tables.{Tables}
use Rattle.store.specs.declared.ConflictNode.TheVariants as N
use Rattle.store.specs.declared.ConflictEdge.TheVariants as W
use Rattle.store.specs.declared.Edge.{Edge}
use Rattle.store.specs.Graph.{Graph}
use Rattle.machine.specs.Units.{Result}
use Rattle.drawing.specs.Draw.{drawn_of}
use Rattle.drawing.specs.Graphviz.{draw_shown, answer_in}

abbrev rec : ℕ → ℕ → ℕ → List ℕ → Rec
rec k a b t = record { kind = k; first = length t; a = a; b = b; c = 0; text = t }

abbrev tables : Tables
tables =
    record {
      names = rec 1 0 0 (utf8 "replay") ∷ [];
      solvables = rec 2 0 0 (utf8 "2") ∷ rec 2 1 0 (utf8 "1") ∷ [];
      version_sets = [];
      requirements = rec 4 0 0 (utf8 "replay *") ∷ rec 4 1 0 (utf8 "codec 9") ∷ [];
      candidates = [];
      reasons = [];
      variables = [];
      assigned = [];
      clauses = [];
    }

abbrev edge : ℕ → ℕ → ℕ → Edge
edge x y q = record { source = x; target = y; weight = W.Requires q; clause = x + y }

abbrev graph : Graph
graph =
    record {
      nodes = N.Root ∷ N.UnresolvedDependency ∷ N.Solvable 0 ∷ N.Solvable 1 ∷ [];
      edges = edge 0 2 0 ∷ edge 0 3 0 ∷ edge 2 1 1 ∷ edge 3 1 1 ∷ [];
      firsts = [];
      hand = 9;
    }

abbrev shown : ℕ → ℕ → Result
shown opt room = draw_shown (drawn_of opt tables graph) room

-- "P7 as simplified graph text, with no newline"
pub simplified : (shown 1 200).text
    ≡ utf8 "digraph {\"<root>\" -> \"replay 2\"[color=black, label=\"replay *\"];\"replay 2\" -> \"unresolved\"[color=red, label=\"codec 9\"];}"
unfolding draw_shown drawn_of
simplified = refl

-- not simplified: the newest edge first
pub plain : (shown 0 400).text
    ≡ utf8
    "digraph {\"<root>\" -> \"replay 1\"[color=black, label=\"replay *\"];\"<root>\" -> \"replay 2\"[color=black, label=\"replay *\"];\"replay 2\" -> \"unresolved\"[color=red, label=\"codec 9\"];\"replay 1\" -> \"unresolved\"[color=red, label=\"codec 9\"];}"
unfolding draw_shown drawn_of
plain = refl

-- exactly enough room, and a byte less: the closing brace is a unit of its own
pub enough : answer_in (shown 1 119) ≡ record { number = 0; place = 0; bytes = 119; units = 4; depth = 0 }
unfolding draw_shown drawn_of
enough = refl

pub one_short : answer_in (shown 1 118) ≡ record { number = 10; place = 3; bytes = 118; units = 3; depth = 0 }
unfolding draw_shown drawn_of
one_short = refl

pub no_room : answer_in (shown 1 8) ≡ record { number = 10; place = 0; bytes = 0; units = 0; depth = 0 }
unfolding draw_shown drawn_of
no_room = refl
