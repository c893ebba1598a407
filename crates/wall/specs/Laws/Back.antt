-- "a reader that takes such a text back to nodes, edges and label texts": what was exported whole is read as the graph's own.
use Rattle.std.specs.Prelude.{◌≡◌, refl, List, [], ◌∷◌, ◌++◌, map, ℕ, length, leb}
use Rattle.std.proofs.Common.{ap, ◌∙◌, arith}
use Rattle.basis.specs.Members.{split}
use Rattle.records.specs.Tables.{Tables}
use Rattle.index.specs.Promise.{Valid}
use Rattle.store.specs.Graph.{Graph}
use Rattle.graph.specs.Graphs.{drawn, graph_of}
use Rattle.shape.specs.Graphed.{graphed}
use Rattle.machine.specs.Units.{text_of}
use Rattle.drawing.specs.Graphviz.{unit_of, fit_units}
use Rattle.tgf.specs.Lines as L
use Rattle.tgf.specs.Read.{good, read_text}
use Rattle.tgf.specs.Laws.Both.{reads}
use Rattle.wall.specs.Export.{labels_of, edges_of, node_units, edge_units, rest_units, export_units, export_shown}
use Rattle.wall.specs.Laws.Weights.{drawn_said}
use Rattle.wall.specs.Laws.Texts.{text_good_lem}

text_joined : (us : List (List ℕ)) → text_of (map unit_of us) ≡ L.joined us
text_joined [] = refl
text_joined (u ∷ us) = ap (λ (l : List ℕ). u ++ l) (text_joined us)

-- what is done holds all units
shown_whole : (us : List (List ℕ)) (room : ℕ) → (fit_units us room).number ≡ 0 → (fit_units us room).text ≡ L.joined us
unfolding fit_units
shown_whole us room h =
    split (leb (length (text_of (map unit_of us))) room)
    (λ t. rw t (text_joined us))
    (λ t. let z : ◌≡◌ {A = ℕ} 10 0 = rw t at h in let y : ⊥ = omega (arith, z) in absurd y)

pub export_written : (T : Tables) (G : Graph) (room : ℕ) → (export_shown T G room).number ≡ 0
    → (export_shown T G room).text ≡ L.written (labels_of T G) (edges_of T G)
unfolding export_shown export_units node_units rest_units edge_units L.written L.lines_of
export_written T G room h = shown_whole (export_units T G) room h

shown_bytes : (us : List (List ℕ)) (room : ℕ) → (fit_units us room).bytes ≡ length (fit_units us room).text
unfolding fit_units
shown_bytes us room = split (leb (length (text_of (map unit_of us))) room) (λ t. rw t) (λ t. rw t)

pub export_bytes : (T : Tables) (G : Graph) (room : ℕ) → (export_shown T G room).bytes ≡ length (export_shown T G room).text
unfolding export_shown
export_bytes T G room = shown_bytes (export_units T G) room

pub export_back : (T : Tables) → Valid T → (G : Graph) → graph_of T ≡ drawn G → (room : ℕ) → (export_shown T G room).number ≡ 0
    → read_text (export_shown T G room).text ≡ good (labels_of T G) (edges_of T G)
export_back T valid G e room h =
    ap read_text (export_written T G room h) ∙ reads (labels_of T G) (edges_of T G) (text_good_lem T valid G (graphed T valid G e).0 (drawn_said T valid G e))
