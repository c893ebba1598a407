-- Graphs that differ in clauses' numbers alone have the same graph text.
use Rattle.std.specs.Prelude.{◌≡◌, Bool, true, false, cond, length, eqb}
use Rattle.std.proofs.Math.Path.{refl, ap, fun_ext}
use Rattle.std.proofs.Common.{◌∙◌}
use mathlib.Core.List.{List, [], ◌∷◌, map}
use Prim.Native.Nat.{ℕ}
use Rattle.basis.specs.Lists.{has, concat_map, snoc, upto}
use Rattle.basis.specs.Members.{split}
use Rattle.basis.specs.Quote.{utf8}
use Rattle.records.specs.Tables.{Tables}
use Rattle.records.specs.Views.{name_text, solvable_name}
use Rattle.store.specs.declared.Edge.{Edge}
use Rattle.store.specs.Graph.{Graph, out}
use Rattle.groups.specs.Groups.{mates}
use Rattle.drawing.specs.Draw.{Sketch, drawn_of, merge_mark, merged_drawn, member_first, edge_text, drawn_edges, is_drawn, edge_units, node_units, all_units, rest_units}
use Rattle.drawing.specs.Draw.{drawing_units}
use Rattle.drawing.specs.Graphviz.{fit_units, draw_shown}
use Rattle.demands.specs.Other.{renoted, other}
use Rattle.demands.specs.Laws.OtherEdges.{out_same}
use Rattle.demands.specs.Laws.OtherGroups.{mates_ignores}

module _ (f : Edge → ℕ) (fs : List ℕ) (h : ℕ) (T : Tables) (G : Graph) (ms : List ℕ) where
  -- both graphs with the same marks
  abbrev D : Sketch
  D = record { tables = T; graph = G; merged = ms }

  abbrev E : Sketch
  E = record { tables = T; graph = other f fs h G; merged = ms }

  kept_same : (es : List Edge) (seen : List ℕ) → drawn_edges E (map (renoted f) es) seen ≡ map (renoted f) (drawn_edges D es seen)
  unfolding drawn_edges
  kept_same [] seen = refl
  kept_same (e ∷ es) seen =
      split (merged_drawn D e.target)
      (λ t. split (has (member_first D e.target) seen)
      (λ u. rw (t, drawn_edges, u) (kept_same es seen))
      (λ u. rw (t, drawn_edges, u) (ap (λ (l : List Edge). renoted f e ∷ l) (kept_same es (member_first D e.target ∷ seen)))))
      (λ t. rw (t, drawn_edges) (ap (λ (l : List Edge). renoted f e ∷ l) (kept_same es seen)))

  texts_same : (n : ℕ) (es : List Edge) → map (edge_text E n) (map (renoted f) es) ≡ map (edge_text D n) es
  unfolding edge_text
  texts_same n [] = refl
  texts_same n (e ∷ es) = ap (λ (l : List (List ℕ)). edge_text D n e ∷ l) (texts_same n es)

  edges_same : (n : ℕ) → edge_units E n ≡ edge_units D n
  unfolding edge_units
  edges_same n =
      ap (λ (es : List Edge). map (edge_text E n) (drawn_edges E es [])) (out_same f fs h G n)
      ∙ ap (map (edge_text E n)) (kept_same (out G n) [])
      ∙ texts_same n (drawn_edges D (out G n) [])

  drawn_same : (n : ℕ) → is_drawn E n ≡ is_drawn D n
  unfolding is_drawn
  drawn_same n = refl

  nodes_same : (n : ℕ) → node_units E n ≡ node_units D n
  unfolding node_units
  nodes_same n = rw (drawn_same n, edges_same n)

  units_same : drawing_units E ≡ drawing_units D
  unfolding drawing_units rest_units all_units
  units_same = ap (λ (k : ℕ → List (List ℕ)). utf8 "digraph {" ∷ snoc (concat_map k (upto (length G.nodes) 0)) (utf8 "}")) (fun_ext nodes_same)

module _ (f : Edge → ℕ) (fs : List ℕ) (h : ℕ) (T : Tables) (G : Graph) where
  abbrev name : ℕ → List ℕ
  name s = name_text T (solvable_name T s)

  abbrev marks_by : ℕ → (ℕ → List ℕ) → List ℕ
  marks_by opt k = cond (eqb opt 1) (map (λ n. merge_mark (k n)) (upto (length G.nodes) 0)) []

  abbrev drawn_by : ℕ → (ℕ → List ℕ) → Sketch
  drawn_by opt k = record { tables = T; graph = other f fs h G; merged = marks_by opt k }

  marks_same : (opt : ℕ) → drawn_of opt T (other f fs h G) ≡ drawn_by opt (mates name G)
  unfolding drawn_of
  marks_same opt = ap (drawn_by opt) (fun_ext (mates_ignores f fs h G name))

  pub draw_ignores : (opt room : ℕ) → draw_shown (drawn_of opt T (other f fs h G)) room ≡ draw_shown (drawn_of opt T G) room
  unfolding draw_shown drawn_of
  draw_ignores opt room =
      ap (λ (x : Sketch). fit_units (drawing_units x) room) (marks_same opt)
      ∙ ap (λ (us : List (List ℕ)). fit_units us room) (units_same f fs h T G (marks_by opt (mates name G)))
