-- Demand 1 of the calls whose contracts are equations: an equation gives one answer for every input, so what is left to say is what becomes of lent memory.
use Rattle.std.specs.Prelude.{◌≡◌, cond, List, [], ◌∷◌, map, ℕ, ◌*◌, max, length, leb, ltb}
use Rattle.std.proofs.Math.Path.{refl}
use Rattle.std.proofs.Common.{sym, ap, ◌∙◌, subst, inl, append-nil, arith, leb-true, leb-false}
use Rattle.std.proofs.Math.Logic.{inr}
use Rattle.basis.specs.Guard.{guard}
use Rattle.basis.specs.Members.{split, either}
use Rattle.records.specs.Tables.{Tables}
use Rattle.records.specs.Read.{good, bad, read_of}
use Rattle.store.specs.Graph.{Graph}
use Rattle.graph.specs.Graphs.{Outcome, drawn, refused, graph_of}
use Rattle.graph.specs.Files.{outcome_of}
use Rattle.machine.specs.Units.{TextUnit, Result, text_of, depth_of, written, fitting, fit}
use Rattle.machine.specs.Fit.{depth_append, fitting_within, next_unit, fit_whole, fit_less}
use Rattle.texts.specs.Wrote.{over}
use Rattle.drawing.specs.Draw.{drawn_of, drawing_units}
use Rattle.drawing.specs.Graphviz.{unit_of, fit_units, draw_shown}
use Rattle.wall.specs.Export.{export_units, export_shown}
use Rattle.explanation.specs.Explain.{refusal}
use Rattle.lists.specs.declared.entries.NodeEntry.{NodeEntry}
use Rattle.lists.specs.Nodes.{Nodes, entered, denied, nodes_of, listed_by}
use Rattle.salvage.specs.Salvage as Salvage
use Rattle.salvage.specs.Lent as Lent
use Rattle.writing.specs.Write as Write
use Rattle.tgf.specs.Read as Wall
use Rattle.tgf.specs.Lent.{tgf_by, tgf_counts, tgf_nodes, tgf_edges}
use Rattle.charts.specs.Draws.{result_answer, draw_bytes, draw_file}
use Rattle.charts.specs.Edges.{edges_by, leaves_by, edges_answer, edges_left}
use Rattle.calls.specs.Nodes.{nodes_by, nodes_answer, nodes_left, list_over}
use Rattle.charts.specs.Wall.{export_file}
use Rattle.demands.specs.Rules.{Early, FirstOf, UnitsOr}
use Rattle.demands.specs.Laws.Calls.{by_reading, by_outcome, bad_early, refused_early}

-- ---- a text of units in a room

pub fit_first : (room : ℕ) (us : List TextUnit) → FirstOf us room (fit 0 0 room us)
fit_first room us =
    split (leb (length (text_of us)) room)
    (λ q. let h = leb-true (length (text_of us)) room q in
    let e : fit 0 0 room us ≡ written 0 0 us = fit_whole 0 0 room us h in
    rw e (record {
      first = us;
      rest = [];
      begins = sym (append-nil us);
      text = refl;
      bytes = refl;
      units = refl;
      depth = refl;
      fits = h;
      number = inl (refl, refl, refl);
    }))
    (λ q. let h = leb-false (length (text_of us)) room q in
    let e : fit 0 0 room us ≡ written 10 (length (fitting room us)) (fitting room us) = fit_less 0 0 room us h in
    let n = next_unit room us h in
    rw e
    (record {
      first = fitting room us;
      rest = n.unit ∷ n.rest;
      begins = n.is;
      text = refl;
      bytes = refl;
      units = refl;
      depth = refl;
      fits = fitting_within room us;
      number = inr (refl, refl, (n.unit, n.rest, refl, n.over));
    }))

-- units of a text that opens no package
depth_none : (l : List (List ℕ)) → depth_of (map unit_of l) ≡ 0
depth_none [] = refl
depth_none (x ∷ l) = let h = depth_none l in omega arith

first_flat : (l : List (List ℕ)) (room : ℕ) (x : Result) → FirstOf (map unit_of l) room x → x.depth ≡ 0
first_flat l room x f =
    let a = depth_none l in
    let b : depth_of (map unit_of l) ≡ max (depth_of f.first) (depth_of f.rest) = ap depth_of f.begins ∙ depth_append f.first f.rest in
    let c = f.depth in
    omega arith

first_late : (us : List TextUnit) (room : ℕ) (x : Result) → FirstOf us room x → Early x.number → ⊥
first_late us room x f e =
    either e
    (λ h. let a = h.0 in let b = h.1 in either f.number (λ z. let y = z.0 in omega arith) (λ z. let y = z.0 in omega arith))
    (λ h. either f.number (λ z. let y = z.0 in omega arith) (λ z. let y = z.0 in omega arith))

-- ---- `urzulempa_graphviz`

module _ (file : List ℕ) (opt room : ℕ) where
  draw_bad : (k p : ℕ) → read_of file ≡ bad k p → draw_bytes opt room file ≡ refusal k p
  unfolding draw_bytes
  draw_bad k p y = rw y

  draw_out : (T : Tables) (k p : ℕ) → read_of file ≡ good T → graph_of T ≡ refused k p → draw_bytes opt room file ≡ refusal k p
  unfolding draw_bytes
  draw_out T k p y g = rw (y, g)

  draw_whole : (T : Tables) (G : Graph) → read_of file ≡ good T → graph_of T ≡ drawn G → draw_bytes opt room file ≡ draw_shown (drawn_of opt T G) room
  unfolding draw_bytes
  draw_whole T G y g = rw (y, g)

  shown_first_lem : (T : Tables) (G : Graph) → FirstOf (map unit_of (drawing_units (drawn_of opt T G))) room (draw_shown (drawn_of opt T G) room)
  unfolding draw_shown fit_units
  shown_first_lem T G = fit_first room (map unit_of (drawing_units (drawn_of opt T G)))

  abbrev Draws : Result → Type 0
  Draws x = UnitsOr (λ T G. drawing_units (drawn_of opt T G)) file room x

  draw_bytes_lem : Draws (draw_bytes opt room file)
  draw_bytes_lem =
      by_reading (read_of file)
      (λ k p y. inl (k, p, inl (bad_early file k p y), draw_bad k p y))
      (λ T y. by_outcome (graph_of T)
      (λ k p g. inl (k, p, inl (refused_early T k p g), draw_out T k p y g))
      (λ G g. let f = subst (FirstOf (map unit_of (drawing_units (drawn_of opt T G))) room) (sym (draw_whole T G y g)) (shown_first_lem T G) in
      inr (record { tables = T; graph = G; reads = y; draws = g }, f, first_flat (drawing_units (drawn_of opt T G)) room (draw_bytes opt room file) f)))

  pub draw_units : Draws (draw_file file opt room)
  unfolding draw_file
  draw_units = split (leb opt 1) (λ o. rw o draw_bytes_lem) (λ o. rw o (inl (12, 0, inr refl, refl)))

units_kept : (units : Tables → Graph → List (List ℕ)) (file room : List ℕ) (x : Result) → UnitsOr units file (length room) x → Early x.number
    → over x.text room ≡ room
units_kept units file room x (inl u) e = rw u.3
units_kept units file room x (inr u) e = absurd (first_late (map unit_of (units u.0.tables u.0.graph)) (length room) x u.1 e)

pub draw_refused : (file : List ℕ) (opt : ℕ) (room : List ℕ) → Early (result_answer (draw_file file opt (length room))).number
    → over (draw_file file opt (length room)).text room ≡ room
draw_refused file opt room e =
    units_kept (λ T G. drawing_units (drawn_of opt T G)) file room (draw_file file opt (length room)) (draw_units file opt (length room)) e

-- ---- `urzulempa_tgf`

module _ (file : List ℕ) (room : ℕ) where
  tgf_bad : (k p : ℕ) → read_of file ≡ bad k p → export_file file room ≡ refusal k p
  unfolding export_file
  tgf_bad k p y = rw y

  tgf_out : (T : Tables) (k p : ℕ) → read_of file ≡ good T → graph_of T ≡ refused k p → export_file file room ≡ refusal k p
  unfolding export_file
  tgf_out T k p y g = rw (y, g)

  tgf_whole : (T : Tables) (G : Graph) → read_of file ≡ good T → graph_of T ≡ drawn G → export_file file room ≡ export_shown T G room
  unfolding export_file
  tgf_whole T G y g = rw (y, g)

  export_first : (T : Tables) (G : Graph) → FirstOf (map unit_of (export_units T G)) room (export_shown T G room)
  unfolding export_shown fit_units
  export_first T G = fit_first room (map unit_of (export_units T G))

  pub tgf_units : UnitsOr export_units file room (export_file file room)
  tgf_units =
      by_reading (read_of file)
      (λ k p y. inl (k, p, inl (bad_early file k p y), tgf_bad k p y))
      (λ T y. by_outcome (graph_of T)
      (λ k p g. inl (k, p, inl (refused_early T k p g), tgf_out T k p y g))
      (λ G g. let f = subst (FirstOf (map unit_of (export_units T G)) room) (sym (tgf_whole T G y g)) (export_first T G) in
      inr (record { tables = T; graph = G; reads = y; draws = g }, f, first_flat (export_units T G) room (export_file file room) f)))

pub tgf_refused : (file room : List ℕ) → Early (result_answer (export_file file (length room))).number → over (export_file file (length room)).text room ≡ room
tgf_refused file room e = units_kept export_units file room (export_file file (length room)) (tgf_units file (length room)) e

-- ---- `urzulempa_nodes`, `urzulempa_edges`: "nothing changed" by 10 as well

pub nodes_refused : (file : List ℕ) (l : List NodeEntry) → ((nodes_answer file (length l)).number ≡ 0 → ⊥) → nodes_left file l ≡ l
unfolding nodes_answer nodes_left
nodes_refused file l f = by (nodes_of file) f
  where
    by : (X : Nodes) → ((nodes_by X (length l)).number ≡ 0 → ⊥) → list_over (listed_by X (length l)) l ≡ l
    by (denied k p) f = refl
    by (entered es) f = split (ltb (length l) (length es)) (λ t. rw (t, cond)) (λ t. absurd (f (rw (t, cond))))

pub edges_refused : (file l : List ℕ) → ((edges_answer file (length l)).number ≡ 0 → ⊥) → edges_left file l ≡ l
unfolding edges_answer edges_left
edges_refused file l f = by (outcome_of file) f
  where
    by : (o : Outcome) → ((edges_by o (length l)).number ≡ 0 → ⊥) → leaves_by o l ≡ l
    by (refused k p) f = refl
    by (drawn G) f = split (ltb (length l) (5 * length G.edges)) (λ t. rw (t, cond)) (λ t. absurd (f (rw (t, cond))))

-- ---- `urzulempa_salvage`, `urzulempa_write`, `urzulempa_tgf_read`

pub salvage_refused : (file room list : List ℕ) → ((Lent.salvage_answer file (length room) (length list)).number ≡ 0 → ⊥)
    → (Lent.salvage_room file room (length list) ≡ room) × (Lent.salvage_list file (length room) list ≡ list)
unfolding Lent.salvage_answer Lent.salvage_room Lent.salvage_list
salvage_refused file room list f = by (Salvage.salvage_of file) f
  where
    by : (o : Salvage.Salvage) → ((Lent.answer_for o (length room) (length list)).number ≡ 0 → ⊥)
        → (Lent.room_for o room (length list) ≡ room) × (Lent.list_for o (length room) list ≡ list)
    by (Salvage.refused k i) f = (refl, refl)
    by (Salvage.repaired out ls d) f =
        split (Lent.fits_lent (length out) (length ls) (length room) (length list))
        (λ t. absurd (f (rw (t, cond))))
        (λ t. (rw (t, cond), rw (t, cond)))

pub write_refused : (rows room : List ℕ) → ((Write.write_answer rows (length room)).number ≡ 0 → ⊥) → Write.write_room rows room ≡ room
unfolding Write.write_answer Write.write_room
write_refused rows room f = by (Write.write_of rows) f
  where
    by : (o : Write.File) → ((Write.answer_for o (length room)).number ≡ 0 → ⊥) → Write.room_for o room ≡ room
    by (Write.refused k i) f = refl
    by (Write.written out) f = split (leb (length out) (length room)) (λ t. absurd (f (rw (t, cond)))) (λ t. rw (t, cond))

pub tgf_read_refused : (o : Wall.WallText) (nodes edges : List ℕ) → ((tgf_counts o (length nodes) (length edges)).number ≡ 0 → ⊥)
    → (tgf_nodes o nodes (length edges) ≡ nodes) × (tgf_edges o (length nodes) edges ≡ edges)
unfolding tgf_by guard
tgf_read_refused (Wall.bad n) nodes edges f = (refl, refl)
tgf_read_refused (Wall.good ns es) nodes edges f =
    split (leb (2 * length ns) (length nodes))
    (λ a. split (leb (4 * length es) (length edges))
    (λ b. absurd (f (rw (a, b))))
    (λ b. (rw (a, b), rw (a, b))))
    (λ a. (rw a, rw a))
