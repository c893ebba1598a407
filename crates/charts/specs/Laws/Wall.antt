-- What was exported is read back to the graph's nodes, edges and labels, over the contracts of `urzulempa_tgf` and `urzulempa_tgf_read`;
-- and the ways through the exporter's code.
use Rattle.std.specs.Prelude.{◌≡◌, refl, List, [], ℕ, length, take, Ok, Err}
use Rattle.std.proofs.Common.{sym, ◌∙◌}
use Rattle.std.proofs.Math.Path.{ap}
use Rattle.std.proofs.Math.Seq.{take-append_seam}
use Rattle.records.specs.Tables.{Tables}
use Rattle.records.specs.Read.{Reading, good, bad, read_of, tables_of}
use Rattle.index.specs.Promise.{promise}
use Rattle.store.specs.declared.Size.{Size}
use Rattle.store.specs.Graph.{Graph}
use Rattle.store.specs.Table.{graph_in}
use Rattle.graph.specs.Graphs.{Outcome, drawn, refused, graph_of}
use Rattle.records.specs.declared.Refused.{Refused}
use Rattle.graph.specs.Files.{Made, Makes}
use Rattle.graph.specs.Laws.Files.{makes_good, makes_graph, makes_refused}
use Rattle.texts.specs.Wrote.{over}
use Rattle.explanation.specs.Explain.{refusal}
use Rattle.tgf.specs.Read as R
use Rattle.wall.specs.Export.{labels_of, edges_of, export_shown}
use Rattle.wall.specs.Laws.Back.{export_back, export_bytes}
use Rattle.calls.specs.declared.Answer.{Answer}
use Rattle.calls.specs.Answers.{refusal_of}
use Rattle.charts.specs.Draws.{result_answer}
use Rattle.charts.specs.Wall.{export_by, export_read, export_file}

-- ---- m is what the file makes

module _ (file ix g w : List ℕ) (m : Made) (R : Makes file ix g w m) (room : ℕ) where
  unread : (k p : ℕ) → m ≡ Err (record { number = k; place = p }) → export_file file room ≡ refusal k p
  unfolding export_file
  unread k p e = makes_refused file ix g w m R (export_read room) refusal (λ l i. refl) (λ T l i z. ap (export_by room T) z) k p e

  whole : (s : Size) → m ≡ Ok s → export_file file room ≡ export_shown (tables_of file) (graph_in g s) room
  unfolding export_file
  whole s e = rw (makes_good file ix g w m R s e, makes_graph file ix g w m R s e)

  pub export_refused : (x : Answer) (k p : ℕ) → m ≡ Err (record { number = k; place = p }) → x ≡ refusal_of k p → x ≡ result_answer (export_file file room)
  export_refused x k p e h = rw (unread k p e) h

  pub export_refused_room : (b : List ℕ) (r : Refused) → m ≡ Err r → b ≡ over (export_file file room).text b
  export_refused_room b r e = rw (unread r.number r.place e)

  pub export_whole : (x : Answer) (s : Size) → m ≡ Ok s → x ≡ result_answer (export_shown (tables_of file) (graph_in g s) room)
      → x ≡ result_answer (export_file file room)
  export_whole x s e h = rw (whole s e) h

  pub export_whole_room : (l b : List ℕ) (s : Size) → m ≡ Ok s → b ≡ over (export_shown (tables_of file) (graph_in g s) room).text l
      → b ≡ over (export_file file room).text l
  export_whole_room l b s e h = rw (whole s e) h

-- ---- the theorem

module _ (file room : List ℕ) (T : Tables) (G : Graph) (e : read_of file ≡ good T) (q : graph_of T ≡ drawn G) where
  shown : export_file file (length room) ≡ export_shown T G (length room)
  unfolding export_file
  shown = rw (e, q)

  -- the bytes that `urzulempa_tgf` wrote, where it is done, are read as the nodes and edges of the graph with their labels
  pub tgf_back : (export_file file (length room)).number ≡ 0
      → R.read_text (take (export_file file (length room)).bytes (over (export_file file (length room)).text room)) ≡ R.good (labels_of T G) (edges_of T G)
  tgf_back h =
      let n : (export_shown T G (length room)).number ≡ 0 = rw shown at h in
      let t : List ℕ = (export_shown T G (length room)).text in
      rw shown
      (ap R.read_text (ap (λ (k : ℕ). take k (over (export_shown T G (length room)).text room)) (export_bytes T G (length room)) ∙ take-append_seam _ _)
      ∙ export_back T (promise file T e) G q (length room) n)
