-- How the code comes to the answer and the room of the graph text.
use Rattle.std.specs.Prelude.{◌≡◌, Bool, true, false, List, ℕ, zero, suc, ◌≤◌, ◌<◌, length, get_or, eqb, Ok, Err}
use Rattle.std.proofs.Math.Path.{refl, ap}
use Rattle.std.proofs.Common.{◌∙◌, arith, le-leb}
use Rattle.std.proofs.lemmas.Bool.{lt-leb}
use Rattle.records.specs.Tables.{Tables}
use Rattle.records.specs.Read.{tables_of}
use Rattle.store.specs.declared.Size.{Size}
use Rattle.store.specs.Graph.{Graph}
use Rattle.store.specs.Table.{graph_in, nodes_count}
use Rattle.links.specs.Build.{Chains}
use Rattle.groups.specs.Groups.{title_of, lead_of}
use Rattle.groups.specs.Leads.{leads_to, leads_at}
use Rattle.groups.specs.Naming.{name_of}
use Rattle.records.specs.declared.Refused.{Refused}
use Rattle.graph.specs.Files.{Made, Makes}
use Rattle.graph.specs.Laws.Files.{makes_good, makes_graph, makes_refused}
use Rattle.machine.specs.Units.{Result}
use Rattle.texts.specs.Wrote.{over}
use Rattle.drawing.specs.declared.PenAnswer as Drawn
use Rattle.drawing.specs.Draw.{drawn_of}
use Rattle.drawing.specs.Graphviz.{draw_shown, answer_in}
use Rattle.drawing.specs.Same.{Given, option_of}
use Rattle.explanation.specs.Explain.{refusal}
use Rattle.calls.specs.declared.Answer.{Answer}
use Rattle.calls.specs.Answers.{refusal_of}
use Rattle.calls.specs.Laws.Says.{option_is}
use Rattle.charts.specs.Draws.{draw_by, draw_read, draw_bytes, draw_file, result_answer, drawing_as}

-- ---- the ways through the code

pub draws_plain : (t : Bool) (T : Tables) (G : Graph) (leads : List ℕ) → t ≡ false → Given t T G leads
unfolding Given
draws_plain t T G leads e = rw e tt

pub draws_given : (t : Bool) (T : Tables) (g : List ℕ) (s : Size) (w leads l : List ℕ)
    → leads ≡ leads_to (title_of (name_of T) (graph_in g s)) (graph_in g s) s.nodes l → Chains g s w → length l ≡ 128 → Given t T (graph_in g s) leads
unfolding Given lead_of
draws_given false T g s w leads l e C h = tt
draws_given true T g s w leads l e C h =
    record {
      lead = λ j i.
          ap (λ (x : List ℕ). get_or x j 0) e
          ∙ leads_at (title_of (name_of T) (graph_in g s)) (graph_in g s) s.nodes l (omega (arith, C.stored.nodes_most)) j (omega (
            arith,
            nodes_count g s C.stored,
          ));
    }

pub draws_answer : (x : Answer) (d : Drawn.PenAnswer) (R : Result) → x ≡ drawing_as d → d ≡ answer_in R → x ≡ result_answer R
draws_answer x d R q e = q ∙ ap drawing_as e

-- m is what the file makes
module _ (file ix g w : List ℕ) (m : Made) (R : Makes file ix g w m) (opt room : ℕ) where
  unread : (k p : ℕ) → m ≡ Err (record { number = k; place = p }) → draw_bytes opt room file ≡ refusal k p
  unfolding draw_bytes
  unread k p e = makes_refused file ix g w m R (draw_read opt room) refusal (λ l i. refl) (λ T l i z. ap (draw_by opt room T) z) k p e

  whole : (s : Size) → m ≡ Ok s → draw_bytes opt room file ≡ draw_shown (drawn_of opt (tables_of file) (graph_in g s)) room
  unfolding draw_bytes
  whole s e = rw (makes_good file ix g w m R s e, makes_graph file ix g w m R s e)

  pub bytes_refused : (x : Answer) (k p : ℕ) → m ≡ Err (record { number = k; place = p }) → x ≡ refusal_of k p → x ≡ result_answer (draw_bytes opt room file)
  bytes_refused x k p e h = rw (unread k p e) h

  pub bytes_refused_room : (b : List ℕ) (r : Refused) → m ≡ Err r → b ≡ over (draw_bytes opt room file).text b
  bytes_refused_room b r e = rw (unread r.number r.place e)

  pub bytes_whole : (x : Answer) (s : Size) → m ≡ Ok s → x ≡ result_answer (draw_shown (drawn_of opt (tables_of file) (graph_in g s)) room)
      → x ≡ result_answer (draw_bytes opt room file)
  bytes_whole x s e h = rw (whole s e) h

  pub bytes_whole_room : (l b : List ℕ) (s : Size) → m ≡ Ok s → b ≡ over (draw_shown (drawn_of opt (tables_of file) (graph_in g s)) room).text l
      → b ≡ over (draw_bytes opt room file).text l
  bytes_whole_room l b s e h = rw (whole s e) h

-- the option
module _ (file : List ℕ) (opt room : ℕ) where
  pub file_option : (x : Answer) → 1 < opt → x ≡ refusal_of 12 0 → x ≡ result_answer (draw_file file opt room)
  unfolding draw_file
  file_option x h q = rw (lt-leb opt 1 h) q

  pub file_option_room : (a : List ℕ) → 1 < opt → a ≡ over (draw_file file opt room).text a
  unfolding draw_file
  file_option_room a h = rw (lt-leb opt 1 h) refl

  pub file_bytes : (x : Answer) → opt ≤ 1 → x ≡ result_answer (draw_bytes (option_of (eqb opt 1)) room file) → x ≡ result_answer (draw_file file opt room)
  unfolding draw_file
  file_bytes x h q = rw (le-leb opt 1 h) (rw (option_is opt h) at q)

  pub file_bytes_room : (a b : List ℕ) → opt ≤ 1 → b ≡ over (draw_bytes (option_of (eqb opt 1)) room file).text a → b ≡ over (draw_file file opt room).text a
  unfolding draw_file
  file_bytes_room a b h q = rw (le-leb opt 1 h) (rw (option_is opt h) at q)

pub answer_via : (d : Drawn.PenAnswer) (a b c e f : ℕ) → a ≡ d.number → b ≡ d.place → c ≡ d.bytes → e ≡ d.units → f ≡ d.depth
    → ◌≡◌ {A = Answer} (record { number = a; place = b; bytes = c; units = e; depth = f }) (drawing_as d)
answer_via d a b c e f p q r s t = rw (p, q, r, s, t)
