-- `urzulempa_edges` refuses what `urzulempa_check` refuses, and the ways through its code.
use Rattle.std.specs.Prelude.{◌≡◌, refl, Bool, true, false, List, ℕ, ◌*◌, ◌≤◌, ◌<◌, length, ltb, Ok, Err}
use Rattle.std.proofs.Common.{sym, ◌∙◌, lt-ltb, le-ltb}
use Rattle.std.proofs.Math.Path.{ap}
use Rattle.records.specs.Read.{Reading, good, bad, read_of}
use Rattle.store.specs.declared.Size.{Size}
use Rattle.store.specs.Graph.{Graph}
use Rattle.store.specs.Table.{graph_in, Stored, edges_count}
use Rattle.graph.specs.Graphs.{Outcome, drawn, refused, graph_of}
use Rattle.records.specs.declared.Refused.{Refused}
use Rattle.graph.specs.Files.{Made, outcome_by, outcome_of}
use Rattle.graph.specs.Checked.{Checks, checks_outcome}
use Rattle.lists.specs.Edges.{edges_over}
use Rattle.calls.specs.declared.Answer.{Answer}
use Rattle.calls.specs.Answers.{refusal_of, outcome_answer, check_by, check_of}
use Rattle.charts.specs.Edges.{listed_answer, edges_asked, edges_into, edges_by, leaves_by, edges_answer, edges_left}

-- a file that `urzulempa_check` refuses is refused alike, whatever the list
pub edges_check : (file : List ℕ) (len : ℕ) → ((check_of file).number ≡ 0 → ⊥) → edges_answer file len ≡ check_of file
unfolding edges_answer outcome_of check_of
edges_check file len f = go (read_of file) f
  where
    outcome : (o : Outcome) → ((outcome_answer o).number ≡ 0 → ⊥) → edges_by o len ≡ outcome_answer o
    outcome (drawn G) f = absurd (f refl)
    outcome (refused k p) f = refl

    go : (y : Reading) → ((check_by y).number ≡ 0 → ⊥) → edges_by (outcome_by y) len ≡ check_by y
    go (bad k p) f = refl
    go (good T) f = outcome (graph_of T) f

-- ---- a graph that is drawn whole

module _ (g : List ℕ) (s : Size) (S : Stored g s) (l : List ℕ) where
  many : length (graph_in g s).edges ≡ s.edges
  many = edges_count g s S

  pub short_answer : (x : Answer) → length l < 5 * s.edges → x ≡ refusal_of 10 0 → x ≡ edges_asked (graph_in g s) (length l)
  short_answer x h q = rw (many, lt-ltb (length l) (5 * s.edges) h) q

  pub short_list : length l < 5 * s.edges → l ≡ edges_into (graph_in g s) l
  short_list h = rw (many, lt-ltb (length l) (5 * s.edges) h)

  pub whole_answer : (x : Answer) → 5 * s.edges ≤ length l → x ≡ listed_answer s.edges → x ≡ edges_asked (graph_in g s) (length l)
  whole_answer x h q = rw (many, le-ltb (length l) (5 * s.edges) h) q

  pub whole_list : (k : List ℕ) → 5 * s.edges ≤ length l → k ≡ edges_over (graph_in g s) l → k ≡ edges_into (graph_in g s) l
  whole_list k h q = rw (many, le-ltb (length l) (5 * s.edges) h) q

pub ruleset wholes = (short_answer, short_list, whole_answer, whole_list)

-- ---- m is what the file makes

module _ (file g : List ℕ) (m : Made) (R : Checks file g m) (l : List ℕ) where
  pub bytes_refused : (x : Answer) (k p : ℕ) → m ≡ Err (record { number = k; place = p }) → x ≡ refusal_of k p → x ≡ edges_answer file (length l)
  unfolding edges_answer
  bytes_refused x k p e h = h ∙ ap (λ (o : Outcome). edges_by o (length l)) (checks_outcome file g m R (Err (record { number = k; place = p })) e)

  pub bytes_refused_list : (r : Refused) → m ≡ Err r → l ≡ edges_left file l
  unfolding edges_left
  bytes_refused_list r e = ap (λ (o : Outcome). leaves_by o l) (checks_outcome file g m R (Err r) e)

  pub bytes_whole : (x : Answer) (s : Size) → m ≡ Ok s → x ≡ edges_asked (graph_in g s) (length l) → x ≡ edges_answer file (length l)
  unfolding edges_answer
  bytes_whole x s e h = h ∙ ap (λ (o : Outcome). edges_by o (length l)) (checks_outcome file g m R (Ok s) e)

  pub bytes_whole_list : (k : List ℕ) (s : Size) → m ≡ Ok s → k ≡ edges_into (graph_in g s) l → k ≡ edges_left file l
  unfolding edges_left
  bytes_whole_list k s e h = h ∙ ap (λ (o : Outcome). leaves_by o l) (checks_outcome file g m R (Ok s) e)
