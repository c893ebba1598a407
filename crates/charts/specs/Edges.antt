-- What `urzulempa_edges` answers and leaves in the lent list, over the file's bytes (document 02, order 3).
use Rattle.std.specs.Prelude.{cond, List, ℕ, ◌*◌, length, ltb}
use Rattle.store.specs.Graph.{Graph}
use Rattle.graph.specs.Graphs.{Outcome, drawn, refused}
use Rattle.graph.specs.Files.{outcome_of}
use Rattle.lists.specs.Edges.{edges_over}
use Rattle.calls.specs.declared.Answer.{Answer}
use Rattle.calls.specs.Answers.{refusal_of}

-- "Done: bytes = 10 × edges, units 1, place and depth 0."
abbrev pub listed_answer : ℕ → Answer
listed_answer n = record { number = 0; place = 0; bytes = 10 * n; units = 1; depth = 0 }

-- "Fewer than 5 × edges: 10, place 0, nothing changed."
abbrev pub edges_asked : Graph → ℕ → Answer
edges_asked G len = cond (ltb len (5 * length G.edges)) (refusal_of 10 0) (listed_answer (length G.edges))

-- "Fewer than 5 × edges: 10, place 0, nothing changed."
abbrev pub edges_into : Graph → List ℕ → List ℕ
edges_into G l = cond (ltb (length l) (5 * length G.edges)) l (edges_over G l)

-- "Refusals 1 to 9 as in `check`"; they change nothing either
abbrev pub edges_by : Outcome → ℕ → Answer
edges_by (refused k p) len = refusal_of k p
edges_by (drawn G) len = edges_asked G len

-- "Refusals change nothing that was lent"
abbrev pub leaves_by : Outcome → List ℕ → List ℕ
leaves_by (refused k p) l = l
leaves_by (drawn G) l = edges_into G l

-- the answer for a list of `len` numbers (`edges_by`)
unfoldable pub edges_answer : List ℕ → ℕ → Answer
unfolding outcome_of
edges_answer file len = edges_by (outcome_of file) len

-- what becomes of the list l (`leaves_by`)
unfoldable pub edges_left : List ℕ → List ℕ → List ℕ
unfolding outcome_of
edges_left file l = leaves_by (outcome_of file) l
