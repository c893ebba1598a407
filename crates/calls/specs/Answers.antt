-- What the public calls answer, over the file's bytes.
use Rattle.std.specs.Prelude.{List, ℕ}
use Rattle.records.specs.Read.{Reading, good, bad, read_of}
use Rattle.graph.specs.Graphs.{Outcome, drawn, refused, graph_of}
use Rattle.calls.specs.declared.Answer.{Answer}

-- "the last three are 0 for 1 to 9 and 12. 0 means done, place 0."
abbrev pub refusal_of : ℕ → ℕ → Answer
refusal_of k p = record { number = k; place = p; bytes = 0; units = 0; depth = 0 }

-- 7 to 9, or "0 means done, place 0."
abbrev pub outcome_answer : Outcome → Answer
outcome_answer (drawn G) = refusal_of 0 0
outcome_answer (refused k p) = refusal_of k p

-- "1, then record by record in the table's order, then core clauses in order (7, 8), then 9"
abbrev pub check_by : Reading → Answer
check_by (bad k p) = refusal_of k p
check_by (good T) = outcome_answer (graph_of T)

-- from the file's bytes (`check_by`)
unfoldable pub check_of : List ℕ → Answer
check_of file = check_by (read_of file)
