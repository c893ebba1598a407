-- What `urzulempa_what_if` and `urzulempa_what_if_explain` answer and leave in what was lent, for every file, solvable, reason, list, option
-- and room (document 02, order 10).
use Rattle.std.specs.Prelude.{◌≡◌, true, false, List, ℕ, length, leb}
use Rattle.std.proofs.Math.Option.{Option, some}
use Rattle.records.specs.Tables.{Tables}
use Rattle.records.specs.Read.{Reading, good, bad, read_of}
use Rattle.graph.specs.Graphs.{Outcome, drawn, refused}
use Rattle.whatif.specs.Asked.{ask_tables}
use Rattle.lists.specs.declared.entries.NodeEntry.{NodeEntry}
use Rattle.lists.specs.Nodes.{listed_by}
use Rattle.lists.specs.Asked.{asked_nodes}
use Rattle.machine.specs.Units.{Result}
use Rattle.plan.specs.Plan.{shown_of}
use Rattle.texts.specs.Wrote.{over}
use Rattle.explanation.specs.Explain.{refusal, explain_shown}
use Rattle.calls.specs.declared.Answer.{Answer}
use Rattle.calls.specs.Nodes.{nodes_by, list_over}
use Rattle.calls.specs.Says.{result_by}

-- ---- the node list then

-- the answer for a list of `len` entries: "the file's 1 to 9, then 4, 8, 17"; "The list too short: 10, place 0."
unfoldable pub what_if_answer : List ℕ → ℕ → ℕ → ℕ → Answer
unfolding asked_nodes
what_if_answer file s r len = nodes_by (asked_nodes file s r) len

-- what becomes of the list l: its first entries are those of the nodes asked for where the answer is done, else none changes
-- (`list_over`, `listed_by`)
unfoldable pub what_if_left : List ℕ → ℕ → ℕ → List NodeEntry → List NodeEntry
unfolding asked_nodes
what_if_left file s r l = list_over (listed_by (asked_nodes file s r) (length l)) l

-- ---- the text then

-- "the text is `fmt_graph`'s of it", by document 01's rules (edition 1), if n turns are enough
abbrev pub explain_outcome : ℕ → Tables → Outcome → ℕ → ℕ → Option Result
explain_outcome n T (refused k p) opt room = some (refusal k p)
explain_outcome n T (drawn G) opt room = explain_shown 1 n (shown_of T G) opt room

-- "with that file's refusals first"
abbrev pub ask_read : ℕ → ℕ → ℕ → ℕ → ℕ → Reading → Option Result
ask_read n s r opt room (bad k p) = some (refusal k p)
ask_read n s r opt room (good T) = explain_outcome n T (ask_tables T s r) opt room

-- "12 is tested first", then the file's refusals, then the question's
abbrev pub explain_what_if : ℕ → List ℕ → ℕ → ℕ → ℕ → ℕ → Option Result
explain_what_if n file s r opt room = elim (leb opt 1) [ false ↦ some (refusal 12 0) | true ↦ ask_read n s r opt room (read_of file) ]

-- for some number of turns the definitions give the answer, and the room holds its text: "lent bytes past those written stay"
pub record SaysWhatIf (file : List ℕ) (s r opt : ℕ) (out left : List ℕ) (a : Answer) : Type 0 where
  pub text : List ℕ
  pub turns : ℕ
  pub is : explain_what_if turns file s r opt (length out) ≡ some (result_by a text)
  pub room : left ≡ over text out
