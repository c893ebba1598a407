-- What `urzulempa_nodes` answers and leaves in the lent list, over the file's bytes.
use Rattle.std.specs.Prelude.{◌≡◌, cond, List, ◌++◌, ℕ, length, drop, replicate, ltb}
use Rattle.lists.specs.declared.entries.NodeEntry.{NodeEntry}
use Rattle.lists.specs.declared.nodes.Counted.{Counted}
use Rattle.lists.specs.Nodes.{Nodes, entered, denied, nodes_of, listed_by}
use Rattle.calls.specs.declared.Answer.{Answer}
use Rattle.calls.specs.Answers.{refusal_of}

-- "if it holds fewer than the nodes, answer 10 with place 0 and nothing changed, the whole list being one unit; bytes and depth are 0
-- there"; 1 to 9 as `urzulempa_check` says them
abbrev pub nodes_by : Nodes → ℕ → Answer
nodes_by (denied k p) len = refusal_of k p
nodes_by (entered es) len = cond (ltb len (length es)) (refusal_of 10 0) (record { number = 0; place = 0; bytes = 0; units = 1; depth = 0 })

-- the answer for a list of `len` entries (`nodes_by`)
unfoldable pub nodes_answer : List ℕ → ℕ → Answer
unfolding nodes_of
nodes_answer file len = nodes_by (nodes_of file) len

-- "entries past the last node stay as they were"
abbrev pub list_over : List NodeEntry → List NodeEntry → List NodeEntry
list_over es l = es ++ drop (length es) l

-- what becomes of the list l: its first entries are the nodes' where the answer is done, else none changes (`list_over`, `listed_by`)
unfoldable pub nodes_left : List ℕ → List NodeEntry → List NodeEntry
unfolding nodes_of
nodes_left file l = list_over (listed_by (nodes_of file) (length l)) l

-- ---- the way through the code

-- the words that the export starts from
abbrev pub no_words : List ℕ
no_words = replicate 128 0

abbrev pub answer_of : Counted → Answer
answer_of c = record { number = c.number; place = c.place; bytes = 0; units = c.units; depth = 0 }

-- what the export says, in the shape of its `ensures`
abbrev pub NodesSaid : List ℕ → List NodeEntry → Answer → List NodeEntry → Type 0
NodesSaid file l r zs = (r ≡ nodes_answer file (length l)) × (zs ≡ nodes_left file l)
