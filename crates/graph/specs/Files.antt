-- From a file's bytes to its graph, or to one of the refusals 1 to 9: what every call begins with.
use Rattle.std.specs.Prelude.{◌≡◌, List, ℕ, Result, Ok, Err}
use Rattle.records.specs.Read.{Reading, good, bad, read_of}
use Rattle.index.specs.Index.{Loaded}
use Rattle.store.specs.Table.{graph_in}
use Rattle.links.specs.Build.{Chains}
use Rattle.records.specs.declared.Refused.{Refused}
use Rattle.store.specs.declared.Size.{Size}
use Rattle.graph.specs.declared.Refusal.{Refusal}
use Rattle.graph.specs.declared.Refusal.TheVariants.{Learnt, NoRoom, Unreached}
use Rattle.graph.specs.declared.Stop.{Stop}
use Rattle.graph.specs.Graphs.{Outcome, drawn, refused, graph_of}

-- ---- what is right

-- "1, then record by record in the table's order, then core clauses in order (7, 8), then 9"
abbrev pub outcome_by : Reading → Outcome
outcome_by (bad k p) = refused k p
outcome_by (good T) = graph_of T

-- from the file's bytes (`outcome_by`)
unfoldable pub outcome_of : List ℕ → Outcome
unfolding read_of graph_of
outcome_of file = outcome_by (read_of file)

-- the answer: the graph's size, or a refusal
abbrev pub Made : Type 0
Made = Result Size Refused

-- what table g and answer r say
abbrev pub made_in : List ℕ → Made → Outcome
made_in g (Ok s) = drawn (graph_in g s)
made_in g (Err r) = refused r.number r.place

-- a graph is chained in w, and the file's index is ix
abbrev pub Standing : List ℕ → List ℕ → List ℕ → List ℕ → Made → Type 0
Standing file ix g w (Ok s) = (Loaded file ix) × (Chains g s w)
Standing file ix g w (Err r) = Unit {0}

-- the tables ix, g and w and answer r hold what the file makes
pub record Makes (file ix g w : List ℕ) (r : Made) : Type 0 where
  pub is : made_in g r ≡ outcome_of file
  pub standing : Standing file ix g w r

-- the number of document 01 for each refusal of the graph
abbrev pub number_of : Refusal → ℕ
number_of Learnt = 7
number_of NoRoom = 8
number_of Unreached = 9

-- the number and the values of document 01 for each case of the graph's answer
abbrev pub made_of : Result Size Stop → Made
made_of (Ok s) = Ok s
made_of (Err e) = Err (record { number = number_of e.refusal; place = e.place })
