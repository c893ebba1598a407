-- The node list of the graph asked for (document 02, order 10): "it builds once, with that file's refusals first, and asks from there".
use Rattle.std.specs.Prelude.{List, ℕ}
use Rattle.records.specs.Read.{Reading, good, bad, read_of}
use Rattle.whatif.specs.Asked.{ask_tables}
use Rattle.lists.specs.Nodes.{node_entries, Nodes, denied, nodes_drawn}

-- "the file's 1 to 9, then 4, 8, 17", or the entries of the graph asked for
abbrev pub asked_read : ℕ → ℕ → Reading → Nodes
asked_read s r (bad k p) = denied k p
asked_read s r (good T) = nodes_drawn T (ask_tables T s r)

-- from the file's bytes (`asked_read`)
unfoldable pub asked_nodes : List ℕ → ℕ → ℕ → Nodes
unfolding read_of ask_tables node_entries
asked_nodes file s r = asked_read s r (read_of file)
