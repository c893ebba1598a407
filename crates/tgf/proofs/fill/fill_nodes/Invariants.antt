use Rattle.std.proofs.Common.{◌≡◌, length}
use Rattle.std.proofs.lemmas.List.Edits.{sets}
use Rattle.tgf.specs.Read.{read_text}
use Rattle.tgf.specs.Lent.{labels_in, edges_read, node_spots, nodes_end}
use Rattle.tgf.specs.Laws.Filling.{Nodes}
use Rattle.tgf.proofs.fill.fill_nodes.Given as goal

-- i nodes are in the list, and what is left of the text puts the others into it
abbrev pub invariant-loop-i : goal.invariant-loop-i
invariant-loop-i l =
    (length l.nodes ≡ length l.fn.nodes)
    × Nodes l.text l.at l.i l.n l.nodes (sets l.fn.nodes 0 (node_spots 0 0 (labels_in (read_text l.text)))) (nodes_end 0 0 (labels_in (read_text l.text)))
    (edges_read (read_text l.text))
