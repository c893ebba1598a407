use Rattle.std.proofs.Common.{◌≡◌, length}
use Rattle.std.proofs.lemmas.List.Edits.{sets}
use Rattle.tgf.specs.Read.{read_text}
use Rattle.tgf.specs.Lent.{edges_read, edge_spots}
use Rattle.tgf.specs.Laws.Filling.{Edges}
use Rattle.tgf.proofs.fill.fill_edges.Given as goal

-- k edges are in the list, and what is left of the text puts the others into it
abbrev pub invariant-loop-k : goal.invariant-loop-k
invariant-loop-k l =
    (length l.edges ≡ length l.fn.edges)
    × Edges l.text l.m l.at l.k l.n l.edges (sets l.fn.edges 0 (edge_spots l.from (edges_read (read_text l.text))))
