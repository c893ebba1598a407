use Rattle.tgf.specs.Steps.{edges_seen}
use Rattle.tgf.specs.Laws.Counting.{EdgesLeft}
use Rattle.tgf.proofs.count.count_edges.Given as goal

-- k edges were read, and what is left says what the whole says
abbrev pub invariant-loop-k : goal.invariant-loop-k
invariant-loop-k l = EdgesLeft l.text l.m l.at l.k (edges_seen l.text l.from l.m)
