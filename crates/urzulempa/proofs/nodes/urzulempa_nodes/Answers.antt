use Rattle.calls.specs.Laws.Nodes.{count_fits, exported}
use Rattle.urzulempa.proofs.nodes.urzulempa_nodes.Goals as goal

pub fill-requires : goal.fill-requires
fill-requires c = count_fits _ _ _ _ c.node_words-c.ensures

pub returns : goal.returns
returns c = rw c.from.ensures (exported _ _ _ _ _ c.node_words-c.ensures c.fill.ensures)
