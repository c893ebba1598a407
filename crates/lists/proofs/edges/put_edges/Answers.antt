use Rattle.std.proofs.Common.{rules}
use Rattle.lists.specs.Laws.Edges.{puts, put_room}
use Rattle.lists.proofs.edges.put_edges.Goals as goal

pub loop-i-init : goal.loop-i-init
loop-i-init c = search (rules, puts)

pub put_edge-requires : goal.put_edge-requires
put_edge-requires c = search (rules, put_room)

pub loop-i-preserved : goal.loop-i-preserved
loop-i-preserved c = search (rules, puts)

pub returns : goal.returns
returns c = search (rules, puts)
