use Rattle.std.proofs.Common.{rules}
use Rattle.lists.specs.Laws.Edges.{put_is_from}
use Rattle.lists.proofs.edges.put_edge.Goals as goal

pub returns : goal.returns
returns c = put_is_from _ _ _ _ _ _ _ c.from.ensures c.from-2.ensures c.kind_of-k.ensures c.number_of-n.ensures
