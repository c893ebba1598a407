-- The laws of each way out.
use Rattle.std.proofs.Common.{rules}
use Rattle.store.specs.Laws.Behind.{pushes_node}
use Rattle.store.proofs.behind.push_node.Goals as goal

pub returns : goal.returns
returns c = let e = rw c.from-c.ensures at c.enter.ensures in search (rules, pushes_node, e)
