-- The laws of each way out.
use Rattle.std.proofs.Common.{rules}
use Rattle.store.specs.Laws.Behind.{pushes_edge}
use Rattle.store.proofs.behind.push_edge.Goals as goal

pub returns : goal.returns
returns c = search (rules, pushes_edge)
