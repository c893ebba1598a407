-- The laws of each way out.
use Rattle.std.proofs.Common.{rules}
use Rattle.store.specs.Starting.{starts}
use Rattle.store.proofs.start.Goals as goal

pub returns : goal.returns
returns c = search (rules, starts)
