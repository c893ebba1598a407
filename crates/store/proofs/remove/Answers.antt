-- The laws of each way out.
use Rattle.std.proofs.Common.{rules}
use Rattle.store.specs.Settling.{removed_is}
use Rattle.store.proofs.remove.Goals as goal

pub returns : goal.returns
returns c = search (rules, removed_is)
