-- The laws of each way out.
use Rattle.std.proofs.Common.{rules}
use Rattle.links.specs.Sweep.{swept_is}
use Rattle.links.proofs.reach.swept.Goals as goal

pub returns : goal.returns
returns c = search (rules, swept_is)
