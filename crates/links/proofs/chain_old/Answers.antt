-- The calls, one behind the other.
use Rattle.std.proofs.Common.{rules}
use Rattle.links.specs.Build.{olds_via}
use Rattle.links.proofs.chain_old.Goals as goal

pub returns : goal.returns
returns c = search (rules, olds_via)
