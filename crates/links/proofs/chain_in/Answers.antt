-- The calls, one behind the other.
use Rattle.std.proofs.Common.{rules}
use Rattle.links.specs.Build.{intos_via}
use Rattle.links.proofs.chain_in.Goals as goal

pub returns : goal.returns
returns c = search (rules, intos_via)
