-- The calls, one behind the other.
use Rattle.std.proofs.Common.{rules}
use Rattle.links.specs.Build.{outs_via}
use Rattle.links.proofs.chain_out.Goals as goal

pub returns : goal.returns
returns c = search (rules, outs_via)
