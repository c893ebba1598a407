-- The triple of the partner that a clause tells.
use Rattle.std.proofs.Common.{rules}
use Rattle.expansion.specs.Pairing.{pair_told}
use Rattle.expansion.proofs.pair_at.Goals as goal

pub returns : goal.returns
returns c = search (rules, pair_told)
