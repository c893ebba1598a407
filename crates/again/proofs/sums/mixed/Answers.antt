use Rattle.std.proofs.Common.{rules}
use Rattle.again.specs.Sum.{mix}
use Rattle.again.proofs.sums.mixed.Goals as goal

pub returns : goal.returns
unfolding mix
returns c = (search rules, search rules)
