use Rattle.std.proofs.Common.{rules}
use Rattle.again.specs.Sum.{word_mixed}
use Rattle.again.proofs.sums.U64Digits.behind.Goals as goal

pub returns : goal.returns
returns c = (search word_mixed, search rules)
