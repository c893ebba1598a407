use Rattle.std.proofs.Common.{rules}
use Rattle.again.specs.Sum.{entry_mixed}
use Rattle.again.proofs.sums.NodeEntryDigits.behind.Goals as goal

pub returns : goal.returns
returns c = (search entry_mixed, search rules)
