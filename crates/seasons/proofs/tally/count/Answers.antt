use Rattle.std.proofs.Common.{rules}
use Rattle.seasons.specs.Laws.TallyWays.{counts_via}
use Rattle.seasons.proofs.Ranges.{passed}
use Rattle.seasons.proofs.tally.count.Goals as goal

pub returns : goal.returns
returns c = search (rules, counts_via, passed)
