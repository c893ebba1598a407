use Rattle.std.proofs.Common.{rules}
use Rattle.seasons.specs.Laws.TallyWays.{lacks_is}
use Rattle.seasons.proofs.tally.lacks.Goals as goal

pub returns : goal.returns
returns c = search (rules, lacks_is)
