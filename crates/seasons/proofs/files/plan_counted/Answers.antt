use Rattle.std.proofs.Common.{rules}
use Rattle.seasons.specs.Laws.SeasonWays.{counted_as}
use Rattle.seasons.proofs.files.plan_counted.Goals as goal

pub returns : goal.returns
returns c = search (rules, counted_as)
