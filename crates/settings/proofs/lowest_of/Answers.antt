use Rattle.settings.specs.Settings.{lowest}
use Rattle.settings.specs.Laws.Ways.{lows}
use Rattle.settings.proofs.Found.{found_some, found_none}
use Rattle.settings.proofs.lowest_of.Goals as goal

pub returns-then-in_row : goal.returns-then-in_row
unfolding lowest
returns-then-in_row c = found_some 0 _ (search lows)

pub returns-then-in_row-2 : goal.returns-then-in_row-2
unfolding lowest
returns-then-in_row-2 c = found_some 0 _ (search lows)

pub returns-then-in_row-3 : goal.returns-then-in_row-3
unfolding lowest
returns-then-in_row-3 c = found_some 1 _ (search lows)

pub returns : goal.returns
unfolding lowest
returns c = found_none _ (search lows)
