use Rattle.std.proofs.Common.{rules}
use Rattle.seasons.specs.Laws.SeasonWays.{entered_zeroth, entered_later, entered_option}
use Rattle.seasons.proofs.files.season_of.Goals as goal

pub returns-then-edition-eq0 : goal.returns-then-edition-eq0
returns-then-edition-eq0 c = search (rules, entered_zeroth)

pub returns-then-edition-gt2 : goal.returns-then-edition-gt2
returns-then-edition-gt2 c = search (rules, entered_later)

pub returns-then-option-gt1 : goal.returns-then-option-gt1
returns-then-option-gt1 c = search (rules, entered_option)
