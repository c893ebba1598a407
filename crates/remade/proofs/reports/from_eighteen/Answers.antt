use Rattle.remade.specs.Seasons.{at_season, at_joins, at_no_last}
use Rattle.remade.proofs.reports.from_eighteen.Goals as goal

pub returns-in-0 : goal.returns-in-0
returns-in-0 c = search at_season

pub returns-in-1 : goal.returns-in-1
returns-in-1 c = search at_joins

pub returns-in_default : goal.returns-in_default
returns-in_default c = search at_no_last
