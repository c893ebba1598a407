use Rattle.remade.specs.Latest.{at_asked, at_told_if, at_hung, at_spots, at_ends, at_no_latest}
use Rattle.remade.proofs.latest.from_thirteen.Goals as goal

pub returns-in-0 : goal.returns-in-0
returns-in-0 c = search at_asked

pub returns-in-1 : goal.returns-in-1
returns-in-1 c = search at_told_if

pub returns-in-2 : goal.returns-in-2
returns-in-2 c = search at_hung

pub returns-in-3 : goal.returns-in-3
returns-in-3 c = search at_spots

pub returns-in-4 : goal.returns-in-4
returns-in-4 c = search at_ends

pub returns-in_default : goal.returns-in_default
returns-in_default c = search at_no_latest
