use Rattle.remade.specs.Later.{at_held, at_changed, at_wrote, at_no_later}
use Rattle.remade.proofs.later.from_ten.Goals as goal

pub returns-in-0 : goal.returns-in-0
returns-in-0 c = search at_held

pub returns-in-1 : goal.returns-in-1
returns-in-1 c = search at_changed

pub returns-in-2 : goal.returns-in-2
returns-in-2 c = search at_wrote

pub returns-in_default : goal.returns-in_default
returns-in_default c = search at_no_later
