use Rattle.whatif.specs.Laws.Again.{is_touched, turned_yes, turned_no}
use Rattle.whatif.proofs.relabel.turn_to.Goals as goal

pub store_up-requires-clause-n_value : goal.store_up-requires-clause-n_value
store_up-requires-clause-n_value c = search is_touched

pub returns-then-is_touched : goal.returns-then-is_touched
returns-then-is_touched c = search turned_yes

pub returns-else-is_touched : goal.returns-else-is_touched
returns-else-is_touched c = search turned_no
