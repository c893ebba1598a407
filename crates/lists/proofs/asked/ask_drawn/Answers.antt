use Rattle.std.proofs.Common.{rules}
use Rattle.whatif.specs.Laws.Callers.{asks_chains, asks_marks}
use Rattle.lists.specs.Laws.Ways.{question_denied, question_listed}
use Rattle.lists.proofs.asked.ask_drawn.Goals as goal

pub list_marked-requires-clause-chains : goal.list_marked-requires-clause-chains
list_marked-requires-clause-chains c = search (rules, asks_chains)

pub list_marked-requires-clause-marks_value : goal.list_marked-requires-clause-marks_value
list_marked-requires-clause-marks_value c = search (rules, asks_marks)

pub returns-in-Err : goal.returns-in-Err
returns-in-Err c = search question_denied

pub returns-in-Ok : goal.returns-in-Ok
returns-in-Ok c = search question_listed
