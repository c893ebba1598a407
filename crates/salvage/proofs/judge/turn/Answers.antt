use Rattle.std.proofs.Common.{rules}
use Rattle.salvage.specs.Laws.Pass.{turn_stays, turn_replaced, turn_stops, marks_by_lem, list_by_lem}
use Rattle.salvage.proofs.judge.turn.Goals as goal

pub returns-in-Err-clause-value : goal.returns-in-Err-clause-value
returns-in-Err-clause-value c = search (rules, turn_stops)

pub returns-in-Err-clause-m_after : goal.returns-in-Err-clause-m_after
returns-in-Err-clause-m_after c = search (rules, marks_by_lem)

pub returns-in-Err-clause-list_after : goal.returns-in-Err-clause-list_after
returns-in-Err-clause-list_after c = search (rules, list_by_lem)

pub returns-in-Ok-Stays-clause-value : goal.returns-in-Ok-Stays-clause-value
returns-in-Ok-Stays-clause-value c = search (rules, turn_stays)

pub returns-in-Ok-Stays-clause-m_after : goal.returns-in-Ok-Stays-clause-m_after
returns-in-Ok-Stays-clause-m_after c = search (rules, marks_by_lem)

pub returns-in-Ok-Stays-clause-list_after : goal.returns-in-Ok-Stays-clause-list_after
returns-in-Ok-Stays-clause-list_after c = search (rules, list_by_lem)

pub returns-in-Ok-Replaced-clause-value : goal.returns-in-Ok-Replaced-clause-value
returns-in-Ok-Replaced-clause-value c = search (rules, turn_replaced)

pub returns-in-Ok-Replaced-clause-m_after : goal.returns-in-Ok-Replaced-clause-m_after
returns-in-Ok-Replaced-clause-m_after c = search (rules, marks_by_lem)

pub returns-in-Ok-Replaced-clause-list_after : goal.returns-in-Ok-Replaced-clause-list_after
returns-in-Ok-Replaced-clause-list_after c = search (rules, list_by_lem)
