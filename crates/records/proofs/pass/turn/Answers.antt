use Rattle.records.specs.Pass.{turn_no, turn_on, marks_no, marks_on}
use Rattle.records.proofs.pass.turn.Goals as goal

pub returns-in-Err-clause-value : goal.returns-in-Err-clause-value
returns-in-Err-clause-value c = search turn_no

pub returns-in-Err-clause-m_after : goal.returns-in-Err-clause-m_after
returns-in-Err-clause-m_after c = search marks_no

pub returns-in-Ok-clause-value : goal.returns-in-Ok-clause-value
returns-in-Ok-clause-value c = search turn_on

pub returns-in-Ok-clause-m_after : goal.returns-in-Ok-clause-m_after
returns-in-Ok-clause-m_after c = search marks_on
