use Rattle.drawing.specs.Walk.{step_plain, step_plain_marks, step_marks, step_met, step_new}
use Rattle.drawing.proofs.walk.step.Goals as goal

pub returns-then-k-eq0-clause-adds : goal.returns-then-k-eq0-clause-adds
returns-then-k-eq0-clause-adds c = search step_plain

pub returns-then-k-eq0-clause-w_after : goal.returns-then-k-eq0-clause-w_after
returns-then-k-eq0-clause-w_after c = search step_plain_marks

pub returns-then-old-clause-adds : goal.returns-then-old-clause-adds
returns-then-old-clause-adds c = search step_met

pub returns-then-old-clause-w_after : goal.returns-then-old-clause-w_after
returns-then-old-clause-w_after c = search step_marks

pub returns-clause-adds : goal.returns-clause-adds
returns-clause-adds c = search step_new

pub returns-clause-w_after : goal.returns-clause-w_after
returns-clause-w_after c = search step_marks
