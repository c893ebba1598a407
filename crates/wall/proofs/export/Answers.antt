use Rattle.wall.specs.Laws.Walk.{export_answer, export_room}
use Rattle.wall.proofs.export.Goals as goal

pub returns-clause-value : goal.returns-clause-value
returns-clause-value c = rw c.answer_of.ensures (export_answer _ _ _ _ _ c.export_from.ensures)

pub returns-clause-out_after : goal.returns-clause-out_after
returns-clause-out_after c = export_room _ _ _ _ _ c.export_from.ensures
