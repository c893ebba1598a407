use Rattle.drawing.specs.Fits.{drawn_answer, drawn_room}
use Rattle.drawing.proofs.draw_in.Goals as goal

pub returns-clause-value : goal.returns-clause-value
returns-clause-value c = rw c.answer_of.ensures (search drawn_answer)

pub returns-clause-out_after : goal.returns-clause-out_after
returns-clause-out_after c = search drawn_room
