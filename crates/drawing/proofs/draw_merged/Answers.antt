use Rattle.drawing.specs.Same.{merged_ready, merged_answer, merged_room}
use Rattle.drawing.proofs.draw_merged.Goals as goal

pub draw_marked-requires-clause-ready : goal.draw_marked-requires-clause-ready
draw_marked-requires-clause-ready c = search merged_ready

pub returns-clause-value : goal.returns-clause-value
returns-clause-value c = search merged_answer

pub returns-clause-out_after : goal.returns-clause-out_after
returns-clause-out_after c = search merged_room
