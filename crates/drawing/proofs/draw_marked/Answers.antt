use Rattle.drawing.specs.Stamps.{stamped_fresh}
use Rattle.drawing.proofs.draw_marked.Goals as goal

pub draw_in-requires-clause-stamped : goal.draw_in-requires-clause-stamped
draw_in-requires-clause-stamped c = search stamped_fresh
