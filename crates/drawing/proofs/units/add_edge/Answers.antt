use Rattle.drawing.specs.Walk.{stroke_at_lem}
use Rattle.drawing.proofs.units.add_edge.Goals as goal

pub returns : goal.returns
returns c = search stroke_at_lem
