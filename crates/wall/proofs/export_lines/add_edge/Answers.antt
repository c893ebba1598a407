use Rattle.wall.specs.Laws.Writing.{edge_at}
use Rattle.wall.proofs.export_lines.add_edge.Goals as goal

pub returns : goal.returns
returns c = search edge_at
