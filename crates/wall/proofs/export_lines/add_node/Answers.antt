use Rattle.wall.specs.Laws.Writing.{node_at}
use Rattle.wall.proofs.export_lines.add_node.Goals as goal

pub returns : goal.returns
returns c = search node_at
