use Rattle.std.proofs.Common.{rules}
use Rattle.texts.specs.Laws.Wrote.{behind}
use Rattle.wall.specs.Laws.Writing.{node_wrote}
use Rattle.wall.proofs.export_lines.put_node.Goals as goal

pub returns : goal.returns
returns c = search (rules, behind, node_wrote)
