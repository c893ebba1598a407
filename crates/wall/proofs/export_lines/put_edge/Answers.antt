use Rattle.std.proofs.Common.{rules}
use Rattle.texts.specs.Laws.Wrote.{behind}
use Rattle.wall.specs.Laws.Writing.{edge_wrote}
use Rattle.wall.proofs.export_lines.put_edge.Goals as goal

pub returns : goal.returns
returns c = search (rules, behind, edge_wrote)
