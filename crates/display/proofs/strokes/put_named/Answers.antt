use Rattle.std.proofs.Common.{rules}
use Rattle.texts.specs.Laws.Wrote.{behind}
use Rattle.display.proofs.strokes.put_named.Goals as goal

pub returns : goal.returns
returns c = search (rules, behind)
