use Rattle.std.proofs.Common.{rules}
use Rattle.texts.specs.Laws.Wrote.{behind}
use Rattle.lines.proofs.run.put_run.Goals as goal

pub returns : goal.returns
returns c = search (rules, behind)
