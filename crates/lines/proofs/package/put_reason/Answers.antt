use Rattle.std.proofs.Common.{rules}
use Rattle.texts.specs.Laws.Wrote.{behind}
use Rattle.lines.proofs.package.put_reason.Goals as goal

pub returns : goal.returns
returns c = search (rules, behind)
