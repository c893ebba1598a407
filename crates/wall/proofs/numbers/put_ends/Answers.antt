use Rattle.std.proofs.Common.{rules}
use Rattle.texts.specs.Laws.Wrote.{behind}
use Rattle.wall.proofs.numbers.put_ends.Goals as goal

pub returns-clause-wrote : goal.returns-clause-wrote
returns-clause-wrote c = search (rules, behind)
