use Rattle.std.proofs.Common.{rules}
use Rattle.lines.specs.RunLaws.{sizes}
use Rattle.lines.proofs.run.words_size.Goals as goal

pub returns-in-0-true : goal.returns-in-0-true
returns-in-0-true c = search (rules, sizes)

pub returns-in-0-false : goal.returns-in-0-false
returns-in-0-false c = search (rules, sizes)

pub returns-in-1-true : goal.returns-in-1-true
returns-in-1-true c = search (rules, sizes)

pub returns-in-1-false : goal.returns-in-1-false
returns-in-1-false c = search (rules, sizes)

pub returns-in_default-true : goal.returns-in_default-true
returns-in_default-true c = search (rules, sizes)

pub returns-in_default-false : goal.returns-in_default-false
returns-in_default-false c = search (rules, sizes)
