use Rattle.std.proofs.Common.{rules}
use Rattle.display.specs.Laws.Quoted.{mark_size, plain_size}
use Rattle.display.proofs.quotes.width.Goals as goal

pub returns-then-c-eq34 : goal.returns-then-c-eq34
returns-then-c-eq34 c = search (rules, mark_size, plain_size)

pub returns-else-c-eq34 : goal.returns-else-c-eq34
returns-else-c-eq34 c = search (rules, mark_size, plain_size)
