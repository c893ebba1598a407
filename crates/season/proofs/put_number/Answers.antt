use borrow.Author.Rules.{rules}
use Rattle.season.specs.Laws.Share.{number_past, number_put_lem}
use Rattle.season.proofs.put_number.Goals as goal

pub returns-then-k-gt18 : goal.returns-then-k-gt18
returns-then-k-gt18 c = search (rules, number_past, number_put_lem)

pub returns : goal.returns
returns c = search (rules, number_past, number_put_lem)
