use borrow.Author.Rules.{rules}
use Rattle.texts.specs.Fours.{four_first, four_second, four_near}
use Rattle.texts.proofs.pieces.put_four.Goals as goal

pub put_code-a-requires-clause-in_bounds : goal.put_code-a-requires-clause-in_bounds
put_code-a-requires-clause-in_bounds c = search (rules, four_first, four_second, four_near)

pub put_code-requires-clause-in_bounds : goal.put_code-requires-clause-in_bounds
put_code-requires-clause-in_bounds c = search (rules, four_first, four_second, four_near)

pub returns-clause-near : goal.returns-clause-near
returns-clause-near c = search (rules, four_near)
