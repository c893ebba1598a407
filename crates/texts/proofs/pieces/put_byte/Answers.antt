use borrow.Author.Rules.{rules}
use Rattle.texts.specs.Fours.{byte_first, byte_second, byte_near}
use Rattle.texts.proofs.pieces.put_byte.Goals as goal

pub put_four-a-requires-clause-c_in_bounds : goal.put_four-a-requires-clause-c_in_bounds
put_four-a-requires-clause-c_in_bounds c = search (rules, byte_first)

pub put_four-requires-clause-c_in_bounds : goal.put_four-requires-clause-c_in_bounds
put_four-requires-clause-c_in_bounds c = search (rules, byte_first, byte_second, byte_near)

pub returns-clause-near : goal.returns-clause-near
returns-clause-near c = search (rules, byte_near)
