use borrow.Author.Rules.{rules}
use Rattle.texts.specs.Fours.{eight_room, eight_step, rest_room, rest_near}
use Rattle.texts.proofs.pieces.put_step.Goals as goal

pub put_byte-requires-clause-c_in_bounds : goal.put_byte-requires-clause-c_in_bounds
put_byte-requires-clause-c_in_bounds c = search (rules, eight_room, eight_step, rest_room, rest_near)

pub returns-then-b-lt256-clause-near : goal.returns-then-b-lt256-clause-near
returns-then-b-lt256-clause-near c = search (rules, eight_step, rest_near)

pub put_few-requires-clause-c_in_bounds : goal.put_few-requires-clause-c_in_bounds
put_few-requires-clause-c_in_bounds c = search (rules, rest_room)

pub returns-clause-near : goal.returns-clause-near
returns-clause-near c = search (rules, eight_room, eight_step, rest_room, rest_near)
