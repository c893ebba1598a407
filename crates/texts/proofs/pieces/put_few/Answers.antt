use borrow.Author.Rules.{rules}
use Rattle.texts.specs.Fours.{one_room, few_room, two_room, four_room, one_near, few_near, two_near, four_step}
use Rattle.texts.proofs.pieces.put_few.Goals as goal

pub put_one-requires-clause-in_bounds : goal.put_one-requires-clause-in_bounds
put_one-requires-clause-in_bounds c = search (rules, one_room, few_room, two_room, four_room, one_near, few_near, two_near, four_step)

pub returns-then-k-lt2-clause-near : goal.returns-then-k-lt2-clause-near
returns-then-k-lt2-clause-near c = search (rules, one_near, few_near, two_near, four_step)

pub put_two-requires-clause-in_bounds : goal.put_two-requires-clause-in_bounds
put_two-requires-clause-in_bounds c = search (rules, one_room, few_room, two_room, four_room, one_near, few_near, two_near, four_step)

pub returns-then-k-lt4-clause-near : goal.returns-then-k-lt4-clause-near
returns-then-k-lt4-clause-near c = search (rules, one_near, few_near, two_near, four_step)

pub put_four-requires-clause-c_in_bounds : goal.put_four-requires-clause-c_in_bounds
put_four-requires-clause-c_in_bounds c = search (rules, one_room, few_room, two_room, four_room, one_near, few_near, two_near, four_step)

pub returns-then-c-lt16-clause-near : goal.returns-then-c-lt16-clause-near
returns-then-c-lt16-clause-near c = search (rules, one_near, few_near, two_near, four_step)

pub put_two-requires-2-clause-in_bounds : goal.put_two-requires-2-clause-in_bounds
put_two-requires-2-clause-in_bounds c = search (rules, one_room, few_room, two_room, four_room, one_near, few_near, two_near, four_step)

pub returns-clause-near : goal.returns-clause-near
returns-clause-near c = search (rules, one_near, few_near, two_near, four_step)
