use borrow.Author.Rules.{rules}
use Rattle.texts.specs.Shown.{above_start, above_more, above_end, room_for}
use Rattle.texts.proofs.pieces.put_above.Goals as goal

pub loop-i-init : goal.loop-i-init
loop-i-init c = search (rules, above_start)

pub put_step-at-requires-clause-b_in_bounds : goal.put_step-at-requires-clause-b_in_bounds
put_step-at-requires-clause-b_in_bounds c = search (rules, room_for)

pub loop-i-preserved : goal.loop-i-preserved
loop-i-preserved c = search (rules, above_more)

pub returns : goal.returns
returns c = search (rules, above_end)
