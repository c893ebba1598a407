use borrow.Author.Rules.{rules}
use Rattle.texts.specs.Small.{width_yes, width_no}
use Rattle.texts.proofs.pieces.width.Goals as goal

pub returns-then-last : goal.returns-then-last
returns-then-last c = search (rules, width_yes, width_no)

pub returns-else-last : goal.returns-else-last
returns-else-last c = search (rules, width_yes, width_no)
