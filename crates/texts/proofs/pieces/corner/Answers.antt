use borrow.Author.Rules.{rules}
use Rattle.texts.specs.Small.{corner_yes, corner_no}
use Rattle.texts.proofs.pieces.corner.Goals as goal

pub returns-then-last : goal.returns-then-last
returns-then-last c = search (rules, corner_yes, corner_no)

pub returns-else-last : goal.returns-else-last
returns-else-last c = search (rules, corner_yes, corner_no)
