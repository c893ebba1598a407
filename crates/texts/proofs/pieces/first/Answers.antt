use borrow.Author.Rules.{rules}
use Rattle.texts.specs.Small.{first_yes, first_no}
use Rattle.texts.proofs.pieces.first.Goals as goal

pub returns-then-top : goal.returns-then-top
returns-then-top c = search (rules, first_yes, first_no)

pub returns-else-top : goal.returns-else-top
returns-else-top c = search (rules, first_yes, first_no)
