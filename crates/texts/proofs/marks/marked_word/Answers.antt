use borrow.Author.Rules.{rules}
use Rattle.texts.specs.MarkBits.{marked_yes, marked_no}
use Rattle.texts.proofs.marks.marked_word.Goals as goal

pub returns-then-last : goal.returns-then-last
returns-then-last c = search (rules, marked_yes)

pub returns : goal.returns
returns c = search (rules, marked_no)
