use borrow.Author.Rules.{rules}
use Rattle.texts.specs.Small.{pair_yes_yes, pair_yes_no, pair_no_yes, pair_no_no}
use Rattle.texts.proofs.pieces.pair_word.Goals as goal

pub returns-then-b : goal.returns-then-b
returns-then-b c = search (rules, pair_yes_yes, pair_yes_no, pair_no_yes, pair_no_no)

pub returns-then-a : goal.returns-then-a
returns-then-a c = search (rules, pair_yes_yes, pair_yes_no, pair_no_yes, pair_no_no)

pub returns-then-b-2 : goal.returns-then-b-2
returns-then-b-2 c = search (rules, pair_yes_yes, pair_yes_no, pair_no_yes, pair_no_no)

pub returns : goal.returns
returns c = search (rules, pair_yes_yes, pair_yes_no, pair_no_yes, pair_no_no)
