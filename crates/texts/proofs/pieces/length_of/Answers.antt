use borrow.Author.Rules.{rules}
use Rattle.texts.specs.Length.{length_none, length_less, length_some, length_most}
use Rattle.texts.proofs.pieces.length_of.Goals as goal

pub returns-then-count-from : goal.returns-then-count-from
returns-then-count-from c = search (rules, length_none, length_less, length_some, length_most)

pub overflow_sub-result-2 : goal.overflow_sub-result-2
overflow_sub-result-2 c = search (rules, length_less)

pub returns : goal.returns
returns c = search (rules, length_some, length_most)
