use borrow.Author.Rules.{rules}
use Rattle.texts.specs.MarkBits.{digit, bit}
use Rattle.texts.proofs.marks.mark.Goals as goal

pub returns : goal.returns
unfolding bit digit
returns c = search rules
