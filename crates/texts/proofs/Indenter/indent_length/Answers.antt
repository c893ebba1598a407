use borrow.Author.Rules.{rules}
use Rattle.texts.specs.MarkBits.{marks_in}
use Rattle.texts.proofs.Indenter.indent_length.Goals as goal

pub returns : goal.returns
unfolding marks_in
returns c = search rules
