use borrow.Author.Rules.{rules}
use Rattle.texts.specs.MarkBits.{marks_in}
use Rattle.texts.proofs.Indenter.get_indent.Goals as goal

pub put_indent-requires-clause-count_in_bounds : goal.put_indent-requires-clause-count_in_bounds
unfolding marks_in
put_indent-requires-clause-count_in_bounds c = search rules

pub returns : goal.returns
unfolding marks_in
returns c = search rules
