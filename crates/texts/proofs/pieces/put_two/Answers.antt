use borrow.Author.Rules.{rules}
use Rattle.texts.specs.Small.{laid_two}
use Rattle.texts.proofs.pieces.put_two.Goals as goal

pub returns-clause-bytes_laid : goal.returns-clause-bytes_laid
returns-clause-bytes_laid c = search (rules, laid_two)
