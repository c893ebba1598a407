use borrow.Author.Rules.{rules}
use Rattle.texts.specs.Small.{laid_one}
use Rattle.texts.proofs.pieces.put_one.Goals as goal

pub returns-clause-bytes_laid : goal.returns-clause-bytes_laid
returns-clause-bytes_laid c = search (rules, laid_one)
