use borrow.Author.Rules.{rules}
use Rattle.texts.specs.Laws.Wrote.{behind}
use Rattle.texts.specs.Small.{pair_wrote}
use Rattle.texts.proofs.pieces.put_pair.Goals as goal

pub returns : goal.returns
returns c = search (rules, behind, pair_wrote)
