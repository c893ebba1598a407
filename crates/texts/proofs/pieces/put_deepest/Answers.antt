use borrow.Author.Rules.{rules}
use Rattle.texts.specs.Small.{deepest_is}
use Rattle.texts.proofs.pieces.put_deepest.Goals as goal

pub returns-clause-wrote : goal.returns-clause-wrote
returns-clause-wrote c = search (rules, deepest_is)
