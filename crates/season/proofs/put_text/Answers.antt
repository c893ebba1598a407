use borrow.Author.Rules.{rules}
use Rattle.season.specs.Laws.Share.{text_via}
use Rattle.season.proofs.put_text.Goals as goal

pub returns : goal.returns
returns c = search (rules, text_via)
