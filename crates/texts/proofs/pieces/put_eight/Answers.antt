use borrow.Author.Rules.{rules}
use Rattle.texts.proofs.Eight.{le_bytes}
use Rattle.texts.proofs.pieces.put_eight.Goals as goal

pub returns-clause-wrote : goal.returns-clause-wrote
returns-clause-wrote c = rw (← le_bytes c.args.w) (search rules)
