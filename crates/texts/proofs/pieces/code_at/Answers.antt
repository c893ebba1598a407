use borrow.Author.Rules.{rules}
use Rattle.texts.specs.Fours.{code_few, code_edge, code_four}
use Rattle.texts.proofs.pieces.code_at.Goals as goal

pub returns-then-k-lt4 : goal.returns-then-k-lt4
returns-then-k-lt4 c = search (rules, code_few, code_edge, code_four)

pub returns-then-i-gt60 : goal.returns-then-i-gt60
returns-then-i-gt60 c = search (rules, code_few, code_edge, code_four)

pub returns : goal.returns
returns c = search (rules, code_few, code_edge, code_four)
