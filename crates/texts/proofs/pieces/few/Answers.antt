use borrow.Author.Rules.{rules}
use Rattle.texts.specs.Fours.{step_one, step_few, step_four, step_two}
use Rattle.texts.proofs.pieces.few.Goals as goal

pub returns-then-k-lt2 : goal.returns-then-k-lt2
returns-then-k-lt2 c = search (rules, step_one, step_few, step_four, step_two)

pub returns-then-k-lt4 : goal.returns-then-k-lt4
returns-then-k-lt4 c = search (rules, step_one, step_few, step_four, step_two)

pub returns-then-c-lt16 : goal.returns-then-c-lt16
returns-then-c-lt16 c = search (rules, step_one, step_few, step_four, step_two)

pub returns : goal.returns
returns c = search (rules, step_one, step_few, step_four, step_two)
