use borrow.Author.Rules.{rules}
use Rattle.texts.specs.Fours.{step_byte, byte_enough, step_fewer}
use Rattle.texts.proofs.pieces.step.Goals as goal

pub returns-then-b-lt256 : goal.returns-then-b-lt256
returns-then-b-lt256 c = search (rules, step_byte, byte_enough, step_fewer)

pub returns : goal.returns
returns c = search (rules, step_byte, byte_enough, step_fewer)
