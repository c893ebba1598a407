use borrow.Author.Rules.{rules}
use Rattle.texts.specs.Fours.{evened_odd, evened_even}
use Rattle.texts.proofs.pieces.evened.Goals as goal

pub returns-then-i-eq1 : goal.returns-then-i-eq1
returns-then-i-eq1 c = search (rules, evened_odd, evened_even)

pub returns : goal.returns
returns c = search (rules, evened_odd, evened_even)
