use Rattle.std.proofs.Common.{rules}
use Rattle.explanation.specs.Stand.{enter_open, enter_shut}
use Rattle.explanation.proofs.frames.enter.Goals as goal

pub returns-then-not-opens : goal.returns-then-not-opens
returns-then-not-opens c = λ k. search (rules, enter_shut)

pub returns : goal.returns
returns c = λ k. search (rules, enter_open)
