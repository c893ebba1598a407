use Rattle.std.proofs.Common.{rules}
use Rattle.explanation.specs.Turned.{WalkTurned, pop_on, pop_done}
use Rattle.explanation.proofs.turns.turn.Goals as goal

pub returns-then-t-gt0 : goal.returns-then-t-gt0
unfolding WalkTurned
returns-then-t-gt0 c = search (rules, pop_on, c.requires)

pub returns : goal.returns
unfolding WalkTurned
returns c = search (rules, pop_done)
