use Rattle.std.proofs.Common.{rules}
use Rattle.explanation.specs.Turned.{WalkTurned, kid_skip, kid_repeat, kid_show}
use Rattle.explanation.proofs.turns.kid_turn.Goals as goal

pub returns-in-Skip : goal.returns-in-Skip
unfolding WalkTurned
returns-in-Skip c = search (rules, kid_skip, c.requires)

pub returns-in-Repeat : goal.returns-in-Repeat
unfolding WalkTurned
returns-in-Repeat c = search (rules, kid_repeat)

pub returns-in-Show : goal.returns-in-Show
unfolding WalkTurned
returns-in-Show c = search (rules, kid_show, c.requires)
