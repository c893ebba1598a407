use Rattle.std.proofs.Common.{rules}
use Rattle.texts.specs.MarkBits.{marks_in}
use Rattle.explanation.specs.Turned.{WalkTurned, run_full, run_on}
use Rattle.explanation.proofs.turns.run_turn.Goals as goal

pub returns-in-Some : goal.returns-in-Some
unfolding marks_in WalkTurned
returns-in-Some c = λ seen. search (rules, run_on, c.in-Some.ensures)

pub returns-in-None : goal.returns-in-None
unfolding marks_in WalkTurned
returns-in-None c = λ seen. search (rules, run_full, c.in-None.ensures)
