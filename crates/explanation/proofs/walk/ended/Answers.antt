use Rattle.std.proofs.Common.{rules}
use Rattle.explanation.specs.Ends.{told_done, told_loops, told_full}
use Rattle.explanation.proofs.walk.ended.Goals as goal

pub returns-in-Done : goal.returns-in-Done
returns-in-Done c = search (rules, told_done)

pub returns-in-Loops : goal.returns-in-Loops
returns-in-Loops c = search (rules, told_loops)

pub returns-in-Full : goal.returns-in-Full
returns-in-Full c = search (rules, told_full)
