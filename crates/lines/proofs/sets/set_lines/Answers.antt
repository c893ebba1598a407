use Rattle.std.proofs.Common.{rules, arith}
use Rattle.lines.specs.SetLaws.{sets_full, sets_next, sets_end_lem}
use Rattle.lines.proofs.sets.set_lines.Goals as goal

pub returns-in_default-clause-lined : goal.returns-in_default-clause-lined
returns-in_default-clause-lined c = search (rules, sets_full, c.in_default.ensures)

pub loop-i-preserved : goal.loop-i-preserved
loop-i-preserved c = record { within = search rules; fewer = omega (arith, c.in-Some.ensures); done = search (rules, sets_next, c.in-Some.ensures) }

pub returns-clause-lined : goal.returns-clause-lined
returns-clause-lined c = search (rules, sets_end_lem)
