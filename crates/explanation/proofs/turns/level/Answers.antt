use Rattle.std.proofs.Common.{rules}
use Rattle.explanation.specs.Stand.{step_kid, step_run}
use Rattle.explanation.proofs.turns.level.Goals as goal

pub returns-then-t-clause-stepped : goal.returns-then-t-clause-stepped
returns-then-t-clause-stepped c = search (rules, step_kid)

pub returns-then-t-2-clause-stepped : goal.returns-then-t-2-clause-stepped
returns-then-t-2-clause-stepped c = search (rules, step_run)
