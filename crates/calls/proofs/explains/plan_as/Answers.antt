use Rattle.std.proofs.Common.{rules}
use Rattle.calls.specs.Laws.Says.{planned_as}
use Rattle.calls.proofs.explains.plan_as.Goals as goal

pub returns : goal.returns
returns c = search (rules, planned_as)
