use Rattle.std.proofs.Common.{rules}
use Rattle.planning.specs.Assembly.{fresh_plan}
use Rattle.calls.specs.Laws.Says.{whole_ready, whole_shows}
use Rattle.calls.proofs.explains.explain_marked.Goals as goal

pub plan_as-requires-clause-fresh_plan : goal.plan_as-requires-clause-fresh_plan
plan_as-requires-clause-fresh_plan c = search (rules, fresh_plan)

pub walk_plan-requires-clause-ready : goal.walk_plan-requires-clause-ready
walk_plan-requires-clause-ready c = search (rules, whole_ready)

pub returns : goal.returns
returns c = search (rules, whole_shows)
