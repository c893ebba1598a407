use Rattle.std.proofs.Common.{rules}
use Rattle.calls.specs.Laws.Says.{labelled, made_long}
use Rattle.calls.specs.Plans.{plan_from}
use Rattle.calls.proofs.plans.plan_of.Goals as goal

pub build_plan-requires-clause-labelled : goal.build_plan-requires-clause-labelled
build_plan-requires-clause-labelled c = search (rules, labelled)

pub returns-clause-p_len : goal.returns-clause-p_len
returns-clause-p_len c = search (rules, made_long)

pub returns-clause-plan_from : goal.returns-clause-plan_from
returns-clause-plan_from c = search (rules, plan_from)
