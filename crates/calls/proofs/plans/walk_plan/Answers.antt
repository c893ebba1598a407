use Rattle.std.proofs.Common.{rules}
use Rattle.calls.specs.Laws.Says.{walked}
use Rattle.calls.proofs.plans.walk_plan.Goals as goal

pub returns : goal.returns
returns c = search (rules, walked)
