use Rattle.std.proofs.Common.{rules}
use Rattle.explanation.specs.Judge.{flags_fresh}
use Rattle.explanation.proofs.walk.explain_plan.Goals as goal

pub walk_plan-requires-clause-flags : goal.walk_plan-requires-clause-flags
walk_plan-requires-clause-flags c = search (rules, flags_fresh)
