use Rattle.std.proofs.Common.{rules}
use Rattle.calls.specs.Laws.Says.{whole_graphed, whole_says}
use Rattle.calls.proofs.explains.explain_whole.Goals as goal

pub explain_marked-requires-clause-graphed : goal.explain_marked-requires-clause-graphed
explain_marked-requires-clause-graphed c = search (rules, whole_graphed)

pub returns : goal.returns
returns c = search (rules, whole_says)
