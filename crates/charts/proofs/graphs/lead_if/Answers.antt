use Rattle.std.proofs.Common.{rules}
use Rattle.charts.specs.Laws.Draws.{draws_given, draws_plain}
use Rattle.charts.proofs.graphs.lead_if.Goals as goal

pub returns-then-simplify : goal.returns-then-simplify
returns-then-simplify c = search (rules, draws_given)

pub returns : goal.returns
returns c = search (rules, draws_plain)
