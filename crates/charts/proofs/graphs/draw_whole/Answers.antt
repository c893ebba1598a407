use Rattle.std.proofs.Common.{rules}
use Rattle.charts.specs.Laws.Draws.{draws_answer}
use Rattle.charts.proofs.graphs.draw_whole.Goals as goal

pub returns-clause-value : goal.returns-clause-value
returns-clause-value c = search (rules, draws_answer)
