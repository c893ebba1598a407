use Rattle.std.proofs.Common.{rules}
use Rattle.charts.specs.Laws.Edges.{short_answer, short_list, whole_answer, whole_list}
use Rattle.charts.proofs.edges.edges_whole.Goals as goal

pub returns-then-list-m-clause-value : goal.returns-then-list-m-clause-value
returns-then-list-m-clause-value c = search (rules, short_answer)

pub returns-then-list-m-clause-list_after : goal.returns-then-list-m-clause-list_after
returns-then-list-m-clause-list_after c = search (rules, short_list)

pub returns-clause-value : goal.returns-clause-value
returns-clause-value c = search (rules, whole_answer)

pub returns-clause-list_after : goal.returns-clause-list_after
returns-clause-list_after c = search (rules, whole_list)
