use Rattle.std.proofs.Common.{rules}
use Rattle.index.specs.Index.{blank_fresh}
use Rattle.graph.specs.Checked.{checks_stored}
use Rattle.charts.specs.Laws.Edges.{bytes_refused, bytes_refused_list, bytes_whole, bytes_whole_list}
use Rattle.charts.proofs.edges.edges_of.Goals as goal

pub check_file-requires-clause-blank : goal.check_file-requires-clause-blank
check_file-requires-clause-blank c = search (rules, blank_fresh)

pub edges_whole-requires : goal.edges_whole-requires
edges_whole-requires c = search (rules, checks_stored)

pub returns-in-Err-clause-value : goal.returns-in-Err-clause-value
returns-in-Err-clause-value c = search (rules, bytes_refused)

pub returns-in-Err-clause-list_after : goal.returns-in-Err-clause-list_after
returns-in-Err-clause-list_after c = search (rules, bytes_refused_list)

pub returns-in-Ok-clause-value : goal.returns-in-Ok-clause-value
returns-in-Ok-clause-value c = search (rules, bytes_whole)

pub returns-in-Ok-clause-list_after : goal.returns-in-Ok-clause-list_after
returns-in-Ok-clause-list_after c = search (rules, bytes_whole_list)
