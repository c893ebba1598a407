use Rattle.std.proofs.Common.{rules}
use Rattle.index.specs.Index.{blank_fresh}
use Rattle.graph.specs.Laws.Files.{makes_loaded, makes_chains, makes_graph}
use Rattle.calls.specs.Laws.Says.{says_refused}
use Rattle.calls.proofs.explains.explain_of.Goals as goal

pub of_file-requires-clause-blank : goal.of_file-requires-clause-blank
of_file-requires-clause-blank c = search (rules, blank_fresh)

pub explain_whole-requires-clause-loaded : goal.explain_whole-requires-clause-loaded
explain_whole-requires-clause-loaded c = search (rules, makes_loaded)

pub explain_whole-requires-clause-chains : goal.explain_whole-requires-clause-chains
explain_whole-requires-clause-chains c = search (rules, makes_chains)

pub explain_whole-requires-clause-file_value : goal.explain_whole-requires-clause-file_value
explain_whole-requires-clause-file_value c = search (rules, makes_graph)

pub returns-in-Err : goal.returns-in-Err
returns-in-Err c = search (rules, says_refused)
