use Rattle.std.proofs.Common.{rules}
use Rattle.index.specs.Index.{blank_fresh}
use Rattle.graph.specs.Laws.Files.{makes_graph}
use Rattle.lists.specs.Laws.Ways.{file_denied, file_listed}
use Rattle.lists.proofs.asked.ask_words.Goals as goal

pub of_file-requires-clause-blank : goal.of_file-requires-clause-blank
of_file-requires-clause-blank c = search (rules, blank_fresh)

pub ask_drawn-requires-clause-file_value : goal.ask_drawn-requires-clause-file_value
ask_drawn-requires-clause-file_value c = search (rules, makes_graph)

pub returns-in-Err : goal.returns-in-Err
returns-in-Err c = search file_denied

pub returns-in-Ok : goal.returns-in-Ok
returns-in-Ok c = search file_listed
