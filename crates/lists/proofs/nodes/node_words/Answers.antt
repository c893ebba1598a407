use Rattle.std.proofs.Common.{rules}
use Rattle.index.specs.Index.{blank_fresh}
use Rattle.graph.specs.Laws.Files.{makes_loaded, makes_chains}
use Rattle.lists.specs.Ways.{listed_refused, listed_drawn}
use Rattle.lists.proofs.nodes.node_words.Goals as goal

pub of_file-requires-clause-blank : goal.of_file-requires-clause-blank
of_file-requires-clause-blank c = search (rules, blank_fresh)

pub returns-in-Err : goal.returns-in-Err
returns-in-Err c = search listed_refused

pub returns-in-Ok : goal.returns-in-Ok
returns-in-Ok c = search listed_drawn
