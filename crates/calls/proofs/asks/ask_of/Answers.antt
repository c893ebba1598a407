use Rattle.std.proofs.Common.{rules}
use Rattle.index.specs.Index.{blank_fresh}
use Rattle.graph.specs.Laws.Files.{makes_loaded, makes_chains, makes_graph}
use Rattle.calls.specs.Laws.WhatIfWays.{what_if_unmade}
use Rattle.calls.proofs.asks.ask_of.Goals as goal

pub of_file-requires-clause-blank : goal.of_file-requires-clause-blank
of_file-requires-clause-blank c = search (rules, blank_fresh)

pub ask_whole-requires-clause-loaded : goal.ask_whole-requires-clause-loaded
ask_whole-requires-clause-loaded c = search (rules, makes_loaded)

pub ask_whole-requires-clause-chains : goal.ask_whole-requires-clause-chains
ask_whole-requires-clause-chains c = search (rules, makes_chains)

pub ask_whole-requires-clause-file_value : goal.ask_whole-requires-clause-file_value
ask_whole-requires-clause-file_value c = search (rules, makes_graph)

pub returns-in-Err : goal.returns-in-Err
returns-in-Err c = search (rules, what_if_unmade)
