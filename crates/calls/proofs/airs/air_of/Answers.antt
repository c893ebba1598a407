use Rattle.std.proofs.Common.{rules}
use Rattle.index.specs.Index.{blank_fresh}
use Rattle.graph.specs.Laws.Files.{makes_loaded, makes_chains, makes_graph}
use Rattle.calls.specs.Laws.AirWays.{air_unmade}
use Rattle.calls.proofs.airs.air_of.Goals as goal

pub of_file-requires-clause-blank : goal.of_file-requires-clause-blank
of_file-requires-clause-blank c = search (rules, blank_fresh)

pub air_whole-requires-clause-loaded : goal.air_whole-requires-clause-loaded
air_whole-requires-clause-loaded c = search (rules, makes_loaded)

pub air_whole-requires-clause-chains : goal.air_whole-requires-clause-chains
air_whole-requires-clause-chains c = search (rules, makes_chains)

pub air_whole-requires-clause-file_value : goal.air_whole-requires-clause-file_value
air_whole-requires-clause-file_value c = search (rules, makes_graph)

pub returns-in-Err : goal.returns-in-Err
returns-in-Err c = search (rules, air_unmade)
