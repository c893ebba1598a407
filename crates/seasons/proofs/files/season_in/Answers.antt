use Rattle.std.proofs.Common.{rules}
use Rattle.graph.specs.Laws.Files.{makes_graph}
use Rattle.seasons.specs.Laws.SeasonWays.{entered_refused}
use Rattle.seasons.proofs.files.season_in.Goals as goal

pub season_whole-requires-clause-file_value : goal.season_whole-requires-clause-file_value
season_whole-requires-clause-file_value c = search (rules, makes_graph)

pub returns-in-Err : goal.returns-in-Err
returns-in-Err c = search (rules, entered_refused)
