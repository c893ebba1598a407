use Rattle.std.proofs.Common.{rules}
use Rattle.index.specs.Index.{blank_fresh}
use Rattle.seasons.proofs.add_file.Goals as goal

pub season_of-requires-clause-blank : goal.season_of-requires-clause-blank
season_of-requires-clause-blank c = search (rules, blank_fresh)
