use Rattle.std.proofs.Common.{rules}
use Rattle.index.specs.Index.{blank_fresh}
use Rattle.graph.specs.Laws.Files.{makes_loaded, makes_stored}
use Rattle.charts.specs.Laws.Wall.{export_refused, export_refused_room, export_whole, export_whole_room}
use Rattle.charts.proofs.walls.export_of.Goals as goal

pub of_file-requires-clause-blank : goal.of_file-requires-clause-blank
of_file-requires-clause-blank c = search (rules, blank_fresh)

pub export_whole-requires-clause-loaded : goal.export_whole-requires-clause-loaded
export_whole-requires-clause-loaded c = search (rules, makes_loaded)

pub export_whole-requires-clause-stored : goal.export_whole-requires-clause-stored
export_whole-requires-clause-stored c = search (rules, makes_stored)

pub returns-in-Err-clause-value : goal.returns-in-Err-clause-value
returns-in-Err-clause-value c = search (rules, export_refused)

pub returns-in-Err-clause-room_after : goal.returns-in-Err-clause-room_after
returns-in-Err-clause-room_after c = search (rules, export_refused_room)

pub returns-in-Ok-clause-value : goal.returns-in-Ok-clause-value
returns-in-Ok-clause-value c = search (rules, export_whole)

pub returns-in-Ok-clause-room_after : goal.returns-in-Ok-clause-room_after
returns-in-Ok-clause-room_after c = search (rules, export_whole_room)
