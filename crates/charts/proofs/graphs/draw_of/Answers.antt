use Rattle.std.proofs.Common.{rules}
use Rattle.index.specs.Index.{blank_fresh}
use Rattle.graph.specs.Laws.Files.{makes_loaded, makes_chains}
use Rattle.charts.specs.Laws.Draws.{bytes_refused, bytes_refused_room, bytes_whole, bytes_whole_room}
use Rattle.charts.proofs.graphs.draw_of.Goals as goal

pub of_file-requires-clause-blank : goal.of_file-requires-clause-blank
of_file-requires-clause-blank c = search (rules, blank_fresh)

pub draw_whole-requires-clause-loaded : goal.draw_whole-requires-clause-loaded
draw_whole-requires-clause-loaded c = search (rules, makes_loaded)

pub draw_whole-requires-clause-chains : goal.draw_whole-requires-clause-chains
draw_whole-requires-clause-chains c = search (rules, makes_chains)

pub returns-in-Err-clause-value : goal.returns-in-Err-clause-value
returns-in-Err-clause-value c = search (rules, bytes_refused)

pub returns-in-Err-clause-room_after : goal.returns-in-Err-clause-room_after
returns-in-Err-clause-room_after c = search (rules, bytes_refused_room)

pub returns-in-Ok-clause-value : goal.returns-in-Ok-clause-value
returns-in-Ok-clause-value c = search (rules, bytes_whole)

pub returns-in-Ok-clause-room_after : goal.returns-in-Ok-clause-room_after
returns-in-Ok-clause-room_after c = search (rules, bytes_whole_room)
