use Rattle.std.proofs.Common.{rules}
use Rattle.charts.specs.Laws.Draws.{file_option, file_option_room, file_bytes, file_bytes_room}
use Rattle.charts.proofs.draw.Goals as goal

pub returns-then-option-gt1-clause-value : goal.returns-then-option-gt1-clause-value
returns-then-option-gt1-clause-value c = search (rules, file_option)

pub returns-then-option-gt1-clause-room_after : goal.returns-then-option-gt1-clause-room_after
returns-then-option-gt1-clause-room_after c = search (rules, file_option_room)

pub returns-clause-value : goal.returns-clause-value
returns-clause-value c = search (rules, file_bytes)

pub returns-clause-room_after : goal.returns-clause-room_after
returns-clause-room_after c = search (rules, file_bytes_room)
