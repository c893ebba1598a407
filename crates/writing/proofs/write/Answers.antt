use Rattle.std.proofs.Common.{rules}
use Rattle.writing.specs.Laws.Lent.{odd_answer, odd_room}
use Rattle.writing.proofs.write.Goals as goal

pub returns-then-rows-ne0-clause-value : goal.returns-then-rows-ne0-clause-value
returns-then-rows-ne0-clause-value c = search (rules, odd_answer)

pub returns-then-rows-ne0-clause-room_after : goal.returns-then-rows-ne0-clause-room_after
returns-then-rows-ne0-clause-room_after c = search (rules, odd_room)
