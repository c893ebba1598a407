use Rattle.std.proofs.Common.{rules}
use Rattle.display.specs.Laws.Quoted.{mark_room, mark_count, mark_wrote, plain_room, plain_size, plain_wrote}
use Rattle.display.proofs.quotes.put_escaped.Goals as goal

pub put_mark-requires : goal.put_mark-requires
put_mark-requires c = search (rules, mark_room, mark_count, mark_wrote, plain_room, plain_size, plain_wrote)

pub returns-then-c-eq34-clause-value : goal.returns-then-c-eq34-clause-value
returns-then-c-eq34-clause-value c = search (rules, mark_room, mark_count, mark_wrote, plain_room, plain_size, plain_wrote)

pub returns-then-c-eq34-clause-wrote : goal.returns-then-c-eq34-clause-wrote
returns-then-c-eq34-clause-wrote c = search (rules, mark_room, mark_count, mark_wrote, plain_room, plain_size, plain_wrote)

pub bounds-out-0 : goal.bounds-out-0
bounds-out-0 c = search (rules, mark_room, mark_count, mark_wrote, plain_room, plain_size, plain_wrote)

pub returns-clause-value : goal.returns-clause-value
returns-clause-value c = search (rules, mark_room, mark_count, mark_wrote, plain_room, plain_size, plain_wrote)

pub returns-clause-wrote : goal.returns-clause-wrote
returns-clause-wrote c = search (rules, mark_room, mark_count, mark_wrote, plain_room, plain_size, plain_wrote)
