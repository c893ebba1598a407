use Rattle.std.proofs.Common.{rules}
use Rattle.wall.specs.Laws.Writing.{one_room, two_room, three_room, one_count, two_count, three_count, one_wrote, two_wrote, three_wrote}
use Rattle.wall.proofs.numbers.put_number.Goals as goal

pub put-requires : goal.put-requires
put-requires c = search (rules, one_room, two_room, three_room, one_count, two_count, three_count, one_wrote, two_wrote, three_wrote)

pub returns-then-n-lt10-clause-value : goal.returns-then-n-lt10-clause-value
returns-then-n-lt10-clause-value c = search (rules, one_room, two_room, three_room, one_count, two_count, three_count, one_wrote, two_wrote, three_wrote)

pub returns-then-n-lt10-clause-wrote : goal.returns-then-n-lt10-clause-wrote
returns-then-n-lt10-clause-wrote c = search (rules, one_room, two_room, three_room, one_count, two_count, three_count, one_wrote, two_wrote, three_wrote)

pub put-requires-then-n-lt100 : goal.put-requires-then-n-lt100
put-requires-then-n-lt100 c = search (rules, one_room, two_room, three_room, one_count, two_count, three_count, one_wrote, two_wrote, three_wrote)

pub returns-then-n-lt100-clause-value : goal.returns-then-n-lt100-clause-value
returns-then-n-lt100-clause-value c = search (rules, one_room, two_room, three_room, one_count, two_count, three_count, one_wrote, two_wrote, three_wrote)

pub returns-then-n-lt100-clause-wrote : goal.returns-then-n-lt100-clause-wrote
returns-then-n-lt100-clause-wrote c = search (rules, one_room, two_room, three_room, one_count, two_count, three_count, one_wrote, two_wrote, three_wrote)

pub put-requires-2 : goal.put-requires-2
put-requires-2 c = search (rules, one_room, two_room, three_room, one_count, two_count, three_count, one_wrote, two_wrote, three_wrote)

pub returns-clause-value : goal.returns-clause-value
returns-clause-value c = search (rules, one_room, two_room, three_room, one_count, two_count, three_count, one_wrote, two_wrote, three_wrote)

pub returns-clause-wrote : goal.returns-clause-wrote
returns-clause-wrote c = search (rules, one_room, two_room, three_room, one_count, two_count, three_count, one_wrote, two_wrote, three_wrote)
