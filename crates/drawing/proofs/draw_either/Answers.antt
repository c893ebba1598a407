use Rattle.std.proofs.Common.{rules}
use Rattle.drawing.specs.Same.{given_leading, option_answer, option_room, plain_ready, plain_answer, plain_room}
use Rattle.drawing.proofs.draw_either.Goals as goal

pub draw_merged-requires-clause-leading : goal.draw_merged-requires-clause-leading
draw_merged-requires-clause-leading c = search (rules, given_leading, option_answer, option_room, plain_ready, plain_answer, plain_room)

pub draw_marked-requires-clause-ready : goal.draw_marked-requires-clause-ready
draw_marked-requires-clause-ready c = search (rules, given_leading, option_answer, option_room, plain_ready, plain_answer, plain_room)

pub returns-clause-value : goal.returns-clause-value
returns-clause-value c = search (rules, given_leading, option_answer, option_room, plain_ready, plain_answer, plain_room)

pub returns-clause-out_after : goal.returns-clause-out_after
returns-clause-out_after c = search (rules, given_leading, option_answer, option_room, plain_ready, plain_answer, plain_room)
