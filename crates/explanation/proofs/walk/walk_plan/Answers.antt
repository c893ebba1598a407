use Rattle.std.proofs.Common.{rules}
use Rattle.explanation.specs.Walk.{walking_first, walking_level, walking_known, walking_framed, walking_less, walking_on, walk_ends}
use Rattle.explanation.proofs.walk.walk_plan.Goals as goal

pub loop-u-init : goal.loop-u-init
loop-u-init c = record { marks = search rules; walking = search (rules, walking_first) }

pub turn-requires-clause-level : goal.turn-requires-clause-level
turn-requires-clause-level c = search (rules, walking_level)

pub turn-requires-clause-known : goal.turn-requires-clause-known
turn-requires-clause-known c = search (rules, walking_known)

pub turn-requires-clause-framed : goal.turn-requires-clause-framed
turn-requires-clause-framed c = search (rules, walking_framed)

pub loop-u-smaller : goal.loop-u-smaller
loop-u-smaller c = search (rules, walking_less, c.turn.ensures, c.in-Ok.is)

pub loop-u-preserved : goal.loop-u-preserved
loop-u-preserved c = record { marks = search rules; walking = search (rules, walking_on, c.turn.ensures, c.in-Ok.is) }

pub returns-in-Err : goal.returns-in-Err
returns-in-Err c = search (rules, walk_ends, c.turn.ensures, c.in-Err.is, c.ended.ensures)
