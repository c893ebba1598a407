use Rattle.std.proofs.Common.{rules}
use Rattle.labels.specs.Frames.{target_in, frame_in_lem, turn_push, turn_skip, turn_leave}
use Rattle.labels.proofs.order.turn.Goals as goal

pub bounds-seen-m : goal.bounds-seen-m
bounds-seen-m c = search (rules, target_in)

pub bounds-seen-m-then-seen-m-eq0 : goal.bounds-seen-m-then-seen-m-eq0
bounds-seen-m-then-seen-m-eq0 c = search (rules, target_in)

pub bounds-frames-at : goal.bounds-frames-at
bounds-frames-at c = search (rules, frame_in_lem)

pub returns-then-seen-m-eq0 : goal.returns-then-seen-m-eq0
returns-then-seen-m-eq0 c = search turn_push

pub returns-then-e-gt0 : goal.returns-then-e-gt0
returns-then-e-gt0 c = search turn_skip

pub returns : goal.returns
returns c = search turn_leave
