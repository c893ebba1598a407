use Rattle.std.proofs.Common.{◌≡◌}
use Rattle.labels.specs.Frames.{Inside, whole, left_of, turns}
use Rattle.labels.proofs.order.post_order.Given as goal

abbrev pub invariant-loop-at : goal.invariant-loop-at
invariant-loop-at l =
    Inside l.g l.s l.ls l.seen l.order l.frames l.at.high l.at.left
    × (left_of (whole l.g l.s l.seen l.order l.frames l.at.high l.at.left) ≡ left_of (whole l.g l.s l.initial.seen l.initial.order l.initial.frames l.initial.at.high l.initial.at.left))

abbrev pub decreases-loop-at : goal.decreases-loop-at
decreases-loop-at l = turns l.g l.s l.seen l.frames l.at.high
