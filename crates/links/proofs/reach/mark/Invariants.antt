use Rattle.std.proofs.Common.{◌-◌}
use Rattle.links.specs.Queue.{Seen}
use Rattle.links.proofs.reach.mark.Given as goal

abbrev pub invariant-loop-h : goal.invariant-loop-h
invariant-loop-h l = Seen l.g l.s l.a l.w l.h l.t

abbrev pub decreases-loop-h : goal.decreases-loop-h
decreases-loop-h l = 128 - l.h
