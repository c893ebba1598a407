use Rattle.std.proofs.Common.{◌≡◌}
use Rattle.links.specs.Queue.{lowest_in, lowest_left}
use Rattle.links.proofs.reach.lowest.Given as goal

abbrev pub invariant-loop-i : goal.invariant-loop-i
invariant-loop-i l = lowest_left l.w l.k l.i ≡ lowest_in l.w l.k
