use Rattle.std.proofs.Common.{◌≡◌}
use Rattle.links.specs.Sweep.{passed_to}
use Rattle.links.proofs.reach.sweep.Given as goal

abbrev pub invariant-loop-i : goal.invariant-loop-i
invariant-loop-i l = l.w ≡ passed_to l.g l.fn.w l.i
