use Rattle.std.proofs.Common.{◌≡◌}
use Rattle.store.specs.Finding.{find_of, find_left}
use Rattle.store.proofs.find_node.Given as goal

abbrev pub invariant-loop-i : goal.invariant-loop-i
invariant-loop-i l = find_left l.g l.k l.w l.i ≡ find_of l.g l.k l.w
