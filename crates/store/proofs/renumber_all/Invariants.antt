use Rattle.std.proofs.Common.{◌≡◌}
use Rattle.store.specs.Settling.{renumber_to}
use Rattle.store.proofs.renumber_all.Given as goal

abbrev pub invariant-loop-i : goal.invariant-loop-i
invariant-loop-i l = l.g ≡ renumber_to l.last l.fn.g l.i
