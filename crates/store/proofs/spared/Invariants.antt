use Rattle.std.proofs.Common.{◌≡◌, true}
use Rattle.basis.specs.Below.{all_below}
use Rattle.store.specs.Settling.{spares}
use Rattle.store.proofs.spared.Given as goal

abbrev pub invariant-loop-i : goal.invariant-loop-i
invariant-loop-i l = all_below (spares l.g) l.i ≡ true
