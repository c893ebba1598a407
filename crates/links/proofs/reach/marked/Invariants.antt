use Rattle.std.proofs.Common.{◌≡◌, true}
use Rattle.basis.specs.Below.{all_below}
use Rattle.links.specs.Sweep.{has_mark}
use Rattle.links.proofs.reach.marked.Given as goal

abbrev pub invariant-loop-i : goal.invariant-loop-i
invariant-loop-i l = all_below (has_mark l.w) l.i ≡ true
