use Rattle.std.proofs.Common.{◌≡◌, true}
use Rattle.basis.specs.Below.{all_below}
use Rattle.season.specs.Steps.{pair_fits}
use Rattle.season.proofs.counts_fit.Given as goal

-- the sums before i fit
abbrev pub invariant-loop-i : goal.invariant-loop-i
invariant-loop-i l = all_below (pair_fits l.report l.second) l.i ≡ true
