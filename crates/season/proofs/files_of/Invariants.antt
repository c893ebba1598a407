use Rattle.std.proofs.Common.{◌≡◌, ◌≤◌}
use Rattle.season.specs.Steps.{files_in}
use Rattle.season.proofs.files_of.Given as goal

-- the first i counts together
abbrev pub invariant-loop-i : goal.invariant-loop-i
invariant-loop-i l = (l.s ≤ 18446744073709551615) × (l.s ≡ files_in l.ws l.i)
