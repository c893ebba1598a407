use Rattle.std.proofs.Common.{◌≡◌, length}
use Rattle.season.specs.Steps.{added}
use Rattle.season.proofs.add_counts.Given as goal

-- the counts before i are sums
abbrev pub invariant-loop-i : goal.invariant-loop-i
invariant-loop-i l = (length l.report ≡ length l.fn.report) × (l.report ≡ added l.fn.report l.second l.i)
