use Rattle.std.proofs.Common.{◌≡◌}
use Rattle.index.specs.Index.{candidates_hung}
use Rattle.index.proofs.hang_candidates.Given as goal

abbrev pub invariant-loop-k : goal.invariant-loop-k
invariant-loop-k l = candidates_hung l.file l.k l.ix ≡ candidates_hung l.file l.m l.fn.ix
