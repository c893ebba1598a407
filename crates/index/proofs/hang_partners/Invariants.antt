use Rattle.std.proofs.Common.{◌≡◌}
use Rattle.index.specs.Index.{partners_hung}
use Rattle.index.proofs.hang_partners.Given as goal

abbrev pub invariant-loop-k : goal.invariant-loop-k
invariant-loop-k l = partners_hung l.file l.k l.ix ≡ partners_hung l.file l.n l.fn.ix
