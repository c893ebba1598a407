use Rattle.std.proofs.Common.{◌≡◌}
use Rattle.explanation.specs.Frames.{below_in, branch_in}
use Rattle.explanation.proofs.frames.below.Given as goal

abbrev pub invariant-loop-j : goal.invariant-loop-j
invariant-loop-j l = below_in l.p (branch_in l.fr l.j) l.n ≡ below_in l.p (branch_in l.fr l.d) l.n
