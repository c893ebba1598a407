use Rattle.std.proofs.Common.{◌≡◌}
use Rattle.links.specs.Build.{wiped}
use Rattle.links.proofs.clear.Given as goal

abbrev pub invariant-loop-k : goal.invariant-loop-k
invariant-loop-k l = l.ls ≡ wiped l.fn.ls l.at l.k
