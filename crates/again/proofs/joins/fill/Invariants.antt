use Rattle.std.proofs.Common.{◌≡◌}
use Rattle.again.specs.Head.{filled_to}
use Rattle.again.proofs.joins.fill.Given as goal

abbrev pub invariant-loop-i : goal.invariant-loop-i
invariant-loop-i l = l.words ≡ filled_to l.bytes l.from l.i l.initial.words
