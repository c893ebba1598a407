use Rattle.std.proofs.Common.{◌≡◌, length}
use Rattle.texts.proofs.Copy.{Copied}
use Rattle.texts.proofs.writers.put.Given as goal

abbrev pub invariant-loop-i : goal.invariant-loop-i
invariant-loop-i l = record { as_long : length l.out ≡ length l.fn.out; copied : Copied l.src l.fn.out l.out l.i }
