use Rattle.std.proofs.Common.{◌≡◌, ◌<◌}
use Rattle.again.specs.Sum.{sum_entries, entries_at}
use Rattle.again.proofs.sums.sum_entries.Given as goal

abbrev pub invariant-loop-i : goal.invariant-loop-i
invariant-loop-i l = (l.h ≡ sum_entries (entries_at l.words l.i)) × (l.h < 18014398509481951)
