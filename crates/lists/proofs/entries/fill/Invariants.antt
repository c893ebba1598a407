use Rattle.std.proofs.Common.{◌≡◌}
use Rattle.lists.specs.Entry.{fill_to}
use Rattle.lists.proofs.entries.fill.Given as goal

abbrev pub invariant-loop-i : goal.invariant-loop-i
invariant-loop-i l = l.list ≡ fill_to l.words l.i l.fn.list
