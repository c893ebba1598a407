use Rattle.std.proofs.Common.{◌≡◌, ◌≤◌}
use Rattle.groups.specs.Laws.Prints.{twins_to}
use Rattle.groups.proofs.prints.twins.Given as goal

abbrev pub invariant-loop-x : goal.invariant-loop-x
invariant-loop-x l = (l.c ≤ l.x-index) × (l.c ≡ twins_to l.prints l.y l.x-index)
