use Rattle.cycles.specs.Laws.Walks.{Fallen}
use Rattle.cycles.proofs.falls.Given as goal

abbrev pub invariant-loop-i : goal.invariant-loop-i
invariant-loop-i l = Fallen l.g l.pos l.i
