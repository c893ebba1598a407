use Rattle.groups.specs.Laws.Prints.{Summed}
use Rattle.groups.proofs.prints.print_all.Given as goal

abbrev pub invariant-loop-e : goal.invariant-loop-e
invariant-loop-e l = Summed l.g l.s l.prints l.e
