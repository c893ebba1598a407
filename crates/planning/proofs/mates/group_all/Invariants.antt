use Rattle.planning.specs.Grouping.{Grouping}
use Rattle.planning.proofs.mates.group_all.Given as goal

abbrev pub invariant-loop-i : goal.invariant-loop-i
invariant-loop-i l = Grouping l.leads l.initial.gr l.gr l.last l.count l.i
