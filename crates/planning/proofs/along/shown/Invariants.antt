use Rattle.std.specs.Prelude.{◌≡◌}
use Rattle.plan.specs.Fields.{kids_from}
use Rattle.planning.specs.Kids.{group_shown}
use Rattle.planning.proofs.along.shown.Given as goal

abbrev pub invariant-loop-i : goal.invariant-loop-i
invariant-loop-i l = group_shown l.gr l.l (kids_from l.k l.i l.end) ≡ group_shown l.gr l.l (kids_from l.k l.c l.end)
