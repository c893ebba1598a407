use Rattle.std.specs.Prelude.{◌≡◌}
use Rattle.links.specs.Walk.{out_left}
use Rattle.planning.specs.Along.{Way}
use Rattle.planning.specs.EdgeMarks.{edge_mark, reasons_in}
use Rattle.planning.proofs.kinds.find_reason.Given as goal

abbrev pub invariant-loop-e : goal.invariant-loop-e
invariant-loop-e l = record { way : Way l.g l.ls l.n l.e; same : edge_mark (reasons_in l.g (out_left l.g l.n l.e)) ≡ edge_mark (reasons_in l.g (out_left l.g l.n l.e1)) }

abbrev pub decreases-loop-e : goal.decreases-loop-e
decreases-loop-e l = l.e
