use Rattle.std.specs.Prelude.{◌≡◌}
use Rattle.links.specs.Walk.{out_left}
use Rattle.planning.specs.Along.{Way}
use Rattle.planning.specs.EdgeMarks.{forbids_in}
use Rattle.planning.proofs.kinds.any_forbid.Given as goal

abbrev pub invariant-loop-e : goal.invariant-loop-e
invariant-loop-e l = record { way : Way l.g l.ls l.n l.e; same : forbids_in (out_left l.g l.n l.e) ≡ forbids_in (out_left l.g l.n l.e1) }

abbrev pub decreases-loop-e : goal.decreases-loop-e
decreases-loop-e l = l.e
