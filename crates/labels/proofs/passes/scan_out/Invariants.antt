use Rattle.std.proofs.Common.{◌≡◌}
use Rattle.labels.specs.Scan.{scan_start}
use Rattle.labels.specs.Passes.{Going, scan_left}
use Rattle.labels.proofs.passes.scan_out.Given as goal

abbrev pub invariant-loop-e : goal.invariant-loop-e
invariant-loop-e l = Going l.g l.ls l.n l.e × (scan_left l.g l.n l.marks l.e l.o ≡ scan_left l.g l.n l.marks l.initial.e scan_start)

abbrev pub decreases-loop-e : goal.decreases-loop-e
decreases-loop-e l = l.e
