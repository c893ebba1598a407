use Rattle.std.specs.Prelude.{length}
use Rattle.records.specs.Read.{tables_of}
use Rattle.plan.specs.Fields.{one_more, mates_from}
use Rattle.display.specs.PackageLengths.{Counting}
use Rattle.display.proofs.package_sizes.behind_length.Given as goal

abbrev pub invariant-loop-x : goal.invariant-loop-x
invariant-loop-x l = Counting (tables_of l.file) l.p (one_more l.fn.x1) (one_more l.x) l.c

abbrev pub decreases-loop-x : goal.decreases-loop-x
decreases-loop-x l = length (mates_from l.p (one_more l.x))
