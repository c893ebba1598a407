use Rattle.std.specs.Prelude.{◌≤◌, ◌<◌, length}
use Rattle.records.specs.Read.{tables_of}
use Rattle.plan.specs.Fields.{one_more, mates_from}
use Rattle.plan.specs.Texts.{versions_in}
use Rattle.display.specs.PackageWriting.{Along, mates_left}
use Rattle.display.proofs.packages.put_versions.Given as goal

abbrev pub invariant-loop-y : goal.invariant-loop-y
invariant-loop-y l = record {
  small : one_more l.y < 256;
  fits : l.at ≤ length l.out;
  along : Along (versions_in (tables_of l.file) l.p (mates_from l.p (one_more l.fn.x))) (versions_in (tables_of l.file) l.p (mates_from l.p (one_more l.y)))
      l.initial.out l.out l.at;
}

abbrev pub decreases-loop-y : goal.decreases-loop-y
decreases-loop-y l = mates_left l.p (one_more l.y)
