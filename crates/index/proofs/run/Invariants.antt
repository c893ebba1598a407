use Rattle.std.proofs.Common.{◌≡◌}
use Rattle.records.specs.Shapes.{records_of}
use Rattle.records.specs.Pass.{left_pass, pass_from, no_counts}
use Rattle.index.specs.Taking.{Going}
use Rattle.index.proofs.run.Given as goal

abbrev pub invariant-loop-i : goal.invariant-loop-i
invariant-loop-i l = record {
  going : Going l.file l.i l.c l.m l.ix l.tails;
  left : left_pass l.file l.i l.c l.m ≡ pass_from (records_of l.file) 0 no_counts l.fn.m;
}
