use Rattle.std.specs.Prelude.{◌≡◌}
use Rattle.drawing.specs.MergeMarks.{marks_to}
use Rattle.drawing.proofs.marks.mark_groups.Given as goal

abbrev pub invariant-loop-n : goal.invariant-loop-n
invariant-loop-n l = l.m ≡ marks_to l.leads l.n l.initial.m
