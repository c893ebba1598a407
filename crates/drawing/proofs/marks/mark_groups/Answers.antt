use Rattle.std.proofs.Common.{rules}
use Rattle.drawing.specs.MergeMarks.{marks_none, marks_next}
use Rattle.drawing.proofs.marks.mark_groups.Goals as goal

pub loop-n-init : goal.loop-n-init
loop-n-init c = search marks_none

pub loop-n-preserved : goal.loop-n-preserved
loop-n-preserved c = search (rules, marks_next)
