use Rattle.std.proofs.Common.{rules}
use Rattle.drawing.specs.MergeMarks.{mark_own, mark_other}
use Rattle.drawing.proofs.marks.mark_group.Goals as goal

pub returns-then-n-l : goal.returns-then-n-l
returns-then-n-l c = search (rules, mark_own, mark_other)

pub returns : goal.returns
returns c = search (rules, mark_own, mark_other)
