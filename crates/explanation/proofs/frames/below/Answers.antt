use Rattle.std.proofs.Common.{rules}
use Rattle.explanation.specs.Frames.{below_merged, below_same, below_other, below_end}
use Rattle.explanation.proofs.frames.below.Goals as goal

pub returns-then-merged : goal.returns-then-merged
returns-then-merged c = search (rules, below_merged)

pub returns-then-n-m : goal.returns-then-n-m
returns-then-n-m c = search (rules, below_same)

pub loop-j-preserved : goal.loop-j-preserved
loop-j-preserved c = search (rules, below_other)

pub returns : goal.returns
returns c = search (rules, below_end)
