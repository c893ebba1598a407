use Rattle.labels.specs.Passes.{start_short, start_with, start_without}
use Rattle.labels.proofs.passes.mark_start.Goals as goal
use Rattle.labels.proofs.passes.mark_start.Goals.{else-s-gt1-via-then-s-gt1+else-unresolved_at, else-s-gt1-via-else-s-gt1}

pub returns-then-unresolved_at : goal.returns-then-unresolved_at
returns-then-unresolved_at c = search start_with

pub returns-else-s-gt1 : goal.returns-else-s-gt1
returns-else-s-gt1 c =
    elim c.else-s-gt1.branch [
      | else-s-gt1-via-then-s-gt1+else-unresolved_at w ↦ search start_without
      | else-s-gt1-via-else-s-gt1 w ↦ search start_short
    ]
