use Rattle.std.proofs.Common.{rules}
use Rattle.records.specs.Agree.{read_long, read_odd}
use Rattle.arms.specs.Fits.{read_left}
use Rattle.arms.proofs.read.Goals as goal
use Rattle.arms.proofs.read.Goals.{then-len-gt65536-via-then-len-gt65536, then-len-gt65536-via-else-len-gt65536+then-len-ne0}

pub returns-then-len-gt65536 : goal.returns-then-len-gt65536
returns-then-len-gt65536 c =
    elim c.then-len-gt65536.branch [
      | then-len-gt65536-via-then-len-gt65536 w ↦ search read_long
      | then-len-gt65536-via-else-len-gt65536+then-len-ne0 w ↦ search read_odd
    ]

pub returns : goal.returns
returns c = search (rules, read_left)
