use Rattle.std.proofs.Common.{rules}
use Rattle.again.specs.Joins.{joins_first, joins_second, joins_both}
use Rattle.again.proofs.joins.joins.Goals.{then-first-gt64-via-then-first-gt64, then-first-gt64-via-else-first-gt64+then-second-gt64}
use Rattle.again.proofs.joins.joins.Goals as goal

pub returns-then-first-gt64 : goal.returns-then-first-gt64
returns-then-first-gt64 c =
    elim c.then-first-gt64.branch [
      | then-first-gt64-via-then-first-gt64 w ↦ joins_first _ _ _ _ w.if-first-gt64.true c.no_call.ensures
      | then-first-gt64-via-else-first-gt64+then-second-gt64 w ↦
          joins_second _ _ _ _ w.if-second-gt64.true w.if-first-gt64.false c.no_call.ensures
    ]

pub returns : goal.returns
returns c = search (rules, joins_both)
