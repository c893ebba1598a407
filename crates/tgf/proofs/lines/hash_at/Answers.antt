use Rattle.std.proofs.Common.{rules}
use Rattle.tgf.specs.Laws.Counting.{hash_short, hash_no_a, hash_no_b, hash_yes}
use Rattle.tgf.proofs.lines.hash_at.Goals as goal

pub returns-then-text-at : goal.returns-then-text-at
returns-then-text-at c = search (rules, hash_short)

pub returns-then-a-ne35 : goal.returns-then-a-ne35
returns-then-a-ne35 c = search (rules, hash_no_a)

pub returns-then-b-ne10 : goal.returns-then-b-ne10
returns-then-b-ne10 c = search (rules, hash_no_b)

pub returns : goal.returns
returns c = search (rules, hash_yes)
