use Rattle.std.proofs.Common.{rules}
use Rattle.lines.specs.RunLaws.{tails}
use Rattle.lines.proofs.run.put_tail.Goals as goal

pub put-requires : goal.put-requires
put-requires c = search (rules, tails)

pub put-requires-in-0-false : goal.put-requires-in-0-false
put-requires-in-0-false c = search (rules, tails)

pub put-requires-in-1-true : goal.put-requires-in-1-true
put-requires-in-1-true c = search (rules, tails)

pub put-requires-in-1-false : goal.put-requires-in-1-false
put-requires-in-1-false c = search (rules, tails)

pub put-requires-in_default-true : goal.put-requires-in_default-true
put-requires-in_default-true c = search (rules, tails)

pub put-requires-in_default-false : goal.put-requires-in_default-false
put-requires-in_default-false c = search (rules, tails)

pub returns-in-0-true : goal.returns-in-0-true
returns-in-0-true c = search (rules, tails)

pub returns-in-0-false : goal.returns-in-0-false
returns-in-0-false c = search (rules, tails)

pub returns-in-1-true : goal.returns-in-1-true
returns-in-1-true c = search (rules, tails)

pub returns-in-1-false : goal.returns-in-1-false
returns-in-1-false c = search (rules, tails)

pub returns-in_default-true : goal.returns-in_default-true
returns-in_default-true c = search (rules, tails)

pub returns-in_default-false : goal.returns-in_default-false
returns-in_default-false c = search (rules, tails)
