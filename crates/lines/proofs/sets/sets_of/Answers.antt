use Rattle.std.proofs.Common.{rules}
use Rattle.lines.specs.SetLaws.{sets_of, pushed_own}
use Rattle.lines.proofs.sets.sets_of.Goals as goal

pub set_lines-requires-clause-count_bound : goal.set_lines-requires-clause-count_bound
set_lines-requires-clause-count_bound c = (search rules, search (rules, pushed_own))

pub returns-clause-lined : goal.returns-clause-lined
returns-clause-lined c = search (rules, sets_of)
