use borrow.Author.Rules.{rules}
use Rattle.texts.specs.Levels.{levels, selves}
use Rattle.texts.proofs.Indenter.push_level_with_order.Goals as goal

pub returns-then-n-ge4160-clause-result_value : goal.returns-then-n-ge4160-clause-result_value
returns-then-n-ge4160-clause-result_value c = search (rules, levels, selves)

pub returns-then-n-ge4160-clause-value : goal.returns-then-n-ge4160-clause-value
returns-then-n-ge4160-clause-value c = search (rules, levels, selves)

pub returns-clause-result_value : goal.returns-clause-result_value
returns-clause-result_value c = search (rules, levels, selves)

pub returns-clause-value : goal.returns-clause-value
returns-clause-value c = search (rules, levels, selves)
