use borrow.Author.Rules.{rules}
use Rattle.texts.specs.Levels.{levels, selves}
use Rattle.texts.proofs.Indenter.set_last.Goals as goal

pub returns-then-n-eq0-clause-result_value : goal.returns-then-n-eq0-clause-result_value
returns-then-n-eq0-clause-result_value c = search (rules, levels, selves)

pub returns-then-n-eq0-clause-value : goal.returns-then-n-eq0-clause-value
returns-then-n-eq0-clause-value c = search (rules, levels, selves)

pub returns-clause-result_value : goal.returns-clause-result_value
returns-clause-result_value c = search (rules, levels, selves)

pub returns-clause-value : goal.returns-clause-value
returns-clause-value c = search (rules, levels, selves)
