use borrow.Author.Rules.{rules}
use Rattle.texts.specs.Levels.{level_full, count_full, words_full, level_more, count_more, words_more}
use Rattle.texts.proofs.marks.put_level.Goals as goal

pub returns-then-n-ge4160-clause-value : goal.returns-then-n-ge4160-clause-value
returns-then-n-ge4160-clause-value c = search (rules, level_full, count_full, words_full, level_more, count_more, words_more)

pub returns-then-n-ge4160-clause-result_after : goal.returns-then-n-ge4160-clause-result_after
returns-then-n-ge4160-clause-result_after c = search (rules, level_full, count_full, words_full, level_more, count_more, words_more)

pub returns-clause-value : goal.returns-clause-value
returns-clause-value c = search (rules, level_full, count_full, words_full, level_more, count_more, words_more)

pub returns-clause-result_after : goal.returns-clause-result_after
returns-clause-result_after c = search (rules, level_full, count_full, words_full, level_more, count_more, words_more)
