use Rattle.std.proofs.Common.{rules}
use Rattle.salvage.specs.Laws.Pass.{clause_no, clause_learnt, clause_stays}
use Rattle.salvage.proofs.judge.clause.Goals as goal

pub returns-then-core_learnt : goal.returns-then-core_learnt
returns-then-core_learnt c = search (rules, clause_learnt)

pub returns-in-Err : goal.returns-in-Err
returns-in-Err c = search (rules, clause_no)

pub returns-else-core_learnt : goal.returns-else-core_learnt
returns-else-core_learnt c = search (rules, clause_stays)
