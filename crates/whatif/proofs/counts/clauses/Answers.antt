use Rattle.std.proofs.Common.{rules}
use Rattle.whatif.specs.Laws.Counts.{clauses_next, clauses_stop, clauses_all}
use Rattle.whatif.proofs.counts.clauses.Goals as goal

pub returns-then-place-eq0 : goal.returns-then-place-eq0
returns-then-place-eq0 c = (search (rules, clauses_stop), search rules)

pub loop-i-preserved : goal.loop-i-preserved
loop-i-preserved c = search (rules, clauses_next)

pub returns : goal.returns
returns c = (search (rules, clauses_all), search rules)
