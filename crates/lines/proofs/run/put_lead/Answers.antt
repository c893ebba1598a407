use Rattle.std.proofs.Common.{rules}
use Rattle.lines.specs.Said.{run_lead}
use Rattle.lines.specs.RunLaws.{leads}
use Rattle.lines.proofs.run.put_lead.Goals as goal

pub put-requires : goal.put-requires
put-requires c = search (rules, leads)

pub returns-then-top : goal.returns-then-top
returns-then-top c = search (rules, leads)

pub returns-else-w-eq0 : goal.returns-else-w-eq0
unfolding run_lead
returns-else-w-eq0 c = search rules
