use Rattle.std.proofs.Common.{rules}
use Rattle.groups.specs.Firsts.{first_start, first_hit, first_next, first_end}
use Rattle.groups.proofs.naming.first_named.Goals as goal

pub loop-m-init : goal.loop-m-init
loop-m-init c = search first_start

pub returns-then-alike : goal.returns-then-alike
returns-then-alike c = (search first_hit, search rules)

pub loop-m-preserved : goal.loop-m-preserved
loop-m-preserved c = search first_next

pub returns : goal.returns
returns c = (search first_end, search rules)
