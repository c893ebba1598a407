use Rattle.std.proofs.Common.{rules}
use Rattle.groups.specs.Keys.{next_out_is, next_in_is}
use Rattle.groups.proofs.keys.next.Goals as goal

pub returns-then-d : goal.returns-then-d
returns-then-d c = (search next_out_is, search rules)

pub returns-else-d : goal.returns-else-d
returns-else-d c = (search next_in_is, search rules)
