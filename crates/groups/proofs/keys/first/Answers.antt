use Rattle.std.proofs.Common.{rules}
use Rattle.groups.specs.Keys.{first_out_is, first_in_is}
use Rattle.groups.proofs.keys.first.Goals as goal

pub returns-then-d : goal.returns-then-d
returns-then-d c = (search first_out_is, search rules)

pub returns-else-d : goal.returns-else-d
returns-else-d c = (search first_in_is, search rules)
