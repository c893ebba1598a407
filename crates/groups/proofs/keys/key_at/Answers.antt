use Rattle.std.proofs.Common.{rules}
use Rattle.groups.specs.Keys.{key_out_is, key_in_is}
use Rattle.groups.proofs.keys.key_at.Goals as goal

pub returns-then-d : goal.returns-then-d
returns-then-d c = (search (rules, key_out_is), search rules)

pub returns-else-d : goal.returns-else-d
returns-else-d c = (search (rules, key_in_is), search rules)
