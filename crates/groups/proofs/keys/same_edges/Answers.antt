use Rattle.std.proofs.Common.{◌∙◌}
use Rattle.groups.specs.Keys.{same_both, same_none}
use Rattle.groups.proofs.keys.same_edges.Goals as goal

pub returns-then-same_keys : goal.returns-then-same_keys
returns-then-same_keys c = search same_both

pub returns-else-same_keys : goal.returns-else-same_keys
returns-else-same_keys c = c.if-same_keys.false ∙ search same_none
