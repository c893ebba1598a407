use Rattle.std.proofs.Common.{◌∙◌}
use borrow.Author.Tests.{ne_eqb}
use Rattle.groups.specs.Keys.{same_ended, same_long, same_via}
use Rattle.groups.proofs.keys.same_keys.Goals as goal

pub returns-then-p-eq0 : goal.returns-then-p-eq0
returns-then-p-eq0 c = search same_ended

pub returns-then-degree : goal.returns-then-degree
returns-then-degree c = search same_via

pub returns-else-degree : goal.returns-else-degree
returns-else-degree c = ne_eqb _ _ c.if-degree.false ∙ search same_long
