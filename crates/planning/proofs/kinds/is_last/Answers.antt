use Rattle.std.specs.Prelude.{refl}
use Rattle.std.proofs.Common.{◌∙◌, le-ltb}
use Rattle.planning.specs.Sets.{last_is, last_none}
use Rattle.planning.proofs.kinds.is_last.Goals as goal

pub returns-then-c-end : goal.returns-then-c-end
returns-then-c-end c = last_is _ _ _ _ _ _ c.if-c-end.true c.set_at.ensures refl

pub returns-else-c-end : goal.returns-else-c-end
returns-else-c-end c = le-ltb _ _ c.if-c-end.false ∙ last_none _ _ _ _ c.if-c-end.false
