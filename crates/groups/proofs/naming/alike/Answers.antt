use Rattle.std.proofs.Common.{◌∙◌, ne_eqb}
use Rattle.groups.specs.Noted.{alike_key, alike_text}
use Rattle.groups.proofs.naming.alike.Goals as goal

pub returns-then-keys-m : goal.returns-then-keys-m
returns-then-keys-m c = search alike_text

pub returns-else-keys-m : goal.returns-else-keys-m
returns-else-keys-m c = ne_eqb _ _ c.if-keys-m.false ∙ search alike_key
