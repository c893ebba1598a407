use Rattle.std.proofs.Common.{◌∙◌, eq-eqb}
use Rattle.groups.specs.Noted.{same_number}
use Rattle.groups.proofs.naming.same_name.Goals as goal

pub returns-then-a-b : goal.returns-then-a-b
returns-then-a-b c = eq-eqb _ _ c.if-a-b.true ∙ search same_number
