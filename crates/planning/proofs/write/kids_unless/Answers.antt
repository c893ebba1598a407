use Rattle.planning.specs.Written.{maybe_none, maybe_some}
use Rattle.planning.proofs.write.kids_unless.Goals as goal

pub returns-then-lone : goal.returns-then-lone
returns-then-lone c = search maybe_none

pub returns : goal.returns
returns c = search maybe_some
