use Rattle.remade.specs.Lists.{checked_in_lem}
use Rattle.remade.proofs.early.check.Goals as goal

pub returns : goal.returns
returns c = search checked_in_lem
