use Rattle.remade.specs.Lists.{edged_in_lem}
use Rattle.remade.proofs.early.edged.Goals as goal

pub returns : goal.returns
returns c = search edged_in_lem
