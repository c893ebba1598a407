use Rattle.remade.specs.Lists.{edged_blank}
use Rattle.remade.proofs.early.edges.Goals as goal

pub returns : goal.returns
returns c = search edged_blank
