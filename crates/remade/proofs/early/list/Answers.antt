use Rattle.remade.specs.Lists.{listed_in_lem}
use Rattle.remade.proofs.early.list.Goals as goal

pub returns : goal.returns
returns c = search listed_in_lem
