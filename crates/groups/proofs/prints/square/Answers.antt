use Rattle.groups.specs.Laws.Prints.{square_is}
use Rattle.groups.proofs.prints.square.Goals as goal

pub returns : goal.returns
returns c = search square_is
