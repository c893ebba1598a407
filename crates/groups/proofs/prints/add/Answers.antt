use Rattle.std.proofs.Common.{refl}
use Rattle.groups.specs.Laws.Prints.{plus_is, plus_kept}
use Rattle.groups.proofs.prints.add.Goals as goal

pub returns : goal.returns
returns c = (plus_is _ _ _ _ _ refl refl, search plus_kept)
