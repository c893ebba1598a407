use Rattle.again.specs.Mends.{mended_in_lem}
use Rattle.again.proofs.mends.mend_room.Goals as goal

pub returns : goal.returns
returns c = search mended_in_lem
