use Rattle.again.specs.Mends.{replaced_in_lem}
use Rattle.again.proofs.mends.mend_list.Goals as goal

pub returns : goal.returns
returns c = search replaced_in_lem
