use Rattle.again.specs.Mends.{replaced_blank}
use Rattle.again.proofs.mends.replaced.Goals as goal

pub returns : goal.returns
returns c = search replaced_blank
