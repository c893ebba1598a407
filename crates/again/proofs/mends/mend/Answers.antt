use Rattle.again.specs.Mends.{mended_blank}
use Rattle.again.proofs.mends.mend.Goals as goal

pub returns : goal.returns
returns c = search mended_blank
