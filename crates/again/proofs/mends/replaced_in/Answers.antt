use Rattle.again.specs.Mends.{mends_short, mends_long}
use Rattle.again.proofs.mends.replaced_in.Goals as goal

pub returns-then-n-gt8192 : goal.returns-then-n-gt8192
returns-then-n-gt8192 c = search mends_long

pub returns : goal.returns
returns c = search mends_short
