use Rattle.again.specs.Head.{recorded_is}
use Rattle.again.proofs.heads.recorded.Goals as goal

pub returns : goal.returns
returns c = search recorded_is
