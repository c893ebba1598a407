use Rattle.labels.proofs.Ways.{again_via}
use Rattle.labels.proofs.passes.mark_again.Goals as goal

pub returns : goal.returns
returns c = search again_via
