use Rattle.labels.specs.Passes.{inst_via}
use Rattle.labels.proofs.passes.inst_at.Goals as goal

pub returns : goal.returns
returns c = search inst_via
