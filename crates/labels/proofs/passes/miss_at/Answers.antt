use Rattle.labels.specs.Passes.{miss_via}
use Rattle.labels.proofs.passes.miss_at.Goals as goal

pub returns : goal.returns
returns c = search miss_via
