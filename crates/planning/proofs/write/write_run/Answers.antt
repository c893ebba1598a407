use Rattle.planning.specs.Written.{run_put}
use Rattle.planning.proofs.write.write_run.Goals as goal

pub returns : goal.returns
returns c = search run_put
