use Rattle.planning.specs.Along.{ends_none, ends_by}
use Rattle.planning.proofs.along.ends_run.Goals as goal

pub returns-then-k-eq0 : goal.returns-then-k-eq0
returns-then-k-eq0 c = search ends_none

pub returns : goal.returns
returns c = search ends_by
