use Rattle.planning.specs.Along.{ready_some, kid_skip, kid_not, kid_put}
use Rattle.planning.proofs.along.kid_edge.Goals as goal

pub returns-then-key-eq0 : goal.returns-then-key-eq0
returns-then-key-eq0 c = search kid_skip

pub overflow_sub-d : goal.overflow_sub-d
overflow_sub-d c = search ready_some

pub returns-then-b : goal.returns-then-b
returns-then-b c = search kid_put

pub returns : goal.returns
returns c = search kid_not
