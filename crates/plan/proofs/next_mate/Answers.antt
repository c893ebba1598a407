use Rattle.std.proofs.Common.{arith}
use Rattle.plan.specs.Fields.{mate_some, mate_none, mate_past}
use Rattle.plan.proofs.next_mate.Goals as goal

pub returns-then-n-m : goal.returns-then-n-m
returns-then-n-m c = (let e = mate_some c.args.p.now c.args.n c.mate-m.result c.mate-m.ensures.0 (omega arith) in omega arith, omega (arith, c.mate-m.ensures))

pub returns-else-n-m : goal.returns-else-n-m
returns-else-n-m c = (mate_none c.args.p.now c.args.n c.mate-m.result c.mate-m.ensures.0 (omega arith), omega arith)

pub returns-else-n-lt128 : goal.returns-else-n-lt128
returns-else-n-lt128 c = (mate_past c.args.p.now c.args.n c.mate-m.result c.mate-m.ensures.0 (omega arith), omega arith)
