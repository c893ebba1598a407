use Rattle.std.proofs.Common.{arith}
use Rattle.planning.specs.Along.{way_next, way_less}
use Rattle.planning.specs.EdgeMarks.{reasons_hit, reasons_on, reasons_end}
use Rattle.planning.proofs.kinds.find_reason.Goals as goal

pub returns-in-Some : goal.returns-in-Some
returns-in-Some c = reasons_hit _ _ _ _ _ c.loop-e.invariant.same c.loop-e.invariant.way c.loop-e-test.true _ c.in-Some.ensures (omega arith)

pub loop-e-smaller : goal.loop-e-smaller
loop-e-smaller c = search way_less

pub loop-e-preserved : goal.loop-e-preserved
loop-e-preserved c = record { way = search way_next; same = reasons_on _ _ _ _ _ c.loop-e.invariant.same c.loop-e.invariant.way c.loop-e-test.true 0 c.in_default.ensures _ (omega arith) c.next_out-e.ensures.0 }

pub returns : goal.returns
returns c = reasons_end _ c.args.ls.now _ _ _ c.loop-e.invariant.same c.loop-e-test.false
