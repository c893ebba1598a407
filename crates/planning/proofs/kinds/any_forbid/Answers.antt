use Rattle.planning.specs.Along.{way_next, way_less}
use Rattle.planning.specs.EdgeMarks.{forbids_hit, forbids_on, forbids_end}
use Rattle.planning.proofs.kinds.any_forbid.Goals as goal

pub returns-then-forbid_at : goal.returns-then-forbid_at
returns-then-forbid_at c = forbids_hit _ _ _ _ _ c.loop-e.invariant.same c.loop-e.invariant.way c.loop-e-test.true _ c.forbid_at.ensures c.if-forbid_at.true

pub loop-e-smaller : goal.loop-e-smaller
loop-e-smaller c = search way_less

pub loop-e-preserved : goal.loop-e-preserved
loop-e-preserved c = record { way = search way_next; same = forbids_on _ _ _ _ _ c.loop-e.invariant.same c.loop-e.invariant.way c.loop-e-test.true _ c.forbid_at.ensures _ c.if-forbid_at.false c.next_out-e.ensures.0 }

pub returns : goal.returns
returns c = forbids_end _ c.args.ls.now _ _ _ c.loop-e.invariant.same c.loop-e-test.false
