use Rattle.std.proofs.Common.{rules}
use Rattle.records.specs.Pass.{left_start}
use Rattle.index.specs.Taking.{going_next, took_next, took_stop, took_end}
use Rattle.index.proofs.run.Goals as goal

pub loop-i-init : goal.loop-i-init
loop-i-init c = record { going = search rules; left = search left_start }

pub returns-in_err-c : goal.returns-in_err-c
returns-in_err-c c = rw c.from_residual.ensures (search took_stop)

pub loop-i-preserved : goal.loop-i-preserved
loop-i-preserved c =
    record {
      going = going_next _ _ _ _ _ _ c.loop-i.invariant.going c.loop-i-test.true c.take.result _ _ _ c.take.ensures c.in_ok-c.c c.in_ok-c.was;
      left = took_next _ _ _ _ _ _ c.loop-i.invariant.going c.loop-i-test.true c.take.result _ _ _ c.take.ensures c.in_ok-c.c c.in_ok-c.was _ c.loop-i.invariant.left;
    }

pub returns : goal.returns
returns c = search took_end
