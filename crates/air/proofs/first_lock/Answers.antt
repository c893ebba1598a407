use Rattle.air.specs.Laws.Locks.{lock_start, lock_next, lock_first_is, lock_none_is}
use Rattle.air.proofs.first_lock.Goals as goal

pub loop-i-init : goal.loop-i-init
loop-i-init c = lock_start _

pub loop-i-preserved : goal.loop-i-preserved
loop-i-preserved c = lock_next _ _ c.loop-i.invariant _ c.lock_at.ensures c.if-lock_at.false

pub returns-then-lock_at : goal.returns-then-lock_at
returns-then-lock_at c = lock_first_is _ _ c.loop-i.invariant _ c.lock_at.ensures c.if-lock_at.true

pub returns : goal.returns
returns c = lock_none_is _ _ _ c.loop-i.invariant c.loop-i-test.false c.requires
