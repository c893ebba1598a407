use Rattle.records.specs.Read.{tables_of}
use Rattle.air.specs.Laws.Locks.{NoLock}
use Rattle.air.proofs.first_lock.Given as goal

abbrev pub invariant-loop-i : goal.invariant-loop-i
invariant-loop-i l = NoLock (tables_of l.file) l.i
