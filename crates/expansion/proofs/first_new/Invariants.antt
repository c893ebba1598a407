use Rattle.std.proofs.Common.{length}
use Rattle.records.specs.Read.{tables_of}
use Rattle.views.specs.Walks.{aux_from}
use Rattle.expansion.specs.Hashed.{made_in}
use Rattle.expansion.specs.Skipping.{Skipped}
use Rattle.expansion.proofs.first_new.Given as goal

abbrev pub invariant-loop-y : goal.invariant-loop-y
invariant-loop-y l = Skipped (tables_of l.file) l.side l.n l.v (made_in l.tr l.m) l.fn.x l.y

abbrev pub decreases-loop-y : goal.decreases-loop-y
decreases-loop-y l = length (aux_from (tables_of l.file) l.y)
