use Rattle.std.proofs.Common.{length}
use Rattle.records.specs.Read.{tables_of}
use Rattle.views.specs.Walks.{aux_from}
use Rattle.expansion.specs.Working.{once_all_in}
use Rattle.expansion.specs.State.{build_in}
use Rattle.expansion.specs.Pairing.{Pending, pairs_from}
use Rattle.expansion.proofs.pair_all.Given as goal

abbrev pub invariant-loop-y : goal.invariant-loop-y
invariant-loop-y l =
    Pending (once_all_in (pairs_from (tables_of l.file) l.side l.n l.v l.fn.x) (build_in l.fn.g l.fn.tr l.fn.ls l.fn.k))
    (pairs_from (tables_of l.file) l.side l.n l.v l.y) l.g l.tr l.ls l.m

abbrev pub decreases-loop-y : goal.decreases-loop-y
decreases-loop-y l = length (aux_from (tables_of l.file) l.y)
