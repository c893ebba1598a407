use Rattle.records.specs.Read.{tables_of}
use Rattle.expansion.specs.State.{build_in}
use Rattle.graph.specs.Working.{build_from_in}
use Rattle.graph.specs.Drawing.{ClausesLeft}
use Rattle.graph.proofs.build_core.Given as goal

abbrev pub invariant-loop-i : goal.invariant-loop-i
invariant-loop-i l =
    ClausesLeft (build_from_in l.n (tables_of l.file) 0 (build_in l.fn.g l.fn.tr l.fn.ls l.fn.k)) (tables_of l.file) l.n l.i l.g l.tr l.ls l.m
