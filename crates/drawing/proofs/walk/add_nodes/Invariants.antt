use Rattle.records.specs.Read.{tables_of}
use Rattle.drawing.specs.Pen.{going}
use Rattle.drawing.specs.Walk.{Noding}
use Rattle.drawing.proofs.walk.add_nodes.Given as goal

abbrev pub invariant-loop-n : goal.invariant-loop-n
invariant-loop-n l = Noding (tables_of l.file) l.g l.s l.ls l.m l.initial.out (going l.initial.q) l.w l.n l.out (going l.q)
