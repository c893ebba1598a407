use Rattle.records.specs.Read.{tables_of}
use Rattle.drawing.specs.Pen.{going}
use Rattle.drawing.specs.Walk.{Edging}
use Rattle.drawing.proofs.walk.add_edges.Given as goal

abbrev pub invariant-loop-e : goal.invariant-loop-e
invariant-loop-e l = Edging (tables_of l.file) l.g l.s l.ls l.m l.n l.initial.out (going l.initial.q) l.w l.e l.out (going l.q)

abbrev pub decreases-loop-e : goal.decreases-loop-e
decreases-loop-e l = l.e
