use Rattle.records.specs.Read.{tables_of}
use Rattle.drawing.specs.Pen.{going}
use Rattle.wall.specs.Laws.Walk.{Edging}
use Rattle.wall.proofs.walk.add_edges.Given as goal

abbrev pub invariant-loop-i : goal.invariant-loop-i
invariant-loop-i l = Edging (tables_of l.file) l.g l.fn.s l.initial.out (going l.initial.q) l.i l.out (going l.q)
