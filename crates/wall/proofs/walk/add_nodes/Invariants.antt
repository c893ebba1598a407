use Rattle.records.specs.Read.{tables_of}
use Rattle.drawing.specs.Pen.{going}
use Rattle.wall.specs.Laws.Walk.{Noding}
use Rattle.wall.proofs.walk.add_nodes.Given as goal

abbrev pub invariant-loop-n : goal.invariant-loop-n
invariant-loop-n l = Noding (tables_of l.file) l.g l.fn.s l.initial.out (going l.initial.q) l.n l.out (going l.q)
