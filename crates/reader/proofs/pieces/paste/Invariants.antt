use Rattle.reader.specs.Pieces.{Pasted}
use Rattle.reader.proofs.pieces.paste.Given as goal

abbrev pub invariant-loop-i : goal.invariant-loop-i
invariant-loop-i g l = Pasted l.fn.d l.at l.s l.i l.d
