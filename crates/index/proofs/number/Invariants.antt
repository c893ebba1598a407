use Rattle.std.proofs.Common.{◌≡◌, ◌≤◌}
use Rattle.records.specs.Shapes.{records_of}
use Rattle.index.specs.Index.{numbered, no_places}
use Rattle.index.specs.Filling.{numbers_left}
use Rattle.index.proofs.number.Given as goal

abbrev pub invariant-loop-i : goal.invariant-loop-i
invariant-loop-i l = record {
  candidates : l.c.candidates ≤ l.i;
  clauses : l.c.clauses ≤ l.i;
  left : numbers_left l.file l.i l.c l.ix ≡ numbered (records_of l.file) 0 no_places l.fn.ix;
}
