use Rattle.std.proofs.Common.{◌≤◌, length}
use Rattle.records.specs.Read.{tables_of}
use Rattle.whatif.proofs.counts.clauses.Given as goal

abbrev pub invariant-loop-i : goal.invariant-loop-i
invariant-loop-i l = l.i ≤ length (tables_of l.fn.file).clauses
