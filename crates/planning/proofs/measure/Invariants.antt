use Rattle.records.specs.Read.{tables_of}
use Rattle.planning.specs.Sizes.{Measured}
use Rattle.planning.proofs.measure.Given as goal

abbrev pub invariant-loop-n : goal.invariant-loop-n
invariant-loop-n l = Measured (tables_of l.file) l.p l.sz l.n
