use Rattle.planning.specs.Sizes.{Adding}
use Rattle.planning.proofs.add_sizes.Given as goal

abbrev pub invariant-loop-n : goal.invariant-loop-n
invariant-loop-n l = Adding l.initial.p l.sz l.p l.count l.n
