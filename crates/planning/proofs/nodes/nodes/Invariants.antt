use Rattle.planning.specs.Building.{Building}
use Rattle.planning.proofs.nodes.nodes.Given as goal

abbrev pub invariant-loop-n : goal.invariant-loop-n
invariant-loop-n l = Building l.g l.ls l.marks l.gr l.fn.s.nodes l.initial.p l.initial.k l.p l.k l.n l.rc l.kc
