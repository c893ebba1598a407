use Rattle.groups.specs.Keys.{Skipped, keys_left}
use Rattle.groups.proofs.keys.skip.Given as goal

abbrev pub invariant-loop-a : goal.invariant-loop-a
invariant-loop-a l = Skipped l.g l.ls l.d l.m l.n (keys_left l.g l.d l.m l.initial.a) (keys_left l.g l.d l.n l.initial.b) l.a l.b

abbrev pub decreases-loop-a : goal.decreases-loop-a
decreases-loop-a l = l.a
