use Rattle.std.proofs.Common.{◌≡◌, take, eqb}
use Rattle.basis.specs.Lists.{any}
use Rattle.basis.specs.Chains.{downs, keyed}
use Rattle.basis.specs.Walks.{Down, some_of, word_is}
use Rattle.expansion.specs.Hashed.{triple_lay, hash_of}
use Rattle.expansion.proofs.triples.made.Given as goal

abbrev pub invariant-loop-e : goal.invariant-loop-e
invariant-loop-e l =
    Down triple_lay (keyed hash_of l.tr) l.ls l.n l.h l.e
    × (some_of (word_is l.tr l.t) (downs (keyed hash_of l.tr) l.e l.h) ≡ any (eqb l.t) (take l.n l.tr))

abbrev pub decreases-loop-e : goal.decreases-loop-e
decreases-loop-e l = l.e
