-- Of edition 2, whose bound on a branch is g + u: what is asked of the packages. The laws of the editions stand in proofs/Edition.antt.
use Rattle.std.specs.Prelude.{◌≡◌, false, List, ℕ}
use Rattle.basis.specs.Members.{In}
use Rattle.machine.specs.Machine.{Plan}

-- an unmerged package is its own lead
abbrev pub Alone : {R : Type 0} → Plan R → List ℕ → Type 0
Alone P N = (n : ℕ) → In n N → P.merged n ≡ false → P.lead n ≡ n
