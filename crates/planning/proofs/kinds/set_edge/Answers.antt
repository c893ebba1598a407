use Rattle.std.specs.Prelude.{refl}
use Rattle.std.specs.Prelude.{◌≡◌, ◌+◌, ◌-◌}
use Rattle.std.proofs.Common.{arith}
use Rattle.planning.specs.Sets.{set_skip, set_again, set_some, set_put}
use Rattle.planning.proofs.kinds.set_edge.Goals as goal

pub returns-in_default : goal.returns-in_default
returns-in_default c = set_skip _ _ _ _ _ _ c.requires c.in_default.ensures refl

pub returns-then-is_last : goal.returns-then-is_last
returns-then-is_last c = let q : c.in-Some.v + 1 - 1 ≡ c.in-Some.v = omega arith in set_again _ _ _ _ _ _ c.requires c.in-Some.ensures (λ z. omega arith) _ (rw q c.is_last.ensures) c.if-is_last.true

pub overflow_sub-d : goal.overflow_sub-d
overflow_sub-d c =
    let q : c.in-Some.v + 1 - 1 ≡ c.in-Some.v = omega arith in
    set_some _ _ _ _ _ _ c.requires c.in-Some.ensures (λ z. omega arith) c.is_last.result (rw q c.is_last.ensures)

pub returns : goal.returns
returns c =
    let q : c.in-Some.v + 1 - 1 ≡ c.in-Some.v = omega arith in
    rw q at (set_put _ _ _ _ _ _ c.requires c.in-Some.ensures (λ z. omega arith) c.is_last.result (rw q c.is_last.ensures) c.if-is_last.false)
