use Rattle.std.specs.Prelude.{◌≡◌, refl, ◌+◌, ◌-◌}
use Rattle.std.proofs.Common.{arith}
use Rattle.plan.specs.Fields.{one_more}
use Rattle.plan.specs.Laws.Texts.{some_there, one_more_less, first_there, second_there}
use Rattle.display.specs.PackageLengths.{rest_size, ends_sum}
use Rattle.display.proofs.package_sizes.further_length.Goals as goal

pub returns-in_default : goal.returns-in_default
returns-in_default c = (rest_size _ _ _ 0 c.in_default.ensures.0 _ refl c.behind_length.ensures.0, c.behind_length.ensures.1)

pub unwrap-second-requires : goal.unwrap-second-requires
unwrap-second-requires c = some_there _ (first_there _ _ _ c.in-Some.ensures.0 (λ q. omega arith))

pub unwrap-third-requires : goal.unwrap-third-requires
unwrap-third-requires c =
    some_there _ (second_there _ _ _ c.in-Some.ensures.0 (λ q. omega arith) c.requires.x_bound _ (rw (one_more_less _ _ c.unwrap-second.ensures) c.next_mate.ensures.0))

pub returns : goal.returns
returns c =
    let q = one_more_less _ _ c.unwrap-second.ensures in
    let r = one_more_less _ _ c.unwrap-third.ensures in
    let t : c.in-Some.last + 1 - 1 ≡ c.in-Some.last = omega arith in (
      ends_sum _ _ _ _ c.in-Some.ensures.0 (λ z. omega arith) c.requires.x_bound (one_more c.next_mate.result) (rw q c.next_mate.ensures.0) _ _ _ _ _ _
          (rw q c.solvable.ensures) (rw r c.solvable-2.ensures) (rw t c.solvable-3.ensures) c.version_length-a.ensures.0 c.version_length-b.ensures.0
          c.version_length-c.ensures.0,
      omega (arith, c.version_length-a.ensures.1, c.version_length-b.ensures.1, c.version_length-c.ensures.1),
    )
