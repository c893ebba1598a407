use Rattle.std.specs.Prelude.{◌≡◌, refl, ◌+◌, ◌-◌}
use Rattle.std.proofs.Common.{arith}
use Rattle.plan.specs.Fields.{one_more}
use Rattle.plan.specs.Laws.Texts.{some_there, one_more_less, first_there, second_there}
use Rattle.display.specs.PackageWriting.{rest_room, rest_wrote, ends_room, ends_wrote}
use Rattle.display.proofs.packages.put_further.Goals as goal

pub put_versions-requires-clause-x_in_bounds : goal.put_versions-requires-clause-x_in_bounds
put_versions-requires-clause-x_in_bounds c = rest_room _ _ _ 0 c.in_default.ensures.0 _ refl c.requires.x_in_bounds

pub returns-in_default : goal.returns-in_default
returns-in_default c = rest_wrote _ _ _ 0 c.in_default.ensures.0 _ _ _ refl c.put_versions.ensures

pub unwrap-second-requires : goal.unwrap-second-requires
unwrap-second-requires c = some_there _ (first_there _ _ _ c.in-Some.ensures.0 (λ q. omega arith))

pub unwrap-third-requires : goal.unwrap-third-requires
unwrap-third-requires c =
    some_there _ (second_there _ _ _ c.in-Some.ensures.0 (λ q. omega arith) c.requires.x_bound _ (rw (one_more_less _ _ c.unwrap-second.ensures) c.next_mate.ensures.0))

pub put_ends-requires-clause-z_in_bounds : goal.put_ends-requires-clause-z_in_bounds
put_ends-requires-clause-z_in_bounds c =
    let q = one_more_less _ _ c.unwrap-second.ensures in
    let r = one_more_less _ _ c.unwrap-third.ensures in
    let t : c.in-Some.last + 1 - 1 ≡ c.in-Some.last = omega arith in
    ends_room _ _ _ _ c.in-Some.ensures.0 (λ z. omega arith) c.requires.x_bound (one_more c.next_mate.result) (rw q c.next_mate.ensures.0) _ _ _
    (rw q c.solvable-a.ensures) (rw r c.solvable-b.ensures) (rw t c.solvable-z.ensures) _ c.requires.x_in_bounds

pub returns : goal.returns
returns c =
    let q = one_more_less _ _ c.unwrap-second.ensures in
    let r = one_more_less _ _ c.unwrap-third.ensures in
    let t : c.in-Some.last + 1 - 1 ≡ c.in-Some.last = omega arith in
    ends_wrote _ _ _ _ c.in-Some.ensures.0 (λ z. omega arith) c.requires.x_bound (one_more c.next_mate.result) (rw q c.next_mate.ensures.0) _ _ _
    (rw q c.solvable-a.ensures) (rw r c.solvable-b.ensures) (rw t c.solvable-z.ensures) _ _ _ c.put_ends.ensures
