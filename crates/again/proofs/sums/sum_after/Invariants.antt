use Rattle.std.proofs.Common.{◌≡◌, ◌<◌, take}
use Rattle.std.specs.List.{fold}
use Rattle.again.proofs.sums.sum_after.Given as goal

abbrev pub invariant-loop-x : goal.invariant-loop-x
invariant-loop-x g l = (l.h ≡ fold g.T.Digits.step l.start (take l.x-index l.list)) × (l.h < 18014398509481951)
