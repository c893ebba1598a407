use Rattle.std.specs.Prelude.{◌≡◌, List, ℕ, ◌+◌, ◌-◌, ◌<◌, length}
use Rattle.std.proofs.Common.{arith}
use Rattle.plan.specs.Fields.{one_more, mate_in, mates_from}
use Rattle.plan.specs.Laws.Texts.{Passing, passing_start, passing_less, passing_step, passing_many, passing_few}
use Rattle.plan.proofs.last_of_many.Goals as goal

module _ (p : List ℕ) (x₁ m c l y : ℕ) (z : Passing p x₁ (m + 1) c l) (e : y ≡ mate_in p m) where
  last : m + 1 - 1 ≡ m
  last = omega arith

  next : Passing p x₁ y (c + 1) (m + 1)
  next = passing_step p x₁ (m + 1) c l z (omega arith) y (rw last e)

  less : length (mates_from p y) < length (mates_from p (m + 1))
  less = passing_less p x₁ (m + 1) c l z (omega arith) y (rw last e)

pub loop-x-init : goal.loop-x-init
loop-x-init c = passing_start _ _ c.requires

pub overflow_add-c : goal.overflow_add-c
overflow_add-c c = omega (arith, c.loop-x.invariant.most)

pub loop-x-preserved : goal.loop-x-preserved
loop-x-preserved c = next _ _ c.in-Some.m _ _ _ (rw c.in-Some.is at c.loop-x.invariant) c.next_mate-x.ensures.0

pub loop-x-smaller : goal.loop-x-smaller
loop-x-smaller c = rw c.in-Some.is (less _ _ c.in-Some.m _ _ _ (rw c.in-Some.is at c.loop-x.invariant) c.next_mate-x.ensures.0)
