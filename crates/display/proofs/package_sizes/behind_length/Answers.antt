use Rattle.std.specs.Prelude.{◌≡◌, List, ℕ, ◌+◌, ◌-◌, ◌≤◌, ◌<◌, length}
use Rattle.std.proofs.Common.{arith}
use Rattle.records.specs.Read.{tables_of}
use Rattle.records.specs.Views.{version_text}
use Rattle.index.specs.Index.{Loaded}
use Rattle.plan.specs.Fields.{mate_in, mates_from, solvable_in}
use Rattle.display.specs.PackageLengths.{Counting, counting_less, counting_step, counting_end}
use Rattle.display.proofs.package_sizes.behind_length.Goals as goal

module _ (file ix : List ℕ) (l : Loaded file ix) (p : List ℕ) (x₁ m c : ℕ) (z : Counting (tables_of file) p x₁ (m + 1) c) where
  back : m + 1 - 1 ≡ m
  back = omega arith

  less : (y : ℕ) → y ≡ mate_in p m → length (mates_from p y) < length (mates_from p (m + 1))
  less y q = counting_less file ix l p x₁ (m + 1) c z (omega arith) y (rw back q)

  step : (s v y : ℕ) → s ≡ solvable_in p m → v ≡ length (version_text (tables_of file) s) → v ≤ 24 → y ≡ mate_in p m
      → Counting (tables_of file) p x₁ y (c + (3 + v))
  step s v y ss vv vl yy = counting_step file ix l p x₁ (m + 1) c z (omega arith) s v y (rw back ss) vv vl (rw back yy)

pub loop-x-preserved : goal.loop-x-preserved
loop-x-preserved c =
    step _ _ c.requires.loaded _ _ c.in-Some.m _ (rw c.in-Some.is at c.loop-x.invariant) _ _ _ c.solvable-s.ensures c.version_length-v.ensures.0
    c.version_length-v.ensures.1 c.next_mate-x.ensures.0

pub loop-x-smaller : goal.loop-x-smaller
loop-x-smaller c = rw c.in-Some.is (less _ _ c.requires.loaded _ _ c.in-Some.m _ (rw c.in-Some.is at c.loop-x.invariant) _ c.next_mate-x.ensures.0)

pub returns : goal.returns
returns c = (counting_end _ _ _ 0 _ (rw c.in_default.is at c.loop-x.invariant) (omega arith), c.loop-x.invariant.most)
