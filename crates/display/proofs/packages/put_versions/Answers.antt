use Rattle.std.specs.Prelude.{◌≡◌, List, ℕ, ◌+◌, ◌-◌, ◌≤◌, ◌<◌, length, take, drop}
use Rattle.std.proofs.Common.{rules, arith}
use borrow.Rule.Slice.PartMut.{put_mid}
use Rattle.records.specs.Tables.{Tables}
use Rattle.records.specs.Views.{version_text}
use Rattle.texts.specs.Wrote.{Wrote}
use Rattle.plan.specs.Fields.{mate_in, mates_from, solvable_in}
use Rattle.plan.specs.Texts.{next_version, versions_in}
use Rattle.display.specs.PackageWriting.{Along, mates_left, versions_room, versions_next, versions_less, versions_end}
use Rattle.display.proofs.packages.put_versions.Goals as goal

module _ (T : Tables) (p whole o d : List ℕ) (n m : ℕ) (k : m + 1 < 256) (w : Along whole (versions_in T p (mates_from p (m + 1))) o d n) where
  back : m + 1 - 1 ≡ m
  back = omega arith

  module _ (s : ℕ) (e : s ≡ solvable_in p m) where
    room : length whole ≤ length o → 3 + length (version_text T s) ≤ length (take (length d - n) (drop n d))
    room r = versions_room T p whole o d n (m + 1) w s (rw back e) (omega arith) k r

    next : (x : List ℕ) (r z : ℕ) → Wrote (next_version T s) (take (length d - n) (drop n d)) x r → z ≡ mate_in p m
        → Along whole (versions_in T p (mates_from p z)) o (put_mid n (length d - n) d x) (n + r)
    next x r z v q = versions_next T p whole o d n (m + 1) w s (rw back e) (omega arith) k x r z v (rw back q)

less : (p : List ℕ) (m z : ℕ) → z ≡ mate_in p m → m + 1 < 256 → mates_left p z < mates_left p (m + 1)
less p m z q k = let b : m + 1 - 1 ≡ m = omega arith in versions_less p (m + 1) z (rw b q) (omega arith) k

pub put_version-at-requires-clause-s_in_bounds : goal.put_version-at-requires-clause-s_in_bounds
put_version-at-requires-clause-s_in_bounds c =
    room _ _ _ _ _ _ c.in-Some.n (rw c.in-Some.is at c.loop-y.invariant.small) (rw c.in-Some.is at c.loop-y.invariant.along) _ c.solvable-s.ensures
    c.requires.x_in_bounds

pub loop-y-preserved : goal.loop-y-preserved
loop-y-preserved c = record {
  small = c.next_mate-y.ensures.1;
  fits = search rules;
  along =
      next _ _ _ _ _ _ c.in-Some.n (rw c.in-Some.is at c.loop-y.invariant.small) (rw c.in-Some.is at c.loop-y.invariant.along) _ c.solvable-s.ensures _ _ _
      c.put_version-at.ensures.wrote c.next_mate-y.ensures.0;
}

pub loop-y-smaller : goal.loop-y-smaller
loop-y-smaller c = rw c.in-Some.is (less _ c.in-Some.n _ c.next_mate-y.ensures.0 (rw c.in-Some.is at c.loop-y.invariant.small))

pub returns : goal.returns
returns c = versions_end _ _ _ _ _ _ 0 (rw c.in_default.is at c.loop-y.invariant.along) (omega arith)
