-- Edition 2 opens few packages: what is opened is shown, so reported, and what is reported is shown once (specs/Laws/Once.antt).
use Rattle.std.specs.Prelude.{true, List, [], ◌∷◌, ℕ, ◌+◌, ◌≤◌, length}
use Rattle.std.proofs.Common.{arith}
use Rattle.basis.specs.Members.{In, split}
use Rattle.machine.specs.Machine.{Plan, Op, requirement, candidate, Entry, entry, start, shows, tell}
use Rattle.machine.specs.Told.{first_lines}
use Rattle.machine.specs.Count.{groups, unmerged, Grouped}
use Rattle.machine.specs.Edition.{edited, opened_in}
use Rattle.machine.specs.Laws.Edition.{Alone}
use Rattle.machine.specs.Laws.Once.{reported_in, reported_few}
use Rattle.machine.proofs.Edition.{all_lead, edited_counts}

-- ---- edition 2

module _ {R : Type 0} (P : Plan R) where
  -- what is opened is shown, so reported
  opened_reported : (es : List (Entry R)) → length (opened_in (edited 2 P) es) ≤ length (reported_in (edited 2 P) es)
  opened_reported [] = omega arith
  opened_reported (e ∷ es) = by e.op (opened_reported es)
    where
      by : (o : Op R) → length (opened_in (edited 2 P) es) ≤ length (reported_in (edited 2 P) es)
          → length (opened_in (edited 2 P) (entry o e.marks e.branch ∷ es)) ≤ length (reported_in (edited 2 P) (entry o e.marks e.branch ∷ es))
      by (requirement r) h = h
      by (candidate n) h = split (P.opens n) (λ q. rw q (omega arith)) (λ q. rw q (omega arith))

  module _ (N : List ℕ) (g : Grouped P N) (own : Alone P N) (kids : (r : R) (n : ℕ) → In n (P.kids r) → In n N) where
    -- "all openings in the whole text together are at most g + u", after any number of turns
    pub opened_few : (k : ℕ) (rs : List R) → length (opened_in (edited 2 P) (shows (edited 2 P) k (start rs))) ≤ length (groups P N) + length (unmerged P N)
    opened_few k rs =
        let a = opened_reported (shows (edited 2 P) k (start rs)) in
        let b = reported_few (edited 2 P) (groups (edited 2 P) N) (unmerged (edited 2 P) N) (λ r n i. edited_counts P N g own true n (kids r n i)) k rs in
        let c = all_lead P N own in
        omega arith

    -- the same of what the port tells
    pub told_few : (k : ℕ) (rs : List R) → length (opened_in (edited 2 P) (tell (edited 2 P) k (start rs)).shown) ≤ length (groups P N) + length (unmerged P N)
    told_few k rs = let f = first_lines (edited 2 P) k (start rs) in rw f.1.0 (opened_few f.0 rs)
