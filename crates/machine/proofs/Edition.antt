-- Edition 1 is the plan as it is; edition 2 never meets 11, and its bound on a branch is g + u.
use Rattle.std.specs.Prelude.{◌≡◌, refl, Bool, true, false, List, [], ◌∷◌, ℕ, ◌+◌, ◌≤◌, length, eqb}
use Rattle.std.proofs.Common.{inl, inr, arith, eq-eqb}
use Rattle.basis.specs.Lists.{filter}
use Rattle.basis.specs.Members.{In, split, clash, filter_in}
use Rattle.machine.specs.Machine.{Plan, Op, requirement, candidate, Entry, entry, start, going, loops, stop_of, after}
use Rattle.machine.specs.Bound.{Counted, most}
use Rattle.machine.specs.Count.{leading, groups, unmerged, Grouped, counts, two_each, most_of}
use Rattle.machine.specs.Edition.{reading, edited}
use Rattle.machine.specs.Laws.Silent.{Silent}
use Rattle.machine.specs.Laws.Edition.{Alone}

module _ {R : Type 0} where
  -- "Edition 1 stays for the archive and remains the Rust's"
  pub first_edition : (P : Plan R) → edited 1 P ≡ P
  first_edition P = refl

  -- ---- "In edition 2 refusal 11 is never given"

  on_entry : (P : Plan R) (o : Op R) (ms : List Bool) (b : List ℕ) (es : List (Entry R)) → stop_of (edited 2 P) (entry o ms b ∷ es) ≡ going
  on_entry P (requirement r) ms b es = refl
  on_entry P (candidate n) ms b es = refl

  never_loops : (P : Plan R) (es : List (Entry R)) (p : ℕ) → stop_of (edited 2 P) es ≡ loops p → ⊥
  never_loops P [] p e = clash cc
  never_loops P (x ∷ es) p e = let g = on_entry P x.op x.marks x.branch es in clash cc

  pub second_silent : (P : Plan R) (rs : List R) → Silent (edited 2 P) rs
  second_silent P rs k p e = never_loops P (after (edited 2 P) k (start rs)).stack p e

-- ---- g and u

module _ {R : Type 0} (P : Plan R) where
  none_single : (N : List ℕ) → length (unmerged (reading true P) N) ≡ 0
  none_single [] = refl
  none_single (n ∷ N) = none_single N

  -- as many are reported as there are groups and unmerged packages
  pub all_lead : (N : List ℕ) → Alone P N → length (groups (reading true P) N) ≡ length (groups P N) + length (unmerged P N)
  all_lead [] own = refl
  all_lead (n ∷ N) own =
      let h = all_lead N (λ m i. own m (inr i)) in
      split (P.merged n)
      (λ m. split (eqb (P.lead n) n) (λ q. rw (m, q, filter) (omega arith)) (λ q. rw (m, q, filter) h))
      (λ m. rw (m, eq-eqb (P.lead n) n (own n (inl refl) m), filter) (omega arith))

module _ {R : Type 0} (P : Plan R) (N : List ℕ) (g : Grouped P N) (own : Alone P N) where
  -- the packages are counted in every edition, by its own groups and unmerged ones
  pub edited_counts : (every : Bool) (n : ℕ) → In n N → Counted (reading every P) (groups (reading every P) N) (unmerged (reading every P) N) n
  edited_counts false n i = counts P N g n i
  edited_counts true n i = (λ m. led, λ m. clash cc)
    where
      led : In (P.lead n) (groups (reading true P) N)
      led =
          split (P.merged n)
          (λ m. let x = g.named n i m in filter_in (leading (reading true P)) (P.lead n) N (eq-eqb (P.lead (P.lead n)) (P.lead n) x.2) x.0)
          (λ m. let e : P.lead n ≡ n = own n i m in
          rw e (filter_in (leading (reading true P)) n N (eq-eqb (P.lead n) n e) i))

  -- the bound on a branch in edition 2: g + u
  pub second_most : most (edited 2 P) (groups (edited 2 P) N) (unmerged (edited 2 P) N) ≡ length (groups P N) + length (unmerged P N)
  second_most = let a = all_lead P N own in rw (none_single P N) (omega arith)

  -- with at most 126 packages, in every edition
  pub edited_most : (every : Bool) → length N ≤ 126 → most (reading every P) (groups (reading every P) N) (unmerged (reading every P) N) ≤ 2079
  edited_most false h = most_of P N g h
  edited_most true h = let a = all_lead P N own in let b = two_each P N g in rw (none_single P N) (omega arith)
