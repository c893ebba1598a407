-- What is reported is shown once: the merged groups in edition 1, every package in edition 2. So there "all openings in the whole text together
-- are at most g + u": proofs/Once.antt.
use Rattle.std.specs.Prelude.{refl, Bool, cond, List, [], ◌∷◌, ◌++◌, ℕ, zero, suc, ◌≤◌, length}
use Rattle.std.proofs.Common.{inl, inr}
use Rattle.basis.specs.Lists.{has, concat_map}
use Rattle.basis.specs.Members.{In, All, Distinct, all_append, split, either, pigeon, has_out}
use Rattle.machine.specs.Machine.{Plan, Op, requirement, candidate, Entry, entry, state, start, level, under, shows}
use Rattle.machine.specs.Bound.{Counted}
use Rattle.machine.specs.Keeps.{Own, all_level}

module _ {R : Type 0} (P : Plan R) where
  -- the lead that a shown entry reports
  abbrev pub reported_by : Entry R → List ℕ
  reported_by e = elim e.op [ requirement r ↦ [] | candidate n ↦ cond (P.merged n) (P.lead n ∷ []) [] ]

  abbrev pub reported_in : List (Entry R) → List ℕ
  reported_in es = concat_map reported_by es

  -- ---- nothing is reported twice

  abbrev Once : ℕ → List (Entry R) → List ℕ → Type 0
  Once k es rep = Distinct (reported_in (shows P k (state es rep))) × ((x : ℕ) → In x (reported_in (shows P k (state es rep))) → In x rep → ⊥)

  once_turn : (k : ℕ) → ((es : List (Entry R)) (rep : List ℕ) → Once k es rep) → (o : Op R) (ms : List Bool) (b : List ℕ) (es : List (Entry R)) (rep : List ℕ)
      → Once (suc k) (entry o ms b ∷ es) rep
  once_turn k ih (requirement r) ms b es rep = ih (level candidate ms b (P.kids r) ++ es) rep
  once_turn k ih (candidate n) ms b es rep =
      split (P.merged n)
      (λ m. split (has (P.lead n) rep)
      (λ q. rw (m, q) (ih es rep))
      (λ q. let h = ih (under P ms b n ++ es) (P.lead n ∷ rep) in
      rw (m, q, m) (
        (λ i. h.1 (P.lead n) i (inl refl), h.0),
        λ x i j. either i (λ e. has_out (P.lead n) rep q (rw e at j)) (λ i'. h.1 x i' (inr j)),
      )))
      (λ m. rw (m, m) (ih (under P ms b n ++ es) rep))

  once : (k : ℕ) (es : List (Entry R)) (rep : List ℕ) → Once k es rep
  once zero es rep = (tt, λ x i. absurd i)
  once (suc k) [] rep = once k [] rep
  once (suc k) (e ∷ es) rep = once_turn k (once k) e.op e.marks e.branch es rep

  pub reported_once : (k : ℕ) (rs : List R) → Distinct (reported_in (shows P k (start rs)))
  reported_once k rs = (once k (start rs).stack []).0

  -- ---- what is reported is counted

  module _ (G U : List ℕ) (counted : (r : R) (n : ℕ) → In n (P.kids r) → Counted P G U n) where
    abbrev Owned : Entry R → Type 0
    Owned e = Own P G U e.op

    abbrev Within : ℕ → List (Entry R) → List ℕ → Type 0
    Within k es rep = (x : ℕ) → In x (reported_in (shows P k (state es rep))) → In x G

    owned_under : (n : ℕ) (ms : List Bool) (b : List ℕ) → All Owned (under P ms b n)
    owned_under n ms b = split (P.opens n) (λ q. rw q (all_level Owned requirement ms (n ∷ b) (P.runs n) (λ r ns i. tt))) (λ q. rw q tt)

    within_turn : (k : ℕ) → ((es : List (Entry R)) (rep : List ℕ) → All Owned es → Within k es rep)
        → (o : Op R) (ms : List Bool) (b : List ℕ) (es : List (Entry R)) (rep : List ℕ) → Own P G U o → All Owned es → Within (suc k) (entry o ms b ∷ es) rep
    within_turn k ih (requirement r) ms b es rep c a =
        ih (level candidate ms b (P.kids r) ++ es) rep
        (all_append Owned (level candidate ms b (P.kids r)) es (all_level Owned candidate ms b (P.kids r) (λ n ns i. counted r n i)) a)
    within_turn k ih (candidate n) ms b es rep c a =
        let below = all_append Owned (under P ms b n) es (owned_under n ms b) a in
        split (P.merged n)
        (λ m. split (has (P.lead n) rep)
        (λ q. rw (m, q) (ih es rep a))
        (λ q. rw (m, q, m) (λ x i. either i (λ e. rw e (c.0 m)) (λ j. ih (under P ms b n ++ es) (P.lead n ∷ rep) below x j))))
        (λ m. rw (m, m) (ih (under P ms b n ++ es) rep below))

    within : (k : ℕ) (es : List (Entry R)) (rep : List ℕ) → All Owned es → Within k es rep
    within zero es rep a = λ x i. absurd i
    within (suc k) [] rep a = within k [] rep tt
    within (suc k) (e ∷ es) rep a = within_turn k (within k) e.op e.marks e.branch es rep a.0 a.1

    -- in every edition: as many reports in the whole text as there are groups to report, at most
    pub reported_few : (k : ℕ) (rs : List R) → length (reported_in (shows P k (start rs))) ≤ length G
    reported_few k rs =
        pigeon (reported_in (shows P k (start rs))) G (reported_once k rs) (within k (start rs).stack [] (all_level Owned requirement [] [] rs (λ r ns i. tt)))
