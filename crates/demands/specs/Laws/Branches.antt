-- The branch of an entry whose lines are written: every package of it was opened by an entry written before. The lines follow in Openings.antt.
use Rattle.std.specs.Prelude.{◌≡◌, refl, Bool, true, List, [], ◌∷◌, ◌++◌, ℕ, zero, suc}
use Rattle.std.proofs.Common.{inl}
use Rattle.basis.specs.Lists.{snoc}
use Rattle.basis.specs.Members.{In, All, all_append, all_map, split, in_left, in_right}
use Rattle.machine.specs.Machine.{Plan, Op, requirement, candidate, Entry, entry, State, state, level, start, pushes, skips, reports, shows}

module _ {R : Type 0} (P : Plan R) where
  -- the packages of a branch, the latest first: each was opened by one of the entries xs, below the rest of the branch
  abbrev pub Opened : List (Entry R) → List ℕ → Type 0
  Opened xs [] = Unit {0}
  Opened xs (n ∷ b) = ((o : Entry R) × In o xs × (o.op ≡ candidate n) × (o.branch ≡ b) × (P.opens n ≡ true)) × Opened xs b

  -- so for each of the entries es, by those that stand before it
  abbrev pub Branching : List (Entry R) → List (Entry R) → Type 0
  Branching xs [] = Unit {0}
  Branching xs (e ∷ es) = Opened xs e.branch × Branching (snoc xs e) es

module _ {R : Type 0} (P : Plan R) where
  abbrev Stands : List (Entry R) → Entry R → Type 0
  Stands xs e = Opened P xs e.branch

  more : (xs ys : List (Entry R)) (b : List ℕ) → Opened P xs b → Opened P (xs ++ ys) b
  more xs ys [] h = tt
  more xs ys (n ∷ b) h = let o = h.0 in ((o.0, in_left o.0 xs ys o.1, o.2, o.3, o.4), more xs ys b h.1)

  level_stands : {A : Type 0} (f : A → Op R) (ms : List Bool) (b : List ℕ) (xs : List (Entry R)) (l : List A) → Opened P xs b → All (Stands xs) (level f ms b l)
  level_stands f ms b xs [] h = tt
  level_stands f ms b xs (x ∷ l) h = (h, level_stands f ms b xs l h)

  -- what an entry pushes stands below it
  pushes_stand : (o : Op R) (ms : List Bool) (b : List ℕ) (xs : List (Entry R)) → Opened P xs b
      → All (Stands (snoc xs (entry o ms b))) (pushes P (entry o ms b))
  pushes_stand (requirement r) ms b xs h =
      level_stands candidate ms b (snoc xs (entry (requirement r) ms b)) (P.kids r) (more xs (entry (requirement r) ms b ∷ []) b h)
  pushes_stand (candidate n) ms b xs h =
      let e : Entry R = entry (candidate n) ms b in
      split (P.opens n)
      (λ q. rw q (level_stands requirement ms (n ∷ b) (snoc xs e) (P.runs n) ((e, in_right e xs (e ∷ []) (inl refl), refl, refl, q), more xs (e ∷ []) b h)))
      (λ q. rw q tt)

  shows_branch : (n : ℕ) (xs : List (Entry R)) (s : State R) → All (Stands xs) s.stack → Branching P xs (shows P n s)
  shows_branch zero xs s a = tt
  shows_branch (suc n) xs s a = by s.stack s.reported a (λ ys t b. shows_branch n ys t b)
    where
      by : (es : List (Entry R)) (rep : List ℕ) → All (Stands xs) es
          → ((ys : List (Entry R)) (t : State R) → All (Stands ys) t.stack → Branching P ys (shows P n t))
          → Branching P xs (shows P (suc n) (state es rep))
      by [] rep a ih = ih xs (state [] rep) tt
      by (e ∷ es) rep a ih =
          split (skips P rep e)
          (λ q. rw q (ih xs (state es rep) a.1))
          (λ q. rw q (
            a.0,
            ih (snoc xs e) (state (pushes P e ++ es) (reports P e rep))
                (all_append (Stands (snoc xs e)) (pushes P e) es (pushes_stand e.op e.marks e.branch xs a.0)
                (all_map (Stands xs) (Stands (snoc xs e)) es (λ x h. more xs (e ∷ []) x.branch h) a.1)),
          ))

  start_stands : (rs : List R) → All (Stands []) (start rs).stack
  start_stands rs = level_stands requirement [] [] [] rs tt

  pub branching : (n : ℕ) (rs : List R) → Branching P [] (shows P n (start rs))
  branching n rs = shows_branch n [] (start rs) (start_stands rs)
