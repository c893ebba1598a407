-- Two plans that are alike but for how they name their runs tell the same, entry by entry. General: nothing here is of a graph.
use Rattle.std.specs.Prelude.{◌≡◌, refl, Bool, not, List, [], ◌∷◌, ◌++◌, ℕ, zero, suc}
use Rattle.std.proofs.Common.{sym, ap, ◌∙◌}
use Rattle.basis.specs.Lists.{is_nil, take_while}
use Rattle.basis.specs.Members.{All, split, clash}
use Rattle.machine.specs.Machine.{Plan, requirement, candidate, Entry, entry, state, start, level, skipped, report, under, repeats, stop_of, Stop}
use Rattle.machine.specs.Machine.{going, done, loops, next, says, Told, tell}
use Rattle.machine.specs.Halts.{stop_on, stop_loop}
use Rattle.machine.specs.Never.{by_stop}
use Rattle.machine.specs.Units.{TextUnit, Result}
use Rattle.machine.specs.Explained.{Explained, units_for, units_of, finish}

-- two lists of the same length, whose elements are related one by one
abbrev pub Each : {A B : Type 0} → (A → B → Type 0) → List A → List B → Type 0
Each Is [] [] = Unit {0}
Each Is [] (y ∷ ys) = ⊥
Each Is (x ∷ xs) [] = ⊥
Each Is (x ∷ xs) (y ∷ ys) = Is x y × Each Is xs ys

-- N: the packages that are met; Is: the runs that are met, under both names
pub record PlansAlike {R Q : Type 0} (P : Plan R) (O : Plan Q) (N : ℕ → Type 0) (Is : R → Q → Type 0) : Type 0 where
  pub opens : (n : ℕ) → N n → P.opens n ≡ O.opens n
  pub merged : (n : ℕ) → N n → P.merged n ≡ O.merged n
  pub lead : (n : ℕ) → N n → P.lead n ≡ O.lead n
  pub runs : (n : ℕ) → N n → Each Is (P.runs n) (O.runs n)
  pub kids : (r : R) (q : Q) → Is r q → P.kids r ≡ O.kids q
  pub known : (r : R) (q : Q) → Is r q → All N (O.kids q)

-- two entries that differ in the name of a run only
pub data SameEntry {R Q : Type 0} (N : ℕ → Type 0) (Is : R → Q → Type 0) : Entry R → Entry Q → Type 0 where
  same_run : (r : R) (q : Q) (ms : List Bool) (b : List ℕ) → Is r q → All N b → SameEntry N Is (entry (requirement r) ms b) (entry (requirement q) ms b)
  same_kid : (n : ℕ) (ms : List Bool) (b : List ℕ) → N n → All N b → SameEntry N Is (entry (candidate n) ms b) (entry (candidate n) ms b)

-- where a turn of both leads, and what it shows
record Moved {R Q : Type 0} (P : Plan R) (O : Plan Q) (N : ℕ → Type 0) (Is : R → Q
    → Type 0) (es : List (Entry R)) (ds : List (Entry Q)) (rep : List ℕ) : Type 0 where
  es' : List (Entry R)
  ds' : List (Entry Q)
  rep' : List ℕ
  left : next P (state es rep) ≡ state es' rep'
  right : next O (state ds rep) ≡ state ds' rep'
  each : Each (SameEntry N Is) es' ds'
  said : Each (SameEntry N Is) (says P (state es rep)) (says O (state ds rep))

each_append : {A B : Type 0} (Is : A → B → Type 0) (xs us : List A) (ys vs : List B) → Each Is xs ys → Each Is us vs → Each Is (xs ++ us) (ys ++ vs)
each_append Is [] us [] vs h g = g
each_append Is [] us (y ∷ ys) vs h g = absurd h
each_append Is (x ∷ xs) us [] vs h g = absurd h
each_append Is (x ∷ xs) us (y ∷ ys) vs h g = (h.0, each_append Is xs us ys vs h.1 g)

module _ {R Q : Type 0} (P : Plan R) (O : Plan Q) (N : ℕ → Type 0) (Is : R → Q → Type 0) (A : PlansAlike P O N Is) where
  -- ---- what is pushed

  level_runs : (ms : List Bool) (b : List ℕ) (rs : List R) (qs : List Q) → All N b → Each Is rs qs
      → Each (SameEntry N Is) (level requirement ms b rs) (level requirement ms b qs)
  level_runs ms b [] [] a h = tt
  level_runs ms b [] (q ∷ qs) a h = absurd h
  level_runs ms b (r ∷ rs) [] a h = absurd h
  level_runs ms b (r ∷ rs) (q ∷ qs) a h = (rw (nil rs qs h.1) (same_run r q (is_nil qs ∷ ms) b h.0 a), level_runs ms b rs qs a h.1)
    where
      nil : (rs : List R) (qs : List Q) → Each Is rs qs → is_nil rs ≡ is_nil qs
      nil [] [] h = refl
      nil [] (q ∷ qs) h = absurd h
      nil (r ∷ rs) [] h = absurd h
      nil (r ∷ rs) (q ∷ qs) h = refl

  level_kids : (ms : List Bool) (b ns : List ℕ) → All N b → All N ns → Each (SameEntry N Is) (level candidate ms b ns) (level candidate ms b ns)
  level_kids ms b [] a h = tt
  level_kids ms b (n ∷ ns) a h = (same_kid n (is_nil ns ∷ ms) b h.0 a, level_kids ms b ns a h.1)

  -- ---- the tests

  segment_same : (b : List ℕ) → All N b → take_while (λ m. not (P.merged m)) b ≡ take_while (λ m. not (O.merged m)) b
  segment_same [] h = refl
  segment_same (m ∷ b) h =
      let e : P.merged m ≡ O.merged m = A.merged m h.0 in
      split (O.merged m)
      (λ t. rw ((e ∙ t), t, take_while))
      (λ t. rw ((e ∙ t), t, take_while) (ap (λ (l : List ℕ). m ∷ l) (segment_same b h.1)))

  repeats_same : (n : ℕ) (b : List ℕ) → N n → All N b → repeats P b n ≡ repeats O b n
  repeats_same n b h a = rw (A.merged n h, A.opens n h, segment_same b a)

  skipped_same : (n : ℕ) (rep : List ℕ) → N n → skipped P rep n ≡ skipped O rep n
  skipped_same n rep h = rw (A.merged n h, A.lead n h)

  report_same : (n : ℕ) (rep : List ℕ) → N n → report P n rep ≡ report O n rep
  report_same n rep h = rw (A.merged n h, A.lead n h)

  under_same : (n : ℕ) (ms : List Bool) (b : List ℕ) → N n → All N b → Each (SameEntry N Is) (under P ms b n) (under O ms b n)
  under_same n ms b h a =
      split (O.opens n)
      (λ t. rw ((A.opens n h ∙ t), t) (level_runs ms (n ∷ b) (P.runs n) (O.runs n) (h, a) (A.runs n h)))
      (λ t. rw ((A.opens n h ∙ t), t) tt)

  -- ---- a turn

  stop_same : (es : List (Entry R)) (ds : List (Entry Q)) → Each (SameEntry N Is) es ds → stop_of P es ≡ stop_of O ds
  stop_same [] [] h = refl
  stop_same [] (d ∷ ds) h = absurd h
  stop_same (e ∷ es) [] h = absurd h
  stop_same (e ∷ es) (d ∷ ds) h = one e d h.0
    where
      one : (e : Entry R) (d : Entry Q) → SameEntry N Is e d → stop_of P (e ∷ es) ≡ stop_of O (d ∷ ds)
      one e d (same_run r q ms b i a) = refl
      one e d (same_kid n ms b i a) =
          split (repeats O b n)
          (λ t. stop_loop P n ms b es (repeats_same n b i a ∙ t) ∙ sym (stop_loop O n ms b ds t))
          (λ t. stop_on P n ms b es (repeats_same n b i a ∙ t) ∙ sym (stop_on O n ms b ds t))

  -- 11 names a package that is met
  loops_known : (es : List (Entry R)) (ds : List (Entry Q)) → Each (SameEntry N Is) es ds → (k : ℕ) → stop_of O ds ≡ loops k → N k
  loops_known [] [] h k x = clash cc
  loops_known [] (d ∷ ds) h k x = absurd h
  loops_known (e ∷ es) [] h k x = absurd h
  loops_known (e ∷ es) (d ∷ ds) h k x = one e d h.0 x
    where
      one : (e : Entry R) (d : Entry Q) → SameEntry N Is e d → stop_of O (d ∷ ds) ≡ loops k → N k
      one e d (same_run r q ms b i a) x = clash cc
      one e d (same_kid n ms b i a) x =
          split (repeats O b n)
          (λ t. let z = stop_loop O n ms b ds t in let y : n ≡ k = cc in rw (sym y) i)
          (λ t. let z = stop_on O n ms b ds t in clash cc)

  move : (es : List (Entry R)) (ds : List (Entry Q)) (rep : List ℕ) → Each (SameEntry N Is) es ds → Moved P O N Is es ds rep
  move [] [] rep h = record { es' = []; ds' = []; rep' = rep; left = refl; right = refl; each = tt; said = tt }
  move [] (d ∷ ds) rep h = absurd h
  move (e ∷ es) [] rep h = absurd h
  move (e ∷ es) (d ∷ ds) rep h = one e d h.0
    where
      one : (e : Entry R) (d : Entry Q) → SameEntry N Is e d → Moved P O N Is (e ∷ es) (d ∷ ds) rep
      one e d (same_run r q ms b i a) =
          record {
            es' = level candidate ms b (P.kids r) ++ es;
            ds' = level candidate ms b (O.kids q) ++ ds;
            rep' = rep;
            left = refl;
            right = refl;
            each =
                rw (A.kids r q i) (each_append (SameEntry N Is) (level candidate ms b (O.kids q)) es (level candidate ms b (O.kids q)) ds
                (level_kids ms b (O.kids q) a (A.known r q i)) h.1);
            said = (same_run r q ms b i a, tt);
          }
      one e d (same_kid n ms b i a) =
          split (skipped O rep n)
          (λ t. record {
            es' = es;
            ds' = ds;
            rep' = rep;
            left = rw (skipped_same n rep i ∙ t);
            right = rw t;
            each = h.1;
            said = rw ((skipped_same n rep i ∙ t), t) tt;
          })
          (λ t. record {
            es' = under P ms b n ++ es;
            ds' = under O ms b n ++ ds;
            rep' = report O n rep;
            left = rw ((skipped_same n rep i ∙ t), report_same n rep i);
            right = rw t;
            each = each_append (SameEntry N Is) (under P ms b n) es (under O ms b n) ds (under_same n ms b i a) h.1;
            said = rw ((skipped_same n rep i ∙ t), t) (same_kid n ms b i a, tt);
          })

  abbrev Alike-told : Told R → Told Q → Type 0
  Alike-told t u = Each (SameEntry N Is) t.shown u.shown × (t.stop ≡ u.stop) × ((k : ℕ) → u.stop ≡ loops k → N k)

  pub tell_same : (n : ℕ) (es : List (Entry R)) (ds : List (Entry Q)) (rep : List ℕ) → Each (SameEntry N Is) es ds
      → Alike-told (tell P n (state es rep)) (tell O n (state ds rep))
  tell_same zero es ds rep h = (tt, stop_same es ds h, loops_known es ds h)
  tell_same (suc n) es ds rep h =
      let e : stop_of P es ≡ stop_of O ds = stop_same es ds h in
      by_stop (stop_of O ds)
      (λ q. let m = move es ds rep h in
      let g = tell_same n m.es' m.ds' m.rep' m.each in
      rw ((e ∙ q), q, tell, m.left, m.right) (
        each_append (SameEntry N Is) (says P (state es rep)) (tell P n (state m.es' m.rep')).shown
            (says O (state ds rep)) (tell O n (state m.ds' m.rep')).shown m.said g.0,
        g.1,
        g.2,
      ))
      (λ q. rw ((e ∙ q), q, tell) (tt, refl, λ k x. clash cc))
      (λ k q. rw ((e ∙ q), q, tell) (tt, refl, λ j x. loops_known es ds h j (q ∙ x)))

  -- ---- the texts

  module _ (linesP : Entry R → List (List ℕ)) (linesO : Entry Q → List (List ℕ)) (lines : (e : Entry R) (d : Entry Q) → SameEntry N Is e d
      → linesP e ≡ linesO d) where
    units_one : (e : Entry R) (d : Entry Q) → SameEntry N Is e d → units_of P linesP e ≡ units_of O linesO d
    units_one e d (same_run r q ms b i a) = rw (lines (entry (requirement r) ms b) (entry (requirement q) ms b) (same_run r q ms b i a))
    units_one e d (same_kid n ms b i a) = rw (lines (entry (candidate n) ms b) (entry (candidate n) ms b) (same_kid n ms b i a), A.opens n i)

    units_same : (es : List (Entry R)) (ds : List (Entry Q)) → Each (SameEntry N Is) es ds → units_for P linesP es ≡ units_for O linesO ds
    units_same [] [] h = refl
    units_same [] (d ∷ ds) h = absurd h
    units_same (e ∷ es) [] h = absurd h
    units_same (e ∷ es) (d ∷ ds) h = rw (units_one e d h.0, units_same es ds h.1)

    finish_same : (placeP placeO : ℕ → ℕ) → ((n : ℕ) → N n → placeP n ≡ placeO n) → (room : ℕ) (us : List TextUnit) (s : Stop) → ((k : ℕ) → s ≡ loops k → N k)
        → finish placeO room us s ≡ finish placeP room us s
    finish_same placeP placeO place room us going h = refl
    finish_same placeP placeO place room us done h = refl
    finish_same placeP placeO place room us (loops k) h = rw (place k (h k refl))

    -- a result of the one is a result of the other
    pub explained_same : (placeP placeO : ℕ → ℕ) → ((n : ℕ) → N n → placeP n ≡ placeO n) → (rs : List R) (qs : List Q) → Each Is rs qs → (room : ℕ) (x : Result)
        → Explained P linesP placeP (start rs) room x → Explained O linesO placeO (start qs) room x
    explained_same placeP placeO place rs qs h room x f =
        let t = tell_same f.turns (start rs).stack (start qs).stack [] (level_runs [] [] rs qs tt h) in
        let a : Told R = tell P f.turns (start rs) in
        let b : Told Q = tell O f.turns (start qs) in
        let u : units_for P linesP a.shown ≡ units_for O linesO b.shown = units_same a.shown b.shown t.0 in
        record {
          turns = f.turns;
          so =
              finish_same placeP placeO place room (units_for O linesO b.shown) b.stop t.2
              ∙ ap (λ (l : List TextUnit). finish placeP room l b.stop) (sym u)
              ∙ ap (λ (s : Stop). finish placeP room (units_for P linesP a.shown) s) (sym t.1)
              ∙ f.so;
        }
