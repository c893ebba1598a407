-- The air profile over the contract of `urzulempa_explain_air`, for every file, option and room: "Inside it 11 can never come, and that is to
-- be proved; each label there follows the rule without "already"". The refusals 15, 16 and 17 by what they mean of the clauses and of the graph.
use Rattle.std.specs.Prelude.{◌≡◌, refl, Bool, true, false, cond, ◌||◌, ◌&&◌, List, ℕ, ◌≤◌, ◌<◌, length, leb, ltb, eqb}
use Rattle.std.proofs.Common.{sym, ap, ◌∙◌, subst, arith, le-leb, leb-true, ltb-true, ltb-false}
use Rattle.std.proofs.Math.Option.{Option, none, some}
use Rattle.basis.specs.Members.{split, either, no_both}
use Rattle.records.specs.Tables.{Tables}
use Rattle.records.specs.Read.{Reading, good, bad, read_of}
use Rattle.index.specs.Promise.{Valid, promise}
use Rattle.store.specs.Graph.{Graph}
use Rattle.links.specs.Paths.{Way, GraphWhole}
use Rattle.labels.specs.Ordered.{Acyclic}
use Rattle.labels.specs.Laws.Paths.{way_leads}
use Rattle.labels.specs.Labels.{targets, can_install, is_lacking, installable, missing, has_unresolved}
use Rattle.cycles.specs.Cycles.{cycle_of}
use Rattle.cycles.specs.Laws.Found.{none_free, found_way, found_least}
use Rattle.graph.specs.Graphs.{Outcome, drawn, refused, graph_of}
use Rattle.shape.specs.Settled.{sound, drawn_installable, drawn_missing}
use Rattle.machine.specs.Units.{Result}
use Rattle.machine.specs.Edition.{edited}
use Rattle.machine.specs.Laws.Silent.{Silent, never_eleven, whole_done}
use Rattle.plan.specs.Plan.{Shown, shown_of, plan_of, popped}
use Rattle.plan.specs.Display.{solvable_of}
use Rattle.lines.specs.Lines.{lines_of}
use Rattle.explanation.specs.Explain.{refusal, explain_edition, explain_tables}
use Rattle.explanation.specs.Contract.{Drawn}
use Rattle.explanation.specs.Laws.Contract.{the_bound, file_demand, file_drawn, file_whole, file_less}
use Rattle.explanation.specs.Laws.Numbers.{bad_low, refused_low}
use Rattle.air.specs.declared.Profile.{Profile}
use Rattle.air.specs.declared.Profile.TheVariants.{Passed, Refused}
use Rattle.air.specs.Profile.{lock_at, first_lock, profile_of}
use Rattle.air.specs.Laws.Kinds.{Taken, Tested, passed, locked, many, cyclic, tested, lock_is, lock_least, unlocked_all}
use Rattle.air.specs.Laws.Silent.{air_silent}
use Rattle.calls.specs.declared.Answer.{Answer}
use Rattle.calls.specs.Answers.{refusal_of}
use Rattle.calls.specs.Says.{Says, result_by}
use Rattle.calls.specs.Laws.Says.{says_one}
use Rattle.calls.specs.Air.{air_of, SaysBy, SaysAir}

-- ---- "Everything else answers as in document 01": a refusal of the profile, which writes nothing, or the explanation by edition 1

-- two results that the contract allows are equal
pub says_air_one : (file : List ℕ) (opt : ℕ) (out a b : List ℕ) (r q : Answer) → SaysAir file opt out a r → SaysAir file opt out b q → (r ≡ q) × (a ≡ b)
says_air_one file opt out a b r q S T = by (air_of file opt) S.says T.says
  where
    by : (x : Profile) → SaysBy x file opt out a r → SaysBy x file opt out b q → (r ≡ q) × (a ≡ b)
    by Passed s t = says_one 1 file opt out a b r q s t
    by (Refused k p) s t = (s.0 ∙ sym t.0, s.1 ∙ sym t.1)

-- ---- a file that is drawn, or refused before the profile

by_reading : {X : Type 0} (y : Reading) → ((k p : ℕ) → y ≡ bad k p → X) → ((T : Tables) → y ≡ good T → X) → X
by_reading (bad k p) f g = f k p refl
by_reading (good T) f g = g T refl

by_outcome : {X : Type 0} (o : Outcome) → ((k p : ℕ) → o ≡ refused k p → X) → ((G : Graph) → o ≡ drawn G → X) → X
by_outcome (refused k p) f g = f k p refl
by_outcome (drawn G) f g = g G refl

-- 12 or one of 1 to 9 comes first
record Before (file : List ℕ) (opt : ℕ) : Type 0 where
  number : ℕ
  place : ℕ
  low : number ≤ 12
  other : number ≡ 11 → ⊥
  silent : air_of file opt ≡ Passed
  so : (n room : ℕ) → explain_edition 1 n file opt room ≡ some (refusal number place)

by_input : {X : Type 0} (file : List ℕ) (opt : ℕ) → (Before file opt → X) → ((T : Tables) (G : Graph) → Drawn 1 file opt T G → X) → X
unfolding air_of
by_input file opt f g =
    split (leb opt 1)
    (λ o. by_reading (read_of file)
    (λ k p y. let l : k ≤ 6 = bad_low file k p y in
    f (record { number = k; place = p; low = omega arith; other = λ z. omega arith; silent = rw (o, y); so = λ n room. rw (o, explain_edition, y) }))
    (λ T t. by_outcome (graph_of T)
    (λ k p y. let l : k ≤ 9 = refused_low T k p y in
    f (record {
      number = k;
      place = p;
      low = omega arith;
      other = λ z. omega arith;
      silent = rw (o, t, y);
      so = λ n room. rw (o, explain_edition, t, y, explain_tables);
    }))
    (λ G d. g T G (record { edition = refl; option = leb-true opt 1 o; tables = t; graph = d }))))
    (λ o. f (record { number = 12; place = 0; low = omega arith; other = λ z. omega arith; silent = rw o; so = λ n room. rw (o, explain_edition) }))

-- ---- a file that is drawn

-- what the answer to such a file says of its clauses and of its graph
pub data Meant (T : Tables) (G : Graph) (r : Answer) : Type 0 where
  inside : r.number ≤ 11 → Taken T G → Meant T G r
  lock : r.number ≡ 15 → first_lock T ≡ some r.place → Meant T G r
  crowd : r.number ≡ 16 → r.place ≡ 0 → first_lock T ≡ none → 64 < length G.nodes → Meant T G r
  cycle : r.number ≡ 17 → first_lock T ≡ none → length G.nodes ≤ 64 → cycle_of G ≡ some r.place → Meant T G r

module _ (file : List ℕ) (opt : ℕ) (T : Tables) (G : Graph) (x : Drawn 1 file opt T G) where
  air_drawn : air_of file opt ≡ profile_of T G
  unfolding air_of
  air_drawn = rw (le-leb opt 1 x.option, x.tables, x.graph)

  valid : Valid T
  valid = promise file T x.tables

  whole : GraphWhole G
  whole = let s = sound T valid G x.graph in record { some = s.some; ends = s.ends }

  acyclic : Taken T G → Acyclic (targets G)
  acyclic k = none_free G whole k.free

  silent : Taken T G → Silent (edited 1 (plan_of (shown_of T G))) (popped (shown_of T G) 0)
  unfolding shown_of
  silent k = air_silent (shown_of T G) (acyclic k) (popped (shown_of T G) 0)

  module _ (out left : List ℕ) (r : Answer) where
    -- the explanation of a file that is drawn gets 0, 10 or 11
    told : Says 1 file opt out left r → r.number ≤ 11
    told S =
        let size : ℕ = (file_demand 1 file opt T G x).size in
        split (ltb (length out) size)
        (λ t.
        let q : r.number ≡ 10 = file_less 1 file opt T G x (length out) (result_by r S.text) S.is (ltb-true (length out) size t) in
        omega arith)
        (λ t. either (file_whole 1 file opt T G x (length out) (result_by r S.text) S.is (ltb-false (length out) size t))
        (λ w. let q : r.number ≡ 0 = w.0 in omega arith)
        (λ w. let q : r.number ≡ 11 = w.0 in omega arith))

    -- inside the profile the walk meets no package below itself
    taken_never : Taken T G → Says 1 file opt out left r → r.number ≡ 11 → ⊥
    taken_never k S =
        let Q : Shown = shown_of T G in
        never_eleven (edited 1 (plan_of Q)) (lines_of Q opt) (solvable_of Q) (popped Q 0) (silent k) (length out) (result_by r S.text)
        (file_drawn 1 file opt T G x (length out) (result_by r S.text) S.is)

    meant : (y : Profile) → Tested T G y → SaysBy y file opt out left r → Meant T G r
    meant y (passed k) s = inside (told s) k
    meant y (locked i a) s = lock (ap (λ (b : Answer). b.number) s.0) (a ∙ ap (λ (b : Answer). some b.place) (sym s.0))
    meant y (many a l) s = crowd (ap (λ (b : Answer). b.number) s.0) (ap (λ (b : Answer). b.place) s.0) a l
    meant y (cyclic n a l c) s = cycle (ap (λ (b : Answer). b.number) s.0) a l (c ∙ ap (λ (b : Answer). some b.place) (sym s.0))

    explained : (y : Profile) → Tested T G y → SaysBy y file opt out left r → r.number < 15 → Says 1 file opt out left r
    explained y (passed k) s h = s
    explained y (locked i a) s h = let q : r.number ≡ 15 = ap (λ (b : Answer). b.number) s.0 in let f : ⊥ = omega arith in absurd f
    explained y (many a l) s h = let q : r.number ≡ 16 = ap (λ (b : Answer). b.number) s.0 in let f : ⊥ = omega arith in absurd f
    explained y (cyclic n a l c) s h = let q : r.number ≡ 17 = ap (λ (b : Answer). b.number) s.0 in let f : ⊥ = omega arith in absurd f

    unchanged : (y : Profile) → SaysBy y file opt out left r → 15 ≤ r.number → left ≡ out
    unchanged Passed s h = let l : r.number ≤ 11 = told s in let f : ⊥ = omega arith in absurd f
    unchanged (Refused k p) s h = s.1

-- ---- every file

number_of : {a b : Result} {c : Option Result} → c ≡ some a → c ≡ some b → b.number ≡ a.number
number_of x y = cc

module _ (file : List ℕ) (opt : ℕ) (out left : List ℕ) (r : Answer) (S : SaysAir file opt out left r) where
  before : (b : Before file opt) → r.number ≡ b.number
  before b =
      let s : Says 1 file opt out left r = subst (λ (y : Profile). SaysBy y file opt out left r) b.silent S.says in
      number_of (b.so s.is.turns (length out)) s.is.so

  module _ (T : Tables) (G : Graph) (x : Drawn 1 file opt T G) where
    said : SaysBy (profile_of T G) file opt out left r
    said = subst (λ (y : Profile). SaysBy y file opt out left r) (air_drawn file opt T G x) S.says

    -- a file that is drawn: which answers it can get, and what each means
    pub air_meant : Meant T G r
    air_meant = meant file opt T G x out left r (profile_of T G) (tested T G) said

    -- ---- any other answer than 15 to 17: the file is inside the profile

    module _ (h : r.number < 15) where
      pub air_taken : Taken T G
      air_taken = by air_meant
        where
          by : Meant T G r → Taken T G
          by (inside l k) = k
          by (lock q a) = let f : ⊥ = omega arith in absurd f
          by (crowd q z a l) = let f : ⊥ = omega arith in absurd f
          by (cycle q a l c) = let f : ⊥ = omega arith in absurd f

      -- "Everything else answers as in document 01"
      pub air_says : Says 1 file opt out left r
      air_says = explained file opt T G x out left r (profile_of T G) (tested T G) said h

      -- "Inside it 11 can never come": with room for all of the text the answer is 0
      pub air_done : (file_demand 1 file opt T G x).size ≤ length out → (r.number ≡ 0) × (r.place ≡ 0)
      air_done l =
          let s : Says 1 file opt out left r = air_says in
          let Q : Shown = shown_of T G in
          let d =
          whole_done (edited 1 (plan_of Q)) (lines_of Q opt) (solvable_of Q) (popped Q 0) (silent file opt T G x air_taken)
          (the_bound 1 file opt T G x) (file_demand 1 file opt T G x) (length out) (result_by r s.text)
          (file_drawn 1 file opt T G x (length out) (result_by r s.text) s.is) l in
          (d.0, d.1)

      module _ (n : ℕ) (l : n < length G.nodes) where
        -- "each label there follows the rule without "already""
        pub air_installable : installable G n ≡ can_install G (installable G) n
        air_installable = drawn_installable T (valid file opt T G x) G x.graph (acyclic file opt T G x air_taken) n l

        pub air_missing : has_unresolved G ≡ true → missing G n ≡ eqb n 1 || is_lacking G (missing G) n
        air_missing u = drawn_missing T (valid file opt T G x) G x.graph (acyclic file opt T G x air_taken) n l u

    -- ---- 15 exactly if a clause is a Lock in the core, and its place is the first one's number

    module _ (q : r.number ≡ 15) where
      first : first_lock T ≡ some r.place
      first = by air_meant
        where
          by : Meant T G r → first_lock T ≡ some r.place
          by (inside l k) = let f : ⊥ = omega arith in absurd f
          by (lock z a) = a
          by (crowd z p a l) = let f : ⊥ = omega arith in absurd f
          by (cycle z a l c) = let f : ⊥ = omega arith in absurd f

      pub fifteen_lock : lock_at T r.place ≡ true
      fifteen_lock = lock_is T r.place first

      pub fifteen_first : (j : ℕ) → j < r.place → lock_at T j ≡ false
      fifteen_first = lock_least T r.place first

    pub lock_fifteen : (j : ℕ) → lock_at T j ≡ true → r.number ≡ 15
    lock_fifteen j t = by air_meant
      where
        clear : first_lock T ≡ none → ⊥
        clear e = no_both (lock_at T j) t (unlocked_all T e j)

        by : Meant T G r → r.number ≡ 15
        by (inside l k) = absurd (clear k.unlocked)
        by (lock z a) = z
        by (crowd z p a l) = absurd (clear a)
        by (cycle z a l c) = absurd (clear a)

    -- ---- 16 exactly if there is none and the graph has more than 64 nodes

    pub sixteen_crowd : r.number ≡ 16 → (64 < length G.nodes) × (r.place ≡ 0)
    sixteen_crowd q = by air_meant
      where
        by : Meant T G r → (64 < length G.nodes) × (r.place ≡ 0)
        by (inside l k) = let f : ⊥ = omega arith in absurd f
        by (lock z a) = let f : ⊥ = omega arith in absurd f
        by (crowd z p a l) = (l, p)
        by (cycle z a l c) = let f : ⊥ = omega arith in absurd f

    module _ (free : (j : ℕ) → lock_at T j ≡ false) where
      unlocked : first_lock T ≡ some r.place → ⊥
      unlocked e = no_both (lock_at T r.place) (lock_is T r.place e) (free r.place)

      pub crowd_sixteen : 64 < length G.nodes → r.number ≡ 16
      crowd_sixteen h = by air_meant
        where
          by : Meant T G r → r.number ≡ 16
          by (inside l k) = let g : length G.nodes ≤ 64 = k.few in let f : ⊥ = omega arith in absurd f
          by (lock z a) = absurd (unlocked a)
          by (crowd z p a l) = z
          by (cycle z a l c) = let f : ⊥ = omega arith in absurd f

      -- ---- 17 exactly if, with neither, "some node leads back to itself by one or more edges", and its place is the lowest

      pub way_seventeen : length G.nodes ≤ 64 → (a : ℕ) → Way G a a → r.number ≡ 17
      way_seventeen h a w = by air_meant
        where
          by : Meant T G r → r.number ≡ 17
          by (inside l k) = absurd (acyclic file opt T G x k a (way_leads G w))
          by (lock z e) = absurd (unlocked e)
          by (crowd z p e l) = let f : ⊥ = omega arith in absurd f
          by (cycle z e l c) = z

    module _ (q : r.number ≡ 17) where
      lowest : cycle_of G ≡ some r.place
      lowest = by air_meant
        where
          by : Meant T G r → cycle_of G ≡ some r.place
          by (inside l k) = let f : ⊥ = omega arith in absurd f
          by (lock z a) = let f : ⊥ = omega arith in absurd f
          by (crowd z p a l) = let f : ⊥ = omega arith in absurd f
          by (cycle z a l c) = c

      pub seventeen_way : Way G r.place r.place
      seventeen_way = found_way G (whole file opt T G x) r.place lowest

      pub seventeen_lowest : (m : ℕ) → m < r.place → Way G m m → ⊥
      seventeen_lowest = found_least G (whole file opt T G x) r.place lowest

  -- ---- drawn or not

  -- "Inside it 11 can never come", and outside it a refusal comes first
  pub air_never : r.number ≡ 11 → ⊥
  air_never z =
      by_input file opt
      (λ b. b.other (sym (before b) ∙ z))
      (λ T G x. let h : r.number < 15 = omega arith in taken_never file opt T G x out left r (air_taken T G x h) (air_says T G x h) z)

  -- 15 to 17 change nothing that was lent
  pub air_unchanged : 15 ≤ r.number → left ≡ out
  air_unchanged h =
      by_input file opt
      (λ b. let q : r.number ≡ b.number = before b in let l : b.number ≤ 12 = b.low in let f : ⊥ = omega arith in absurd f)
      (λ T G x. unchanged file opt T G x out left r (profile_of T G) (said T G x) h)
