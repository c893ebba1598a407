-- "Pending lists with a clone of all levels become one frame per opened package": the machine's stack as frames, over lists.
use Rattle.std.specs.Prelude.{◌≡◌, refl, Bool, true, false, List, [], ◌∷◌, ◌++◌, ℕ, suc, ◌+◌, ◌*◌, ◌<◌, length}
use Rattle.std.proofs.Common.{ap, append-nil, add-zero, arith}
use Rattle.basis.specs.Lists.{is_nil}
use Rattle.machine.specs.Machine.{Plan, requirement, candidate, Entry, entry, state, start, level, repeats, skipped, under, report, going, loops, stop_of}
use Rattle.machine.specs.Machine.{says, openings}
use Rattle.machine.specs.Bound.{most}
use Rattle.machine.specs.Keeps.{AllFit}
use Rattle.machine.specs.Halts.{stop_on, stop_loop}
use Rattle.machine.specs.Told.{open_within}
use Rattle.machine.specs.Turns.{Turns, stay, turn, turn_one}

-- an opened package, with the runs and kids that wait beside it
pub record Frame (R : Type 0) : Type 0 where
  pub node : ℕ
  pub runs : List R
  pub kids : List ℕ

module _ {R : Type 0} where
  -- marks are not stored: a package is last if no kids wait beside it, its run if no runs do
  abbrev pub marks_of : List (Frame R) → List Bool
  marks_of [] = []
  marks_of (f ∷ fs) = is_nil f.kids ∷ is_nil f.runs ∷ marks_of fs

  abbrev pub branch_of : List (Frame R) → List ℕ
  branch_of [] = []
  branch_of (f ∷ fs) = f.node ∷ branch_of fs

  -- the kids that wait, then the runs, above what is below
  abbrev pub waiting : List R → List ℕ → List Bool → List ℕ → List (Entry R) → List (Entry R)
  waiting rs ks ms b rest = level candidate (is_nil rs ∷ ms) b ks ++ (level requirement ms b rs ++ rest)

  abbrev pub rest_of : List (Frame R) → List (Entry R)
  rest_of [] = []
  rest_of (f ∷ fs) = waiting f.runs f.kids (marks_of fs) (branch_of fs) (rest_of fs)

  -- the stack: the runs and kids at hand, above the opened packages
  abbrev pub stack_at : List R → List ℕ → List (Frame R) → List (Entry R)
  stack_at rs ks fs = waiting rs ks (marks_of fs) (branch_of fs) (rest_of fs)

  -- the marks of a kid that was popped, with ks beside it, and rs beside its run
  abbrev pub kid_marks : List R → List ℕ → List (Frame R) → List Bool
  kid_marks rs ks fs = is_nil ks ∷ is_nil rs ∷ marks_of fs

  abbrev pub kid_entry : ℕ → List R → List ℕ → List (Frame R) → Entry R
  kid_entry n rs ks fs = entry (candidate n) (kid_marks rs ks fs) (branch_of fs)

  abbrev pub run_entry : R → List R → List (Frame R) → Entry R
  run_entry r rs fs = entry (requirement r) (is_nil rs ∷ marks_of fs) (branch_of fs)

  pub marks_length : (fs : List (Frame R)) → length (marks_of fs) ≡ 2 * length fs
  marks_length [] = refl
  marks_length (f ∷ fs) = let h = marks_length fs in omega arith

  pub branch_length : (fs : List (Frame R)) → length (branch_of fs) ≡ length fs
  branch_length [] = refl
  branch_length (f ∷ fs) = ap suc (branch_length fs)

  -- the levels of a run's line and of a package's: "Level 1 is the top level"
  pub run_level : (rs : List R) (fs : List (Frame R)) → length (is_nil rs ∷ marks_of fs) ≡ 2 * length fs + 1
  run_level rs fs = let h = marks_length fs in omega arith

  pub kid_level : (rs : List R) (ks : List ℕ) (fs : List (Frame R)) → length (kid_marks rs ks fs) ≡ 2 * length fs + 2
  kid_level rs ks fs = let h = marks_length fs in omega arith

  -- where the walk begins, and where it is back at the end of an opened package or of all
  pub stack_start : (rs : List R) → stack_at rs [] [] ≡ (start rs).stack
  stack_start rs = append-nil (level requirement [] [] rs)

  pub stack_pop : (f : Frame R) (fs : List (Frame R)) → stack_at [] [] (f ∷ fs) ≡ stack_at f.runs f.kids fs
  stack_pop f fs = refl

  pub stack_end : ◌≡◌ {A = List (Entry R)} (stack_at [] [] []) []
  stack_end = refl

module _ {R : Type 0} (P : Plan R) where
  -- ---- how many packages are opened on an entry's branch

  pub openings_run : (r : R) (rs : List R) (fs : List (Frame R)) → openings P (run_entry r rs fs) ≡ length fs
  openings_run r rs fs = rw (branch_length fs) (add-zero (length fs))

  pub openings_open : (n : ℕ) (rs : List R) (ks : List ℕ) (fs : List (Frame R)) → P.opens n ≡ true → openings P (kid_entry n rs ks fs) ≡ length fs + 1
  openings_open n rs ks fs o = rw (branch_length fs, o)

  pub openings_shut : (n : ℕ) (rs : List R) (ks : List ℕ) (fs : List (Frame R)) → P.opens n ≡ false → openings P (kid_entry n rs ks fs) ≡ length fs
  openings_shut n rs ks fs o = rw (branch_length fs, o) (add-zero (length fs))

  -- ---- one turn of the machine: rs and ks wait beside what is popped

  module _ (rs : List R) (fs : List (Frame R)) where
    pub run_goes : (r : R) → stop_of P (stack_at (r ∷ rs) [] fs) ≡ going
    run_goes r = refl

    module _ (n : ℕ) (ks : List ℕ) where
      -- 11
      pub kid_loops : repeats P (branch_of fs) n ≡ true → stop_of P (stack_at rs (n ∷ ks) fs) ≡ loops n
      kid_loops re = stop_loop P n (kid_marks rs ks fs) (branch_of fs) (stack_at rs ks fs) re

      pub kid_goes : repeats P (branch_of fs) n ≡ false → stop_of P (stack_at rs (n ∷ ks) fs) ≡ going
      kid_goes re = stop_on P n (kid_marks rs ks fs) (branch_of fs) (stack_at rs ks fs) re

      pub under_open : P.opens n ≡ true
          → under P (kid_marks rs ks fs) (branch_of fs) n ++ stack_at rs ks fs ≡ stack_at (P.runs n) [] (record { node = n; runs = rs; kids = ks } ∷ fs)
      under_open o = rw o

      pub under_shut : P.opens n ≡ false → under P (kid_marks rs ks fs) (branch_of fs) n ++ stack_at rs ks fs ≡ stack_at rs ks fs
      under_shut o = rw o

  module _ (rs : List R) (fs : List (Frame R)) (rep : List ℕ) where
    pub run_says : (r : R) → says P (state (stack_at (r ∷ rs) [] fs) rep) ≡ run_entry r rs fs ∷ []
    run_says r = refl

    pub turn_run : (r : R) → Turns P (state (stack_at (r ∷ rs) [] fs) rep) (run_entry r rs fs ∷ []) (state (stack_at rs (P.kids r) fs) rep)
    turn_run r = turn [] (state (stack_at (r ∷ rs) [] fs) rep) stay refl

    module _ (n : ℕ) (ks : List ℕ) where
      pub kid_says : skipped P rep n ≡ false → says P (state (stack_at rs (n ∷ ks) fs) rep) ≡ kid_entry n rs ks fs ∷ []
      kid_says sk = rw sk

      pub turn_skip : repeats P (branch_of fs) n ≡ false → skipped P rep n ≡ true
          → Turns P (state (stack_at rs (n ∷ ks) fs) rep) [] (state (stack_at rs ks fs) rep)
      turn_skip re sk = rw sk at (turn_one P (state (stack_at rs (n ∷ ks) fs) rep) (kid_goes rs fs n ks re))

      pub turn_kid : repeats P (branch_of fs) n ≡ false → skipped P rep n ≡ false
          → Turns P (state (stack_at rs (n ∷ ks) fs) rep) (kid_entry n rs ks fs ∷ [])
          (state (under P (kid_marks rs ks fs) (branch_of fs) n ++ stack_at rs ks fs) (report P n rep))
      turn_kid re sk = rw sk at (turn_one P (state (stack_at rs (n ∷ ks) fs) rep) (kid_goes rs fs n ks re))

      -- the package is opened, or it is not
      pub turn_open : repeats P (branch_of fs) n ≡ false → skipped P rep n ≡ false → P.opens n ≡ true
          → Turns P (state (stack_at rs (n ∷ ks) fs) rep) (kid_entry n rs ks fs ∷ [])
          (state (stack_at (P.runs n) [] (record { node = n; runs = rs; kids = ks } ∷ fs)) (report P n rep))
      turn_open re sk o = rw (under_open rs fs n ks o) at (turn_kid re sk)

      pub turn_shut : repeats P (branch_of fs) n ≡ false → skipped P rep n ≡ false → P.opens n ≡ false
          → Turns P (state (stack_at rs (n ∷ ks) fs) rep) (kid_entry n rs ks fs ∷ []) (state (stack_at rs ks fs) (report P n rep))
      turn_shut re sk o = rw (under_shut rs fs n ks o) at (turn_kid re sk)

      -- B1: there is a frame left for a package that is opened
      pub frame_left : (G U : List ℕ) → AllFit P G U rep (stack_at rs (n ∷ ks) fs) → repeats P (branch_of fs) n ≡ false → skipped P rep n ≡ false
          → P.opens n ≡ true
          → length fs < most P G U
      frame_left G U f re sk o =
          let h = open_within P G U n (kid_marks rs ks fs) (branch_of fs) rep f.0 sk re in
          let e = openings_open n rs ks fs o in
          omega arith
