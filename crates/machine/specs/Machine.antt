-- The loop of `fmt_graph` as a machine on a stack, over a plan that does not change while it runs. Line numbers are conflict.rs's.
use Rattle.std.specs.Prelude.{Bool, false, cond, ◌&&◌, not, List, [], ◌∷◌, ◌++◌, ℕ, zero, suc, ◌+◌, length}
use Rattle.std.proofs.Math.Option.{Option, none, some}
use Rattle.basis.specs.Lists.{has, is_nil, take_while}

-- All that the loop asks of the graph, its labels and its groups. Packages are node numbers, R is whatever names a run.
-- `runs` and `kids` stand in the order in which they are popped: element 0 of what the Rust pushes is the last of them.
-- opens: the line says "would require" (1153). runs: lines 1154 to 1174. kids: lines 963 to 1006, 1022 to 1060, none if `missing` (942).
-- merged: `merged_candidates` has the package (1070). lead: one number for each group, the same for all of its packages.
pub record Plan (R : Type 0) : Type 0 where
  pub opens : ℕ → Bool
  pub runs : ℕ → List R
  pub kids : R → List ℕ
  pub merged : ℕ → Bool
  pub lead : ℕ → ℕ

-- `DisplayOp` (886 to 889)
pub data Op (R : Type 0) : Type 0 where
  requirement : R → Op R
  candidate : ℕ → Op R

-- An element of `stack` (897): `marks` is its indenter, the deepest level first, true where no siblings remain.
-- The Rust doesn't keep `branch`: the packages opened above the entry, the latest first.
pub record Entry (R : Type 0) : Type 0 where
  pub op : Op R
  pub marks : List Bool
  pub branch : List ℕ

-- `stack`, its top first, and `reported` (893), of which only merged packages are members: the leads of their groups
pub record State (R : Type 0) : Type 0 where
  pub stack : List (Entry R)
  pub reported : List ℕ

-- how the port's loop stands: it goes on, the stack is empty (924), or "an unmerged package comes to be opened below itself" (11)
pub data Stop : Type 0 where
  going done : Stop
  loops : ℕ → Stop

-- what `tell` says: the entries whose lines are written, and how the loop stands then
pub record Told (R : Type 0) : Type 0 where
  pub shown : List (Entry R)
  pub stop : Stop

module _ {R : Type 0} where
  -- an `Entry`
  abbrev pub entry : Op R → List Bool → List ℕ → Entry R
  entry o ms b = record { op = o; marks = ms; branch = b }

  -- a `State`
  abbrev pub state : List (Entry R) → List ℕ → State R
  state es rep = record { stack = es; reported = rep }

  -- a list that is pushed: `push_level` for each (914, 971, 1027, 1171), then `set_last` on element 0 (921, 1003, 1057, 1177).
  -- Marks are set when the list is pushed, so a last mark stays with its holder even if that is skipped later.
  abbrev pub level : {A : Type 0} → (A → Op R) → List Bool → List ℕ → List A → List (Entry R)
  level f ms b [] = []
  level f ms b (x ∷ xs) = entry (f x) (is_nil xs ∷ ms) b ∷ level f ms b xs

  -- lines 893 to 922: the top-level runs, in the order in which they are popped, and nothing reported
  abbrev pub start : List R → State R
  start rs = state (level requirement [] [] rs) []

module _ {R : Type 0} (P : Plan R) where
  -- lines 1066 to 1068: a later package of a reported group. Unmerged packages are never reported.
  abbrev pub skipped : List ℕ → ℕ → Bool
  skipped rep n = P.merged n && has (P.lead n) rep

  -- lines 1070 to 1077: a merged package's group is reported when it is first shown
  abbrev pub report : ℕ → List ℕ → List ℕ
  report n rep = cond (P.merged n) (P.lead n ∷ rep) rep

  -- lines 1152 to 1180: what a package pushes
  abbrev pub under : List Bool → List ℕ → ℕ → List (Entry R)
  under ms b n = cond (P.opens n) (level requirement ms (n ∷ b) (P.runs n)) []

  -- what an entry pushes once its lines are written (1006, 1060, 1180)
  abbrev pub pushes : Entry R → List (Entry R)
  pushes e = elim e.op [ requirement r ↦ level candidate e.marks e.branch (P.kids r) | candidate n ↦ under e.marks e.branch n ]

  -- line 1066: a requirement is never skipped
  abbrev pub skips : List ℕ → Entry R → Bool
  skips rep e = elim e.op [ requirement r ↦ false | candidate n ↦ skipped rep n ]

  -- line 1074: a requirement reports nothing
  abbrev pub reports : Entry R → List ℕ → List ℕ
  reports e rep = elim e.op [ requirement r ↦ rep | candidate n ↦ report n rep ]

  -- ---- the Rust's rules: one turn of `while let Some((node, indenter)) = stack.pop()` (924 to 1184), with neither 10 nor 11

  -- lines 924 to 1184: a turn pops the top, and unless it is skipped (1067) pushes what stands under it
  abbrev pub next_of : List (Entry R) → List ℕ → State R
  next_of [] rep = state [] rep
  next_of (e ∷ es) rep = cond (skips rep e) (state es rep) (state (pushes e ++ es) (reports e rep))

  -- lines 924 to 1184: what a turn writes, nothing where the top is skipped (1067)
  abbrev pub says_of : List (Entry R) → List ℕ → List (Entry R)
  says_of [] rep = []
  says_of (e ∷ es) rep = cond (skips rep e) [] (e ∷ [])

  -- one turn of the loop (924): `next_of`
  abbrev pub next : State R → State R
  next s = next_of s.stack s.reported

  -- the entry whose lines a turn writes, if any (`says_of`)
  abbrev pub says : State R → List (Entry R)
  says s = says_of s.stack s.reported

  -- n turns, or fewer where the stack was empty before
  abbrev pub after : ℕ → State R → State R
  after zero s = s
  after (suc n) s = after n (next s)

  -- the entries whose lines these turns write
  abbrev pub shows : ℕ → State R → List (Entry R)
  shows zero s = []
  shows (suc n) s = says s ++ shows n (next s)

  -- ---- the port's rules: it stops at the end, or where 11 is met

  -- "below itself with only unmerged ones between": an opened package that no merged one is opened below
  abbrev pub below : List ℕ → ℕ → Bool
  below b n = has n (take_while (λ m. not (P.merged m)) b)

  -- 11: "an unmerged package comes to be opened below itself with only unmerged ones between"
  abbrev pub repeats : List ℕ → ℕ → Bool
  repeats b n = not (P.merged n) && P.opens n && below b n

  -- the package that `repeats`, if the top of the stack is one
  abbrev pub loop_of : List (Entry R) → Option ℕ
  loop_of [] = none
  loop_of (e ∷ es) = elim e.op [ requirement r ↦ none | candidate n ↦ cond (repeats e.branch n) (some n) none ]

  -- "11 is tested before the repeated package's line"
  abbrev pub stop_of : List (Entry R) → Stop
  stop_of [] = done
  stop_of (e ∷ es) = elim (loop_of (e ∷ es)) [ none ↦ going | some n ↦ loops n ]

  -- at most n turns of the loop (924)
  abbrev pub tell : ℕ → State R → Told R
  tell zero s = record { shown = []; stop = stop_of s.stack }
  tell (suc n) s =
      elim (stop_of s.stack) [
        | done ↦ record { shown = []; stop = done }
        | loops k ↦ record { shown = []; stop = loops k }
        | going ↦ let t : Told R = tell n (next s) in record { shown = says s ++ t.shown; stop = t.stop }
      ]

  -- "Opening a package means writing its 'would require' line": how many are opened on an entry's branch, itself included
  abbrev pub openings : Entry R → ℕ
  openings e = length e.branch + elim e.op [ requirement r ↦ 0 | candidate n ↦ cond (P.opens n) 1 0 ]
