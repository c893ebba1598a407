-- The definitions at work on tiny plans, the shapes of P9, P10 and P11 of document 01 among them.
use Rattle.std.specs.Prelude.{◌≡◌, refl, true, false, List, [], ◌∷◌, map, ℕ, ◌+◌, length, get_or, eqb}
use Rattle.std.proofs.Math.Option.{Option, none, some}
use Rattle.basis.specs.Lists.{has}
use Rattle.machine.specs.Machine.{Plan, requirement, candidate, Entry, start, tell, shows, after}
use Rattle.machine.specs.Never.{came_start}
use Rattle.machine.specs.Told.{Finishes, loops_never}
use Rattle.machine.specs.Units.{Result}
use Rattle.machine.specs.Explained.{explain}

-- a plan from tables: the runs of each package and the kids of each run, in the order in which they are popped.
-- Packages that have no runs do not open; `mates` is the one merged group.
abbrev plan_of : List (List ℕ) → List (List ℕ) → List ℕ → Plan ℕ
plan_of runs kids mates = record {
  opens = λ n. elim (get_or runs n []) [ [] ↦ false | _ ∷ _ ↦ true ];
  runs = λ n. get_or runs n [];
  kids = λ r. get_or kids r [];
  merged = λ n. has n mates;
  lead = λ n. get_or mates 0 n;
}

-- a line: what stands there and its level, then a newline. Package 9 "would constrain", with two lines under its own.
abbrev lines_of : Entry ℕ → List (List ℕ)
lines_of e =
    let l = length e.marks in
    elim e.op [
      | requirement r ↦ ((100 + r) ∷ l ∷ 10 ∷ []) ∷ []
      | candidate n ↦ elim (eqb n 9) [ true ↦ (n ∷ l ∷ 10 ∷ []) ∷ ((l + 1) ∷ 10 ∷ []) ∷ ((l + 1) ∷ 10 ∷ []) ∷ [] | false ↦ (n ∷ l ∷ 10 ∷ []) ∷ [] ]
    ]

-- turns, room and top-level runs; a package's solvable is its number and 1000
abbrev try : Plan ℕ → ℕ → ℕ → List ℕ → Option Result
try P n room rs = explain P lines_of (λ p. 1000 + p) n (start rs) room

-- P9: the root needs deck (1), deck needs panel (2), panel needs deck
abbrev deck : Plan ℕ
deck = plan_of ([] ∷ (1 ∷ []) ∷ (2 ∷ []) ∷ []) ((1 ∷ []) ∷ (2 ∷ []) ∷ (1 ∷ []) ∷ []) []

deck_loops : try deck 9 100 (0 ∷ [])
    ≡ some (record {
      number = 11;
      place = 1001;
      bytes = 15;
      units = 5;
      depth = 2;
      text = 100 ∷ 1 ∷ 10 ∷ 1 ∷ 2 ∷ 10 ∷ 101 ∷ 3 ∷ 10 ∷ 2 ∷ 4 ∷ 10 ∷ 102 ∷ 5 ∷ 10 ∷ [];
    })
deck_loops = refl

-- the Rust's rules go on where the port stops
deck_goes_on : length (shows deck 20 (start (0 ∷ []))) ≡ 20
deck_goes_on = refl

-- and never finish, which B3 tells from the port's answer
deck_never : Finishes deck (start (0 ∷ [])) → ⊥
deck_never = loops_never deck 9 (start (0 ∷ [])) (came_start deck (0 ∷ [])) 1 refl

-- the line that opens panel does not fit, and gives no depth
deck_short : try deck 9 11 (0 ∷ []) ≡ some (record {
  number = 10;
  place = 3;
  bytes = 9;
  units = 3;
  depth = 1;
  text = 100 ∷ 1 ∷ 10 ∷ 1 ∷ 2 ∷ 10 ∷ 101 ∷ 3 ∷ 10 ∷ [];
})
deck_short = refl

-- P10: the root needs x (1), x needs a merged pair (2 and 3), each of the pair needs x
abbrev pair : Plan ℕ
pair = plan_of ([] ∷ (1 ∷ []) ∷ (2 ∷ []) ∷ (3 ∷ []) ∷ []) ((1 ∷ []) ∷ (2 ∷ []) ∷ (1 ∷ []) ∷ (1 ∷ []) ∷ []) (2 ∷ 3 ∷ [])

pair_ends : try pair 9 100 (0 ∷ [])
    ≡ some (record {
      number = 0;
      place = 0;
      bytes = 21;
      units = 7;
      depth = 3;
      text = 100 ∷ 1 ∷ 10 ∷ 1 ∷ 2 ∷ 10 ∷ 101 ∷ 3 ∷ 10 ∷ 2 ∷ 4 ∷ 10 ∷ 102 ∷ 5 ∷ 10 ∷ 1 ∷ 6 ∷ 10 ∷ 101 ∷ 7 ∷ 10 ∷ [];
    })
pair_ends = refl

-- eight turns of the Rust's rules do it, the last of which skips a package
pair_eighth : (after pair 8 (start (0 ∷ []))).stack ≡ []
pair_eighth = refl

-- P11: the root needs x, which has no edges of its own
leaf_ends : try (plan_of [] ((1 ∷ []) ∷ []) []) 9 100 (0 ∷ []) ≡ some (record {
  number = 0;
  place = 0;
  bytes = 6;
  units = 2;
  depth = 0;
  text = 100 ∷ 1 ∷ 10 ∷ 1 ∷ 2 ∷ 10 ∷ [];
})
leaf_ends = refl

-- 10 between two lines of one entry
three_lines : try (plan_of [] ((9 ∷ []) ∷ []) []) 9 9 (0 ∷ []) ≡ some (record {
  number = 10;
  place = 3;
  bytes = 8;
  units = 3;
  depth = 0;
  text = 100 ∷ 1 ∷ 10 ∷ 9 ∷ 2 ∷ 10 ∷ 3 ∷ 10 ∷ [];
})
three_lines = refl

-- no turns are left
too_few : try deck 3 100 (0 ∷ []) ≡ none
too_few = refl

-- two top-level runs: the second offers 4 and 3, and 3, which holds the last mark, is skipped: 4 doesn't take it
marks_stay : map (λ e. e.marks) (tell (plan_of [] ((2 ∷ []) ∷ (4 ∷ 3 ∷ []) ∷ []) (2 ∷ 3 ∷ [])) 9 (start (0 ∷ 1 ∷ []))).shown
    ≡ (false ∷ []) ∷ (true ∷ false ∷ []) ∷ (true ∷ []) ∷ (false ∷ true ∷ []) ∷ []
marks_stay = refl
