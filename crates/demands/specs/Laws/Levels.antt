-- Openings can be read off the text: a line's levels are twice the number of packages opened above it, plus one for a run's line, two for a
-- package's, three for one under "would constrain"; and a line's levels stand in its bytes.
use Rattle.std.specs.Prelude.{◌≡◌, refl, Bool, List, [], ◌∷◌, ℕ, zero, suc, ◌+◌, ◌*◌, length}
use Rattle.std.proofs.Common.{arith}
use Rattle.basis.specs.Members.{All, all_append, split}
use Rattle.machine.specs.Machine.{Plan, Op, requirement, candidate, Entry, entry, State, level, start, pushes, skips, next, next_of, says, says_of, shows}

-- ---- the machine

module _ {R : Type 0} where
  -- one level for a run, two for a package
  abbrev pub own_of : Op R → ℕ
  own_of (requirement r) = 1
  own_of (candidate n) = 2

  -- two levels for each package opened above, and the entry's own
  abbrev pub Levelled : Entry R → Type 0
  Levelled e = length e.marks ≡ 2 * length e.branch + own_of e.op

  level_all : {A : Type 0} (f : A → Op R) (ms : List Bool) (b : List ℕ) (xs : List A) → ((x : A) → suc (length ms) ≡ 2 * length b + own_of (f x))
      → All Levelled (level f ms b xs)
  level_all f ms b [] h = tt
  level_all f ms b (x ∷ xs) h = (h x, level_all f ms b xs h)

  pub start_levelled : (rs : List R) → All Levelled (start rs).stack
  start_levelled rs = level_all requirement [] [] rs (λ x. refl)

module _ {R : Type 0} (P : Plan R) where
  pushes_levelled : (o : Op R) (ms : List Bool) (b : List ℕ) → Levelled (entry o ms b) → All (Levelled {R = R}) (pushes P (entry o ms b))
  pushes_levelled (requirement r) ms b h = level_all candidate ms b (P.kids r) (λ x. omega arith)
  pushes_levelled (candidate n) ms b h =
      split (P.opens n)
      (λ q. rw q (level_all requirement ms (n ∷ b) (P.runs n) (λ x. omega arith)))
      (λ q. rw q tt)

  next_levelled : (es : List (Entry R)) (rep : List ℕ) → All Levelled es → All Levelled (next_of P es rep).stack
  next_levelled [] rep a = tt
  next_levelled (e ∷ es) rep a =
      split (skips P rep e)
      (λ q. rw q a.1)
      (λ q. rw q (all_append Levelled (pushes P e) es (pushes_levelled e.op e.marks e.branch a.0) a.1))

  says_levelled : (es : List (Entry R)) (rep : List ℕ) → All Levelled es → All Levelled (says_of P es rep)
  says_levelled [] rep a = tt
  says_levelled (e ∷ es) rep a = split (skips P rep e) (λ q. rw q tt) (λ q. rw q (a.0, tt))

  -- every entry whose lines are written
  pub shows_levelled : (n : ℕ) (s : State R) → All Levelled s.stack → All Levelled (shows P n s)
  shows_levelled zero s a = tt
  shows_levelled (suc n) s a =
      all_append Levelled (says P s) (shows P n (next P s)) (says_levelled s.stack s.reported a)
      (shows_levelled n (next P s) (next_levelled s.stack s.reported a))
