-- B2: the port's machine stops for every plan whose kids are counted.
use Rattle.std.specs.Prelude.{◌≡◌, refl, Bool, true, false, List, [], ◌∷◌, ◌++◌, ℕ, zero, suc, ◌+◌, ◌*◌, ◌-◌, ◌≤◌, length}
use Rattle.std.proofs.Common.{append-nil, arith}
use Rattle.basis.specs.Members.{In, All, split}
use Rattle.machine.specs.Machine.{Plan, Op, requirement, candidate, Entry, entry, state, level, start, repeats, skipped, under, report, Stop, going, done}
use Rattle.machine.specs.Machine.{loops, stop_of, next, tell}
use Rattle.machine.specs.Bound.{Good, Counted, bound, most}
use Rattle.machine.specs.Keeps.{Sub, all_level, more, Fits, AllFit, fits_more, fits_start, fits_under, fits_kids, good_open}

-- it has stopped, in one way or the other
abbrev pub Halted : Stop → Type 0
Halted going = ⊥
Halted done = Unit {0}
Halted (loops n) = Unit {0}

module _ {R : Type 0} (P : Plan R) where
  abbrev pub Halts : List (Entry R) → List ℕ → Type 0
  Halts es rep = (n : ℕ) × Halted (tell P n (state es rep)).stop

  -- ---- one turn

  pub stop_on : (n : ℕ) (ms : List Bool) (b : List ℕ) (es : List (Entry R)) → repeats P b n ≡ false → stop_of P (entry (candidate n) ms b ∷ es) ≡ going
  stop_on n ms b es q = rw (q, stop_of)

  pub stop_loop : (n : ℕ) (ms : List Bool) (b : List ℕ) (es : List (Entry R)) → repeats P b n ≡ true → stop_of P (entry (candidate n) ms b ∷ es) ≡ loops n
  stop_loop n ms b es q = rw (q, stop_of)

  turn : (es : List (Entry R)) (rep : List ℕ) → stop_of P es ≡ going → Halts (next P (state es rep)).stack (next P (state es rep)).reported → Halts es rep
  turn es rep e h = (suc h.0, rw (e, tell) h.1)

  module _ (n : ℕ) (ms : List Bool) (b : List ℕ) (es : List (Entry R)) (rep : List ℕ) where
    at_loop : repeats P b n ≡ true → Halts (entry (candidate n) ms b ∷ es) rep
    at_loop q = (0, rw (stop_loop n ms b es q) tt)

    at_skip : repeats P b n ≡ false → skipped P rep n ≡ true → Halts es rep → Halts (entry (candidate n) ms b ∷ es) rep
    at_skip q s h = turn (entry (candidate n) ms b ∷ es) rep (stop_on n ms b es q) (rw s h)

    at_kid : repeats P b n ≡ false → skipped P rep n ≡ false → Halts (under P ms b n ++ es) (report P n rep) → Halts (entry (candidate n) ms b ∷ es) rep
    at_kid q s h = turn (entry (candidate n) ms b ∷ es) rep (stop_on n ms b es q) (rw s h)

  module _ (G U : List ℕ) (counted : (r : R) (n : ℕ) → In n (P.kids r) → Counted P G U n) where
    -- how far down an entry can still lead: two levels for each package that may still be opened
    abbrev left : Op R → ℕ → ℕ
    left (requirement r) d = 2 + 2 * (most P G U - d)
    left (candidate n) d = 1 + 2 * (most P G U - d)

    abbrev Within : ℕ → Entry R → Type 0
    Within k e = left e.op (length e.branch) ≤ k

    -- it halts from `rest`, whatever was reported on the way there
    abbrev Later : List (Entry R) → List ℕ → Type 0
    Later rest rep = (rep' : List ℕ) → Sub rep rep' → Halts rest rep'

    -- entries within k come to an end, if what stands below them on the stack does
    abbrev Goes : ℕ → List (Entry R) → Type 0
    Goes k es = (rest : List (Entry R)) (rep : List ℕ) → All (Within k) es → AllFit P G U rep es → Later rest rep → Halts (es ++ rest) rep

    later : (k : ℕ) (es rest : List (Entry R)) (rep : List ℕ) → Goes k es → All (Within k) es → AllFit P G U rep es → Later rest rep → Later (es ++ rest) rep
    later k es rest rep on sz ft end rep' s =
        on rest rep' sz (fits_more P G U rep rep' s es ft) (λ rep'' s'. end rep'' (λ x i. s' x (s x i)))

    -- a step down: what stands one level deeper is smaller
    module _ (k : ℕ) (ih : (es : List (Entry R)) → Goes k es) (ms : List Bool) (b : List ℕ) where
      goes_under : (n : ℕ) (rest : List (Entry R)) (rep : List ℕ) → Within (suc k) (entry (candidate n) ms b) → Fits P G U rep (entry (candidate n) ms b)
          → skipped P rep n ≡ false → repeats P b n ≡ false → Later rest rep → Halts (under P ms b n ++ rest) (report P n rep)
      goes_under n rest rep sz ft sk re end =
          split (P.opens n)
          (λ q.
          let g : Good P (n ∷ b) = good_open P rep b n ft.known sk q re ft.good in
          let d : suc (length b) ≤ most P G U = bound P G U (n ∷ b) g (ft.own, ft.count) in
          rw q (ih (level requirement ms (n ∷ b) (P.runs n)) rest (report P n rep)
          (all_level (Within k) requirement ms (n ∷ b) (P.runs n) (λ x ns i. omega arith)) (rw q at (fits_under P G U rep n ms b ft sk re))
          (λ rep' s. end rep' (λ x i. s x (more P n rep x i)))))
          (λ q. rw q (end (report P n rep) (more P n rep)))

      goes_candidate : (n : ℕ) (es : List (Entry R)) → Goes (suc k) es → Goes (suc k) (entry (candidate n) ms b ∷ es)
      goes_candidate n es on rest rep sz ft end =
          let tl = later (suc k) es rest rep on sz.1 ft.1 end in
          split (repeats P b n)
          (λ q. at_loop n ms b (es ++ rest) rep q)
          (λ q. split (skipped P rep n)
          (λ s. at_skip n ms b (es ++ rest) rep q s (tl rep (λ x i. i)))
          (λ s. at_kid n ms b (es ++ rest) rep q s (goes_under n (es ++ rest) rep sz.0 ft.0 s q tl)))

      goes_requirement : (r : R) (es : List (Entry R)) → Goes (suc k) es → Goes (suc k) (entry (requirement r) ms b ∷ es)
      goes_requirement r es on rest rep sz ft end =
          turn (entry (requirement r) ms b ∷ es ++ rest) rep refl
          (ih (level candidate ms b (P.kids r)) (es ++ rest) rep
          (all_level (Within k) candidate ms b (P.kids r) (λ x ns i. let h = sz.0 in omega arith))
          (fits_kids P G U counted rep r ms b ft.0)
          (later (suc k) es rest rep on sz.1 ft.1 end))

      goes_entry : (o : Op R) (es : List (Entry R)) → Goes (suc k) es → Goes (suc k) (entry o ms b ∷ es)
      goes_entry (requirement r) = goes_requirement r
      goes_entry (candidate n) = goes_candidate n

    goes_all : (k : ℕ) → ((es : List (Entry R)) → Goes k es) → (es : List (Entry R)) → Goes (suc k) es
    goes_all k ih [] = λ rest rep sz ft end. end rep (λ x i. i)
    goes_all k ih (e ∷ es) = goes_entry k ih e.marks e.branch e.op es (goes_all k ih es)

    none_within : (o : Op R) (d : ℕ) → left o d ≤ 0 → ⊥
    none_within (requirement r) d h = omega arith
    none_within (candidate n) d h = omega arith

    goes : (k : ℕ) (es : List (Entry R)) → Goes k es
    goes zero [] = λ rest rep sz ft end. end rep (λ x i. i)
    goes zero (e ∷ es) = λ rest rep sz ft end. absurd (none_within e.op (length e.branch) sz.0)
    goes (suc k) es = goes_all k (λ fs. goes k fs) es

    -- after some number of turns the machine has stopped
    pub halts : (rs : List R) → (n : ℕ) × Halted (tell P n (start rs)).stop
    halts rs =
        rw (append-nil (start rs).stack) at
        (goes (2 + 2 * most P G U) (start rs).stack [] []
        (all_level (Within (2 + 2 * most P G U)) requirement [] [] rs (λ x ns i. omega arith))
        (fits_start P G U rs)
        (λ rep s. (0, tt)))
