-- What the port's machine tells: one thing, the beginning of what the Rust's rules show, and on no branch more openings than the bound.
use Rattle.std.specs.Prelude.{◌≡◌, refl, Bool, false, List, [], ◌∷◌, ◌++◌, ℕ, zero, suc, ◌+◌, ◌≤◌}
use Rattle.std.proofs.Common.{sym, ap, append_assoc, zero-add, suc-add, arith}
use Rattle.std.proofs.Math.Path.{subst⁻¹}
use Rattle.basis.specs.Members.{In, All, all_append, split, clash}
use Rattle.machine.specs.Machine.{Plan, Op, requirement, candidate, Entry, entry, State, state, level, start, repeats, skipped, under, report, Stop}
use Rattle.machine.specs.Machine.{going, done, loops, stop_of, next, says, after, shows, Told, tell, openings}
use Rattle.machine.specs.Bound.{Counted, bound, most}
use Rattle.machine.specs.Keeps.{more, Fits, AllFit, fits_more, fits_start, fits_under, fits_kids, good_open}
use Rattle.machine.specs.Halts.{Halted, stop_loop}
use Rattle.machine.specs.Never.{by_stop, Came, going_on, done_empty, finishes, never}

module _ {R : Type 0} (P : Plan R) where
  -- ---- any number of turns at which it has stopped gives the same

  pub same : (n m : ℕ) (s : State R) → Halted (tell P n s).stop → Halted (tell P m s).stop → tell P n s ≡ tell P m s
  same zero zero s h k = refl
  same zero (suc m) s h k = by_stop (stop_of P s.stack) (λ q. absurd (rw q at h)) (λ q. rw (q, tell)) (λ j q. rw (q, tell))
  same (suc n) zero s h k = by_stop (stop_of P s.stack) (λ q. absurd (rw q at k)) (λ q. rw (q, tell)) (λ j q. rw (q, tell))
  same (suc n) (suc m) s h k =
      by_stop (stop_of P s.stack)
      (λ q. rw (q, tell) (ap (λ (t : Told R). record { shown = says P s ++ t.shown; stop = t.stop })
      (same n m (next P s) (rw (q, tell) at h) (rw (q, tell) at k))))
      (λ q. rw (q, tell))
      (λ j q. rw (q, tell))

  -- ---- done exactly where some number of turns of the Rust's rules empties the stack, 11 exactly where none does

  abbrev pub Finishes : State R → Type 0
  Finishes s = (m : ℕ) × ((after P m s).stack ≡ [])

  module _ (n : ℕ) (s : State R) where
    pub done_finishes : (tell P n s).stop ≡ done → Finishes s
    done_finishes e = (n, finishes P n s e)

    pub loops_never : All (Came P) s.stack → (p : ℕ) → (tell P n s).stop ≡ loops p → Finishes s → ⊥
    loops_never u p e f = never P n s p u e f.0 f.1

    pub finishes_done : All (Came P) s.stack → Halted (tell P n s).stop → Finishes s → (tell P n s).stop ≡ done
    finishes_done u h f = by_stop (tell P n s).stop (λ q. absurd (rw q at h)) (λ q. q) (λ p q. absurd (loops_never u p q f))

    pub never_loops : Halted (tell P n s).stop → (Finishes s → ⊥) → (p : ℕ) × ((tell P n s).stop ≡ loops p)
    never_loops h f = by_stop (tell P n s).stop (λ q. absurd (rw q at h)) (λ q. absurd (f (done_finishes q))) (λ p q. (p, q))

  -- ---- what is told is the beginning of what the Rust's rules show

  -- k turns of the Rust's rules show the same, and lead to where the port has stopped
  abbrev pub First : ℕ → State R → ℕ → Type 0
  First n s k = ((tell P n s).shown ≡ shows P k s) × ((tell P n s).stop ≡ stop_of P (after P k s).stack)

  pub first_lines : (n : ℕ) (s : State R) → (k : ℕ) × First n s k
  first_lines zero s = (0, (refl, refl))
  first_lines (suc n) s =
      by_stop (stop_of P s.stack)
      (λ q. let f = first_lines n (next P s) in (suc f.0, (rw (q, tell) (ap (λ (l : List (Entry R)). says P s ++ l) f.1.0), rw (q, tell) f.1.1)))
      (λ q. (0, (rw (q, tell), rw (q, tell))))
      (λ k q. (0, (rw (q, tell), rw (q, tell))))

  -- more turns show more behind it
  pub shows_more : (k j : ℕ) (s : State R) → shows P (k + j) s ≡ shows P k s ++ shows P j (after P k s)
  shows_more zero j s = rw zero-add
  shows_more (suc k) j s = rw suc-add (rw append_assoc (ap (λ (l : List (Entry R)). says P s ++ l) (shows_more k j (next P s))))

  shows_empty : (m : ℕ) (rep : List ℕ) → shows P m (state [] rep) ≡ []
  shows_empty zero rep = refl
  shows_empty (suc m) rep = shows_empty m rep

  none_left : (m : ℕ) (s : State R) → s.stack ≡ [] → shows P m s ≡ []
  none_left m s e = subst⁻¹ (λ (l : List (Entry R)). shows P m (state l s.reported) ≡ []) e (shows_empty m s.reported)

  -- and where it is done, all of it
  pub all_lines : (n m : ℕ) (s : State R) → (tell P n s).stop ≡ done → (after P m s).stack ≡ [] → (tell P n s).shown ≡ shows P m s
  all_lines zero m s e h = sym (none_left m s (done_empty P s.stack e))
  all_lines (suc n) m s e h =
      by_stop (stop_of P s.stack)
      (λ q. rw (q, tell) (by_turn q (λ k g. all_lines n k (next P s) (rw (q, tell) at e) g) m h))
      (λ q. rw (q, tell) (sym (none_left m s (done_empty P s.stack q))))
      (λ k q. let f : ◌≡◌ {A = Stop} (loops k) done = rw (q, tell) at e in clash cc)
    where
      by_turn : stop_of P s.stack ≡ going → ((k : ℕ) → (after P k (next P s)).stack ≡ [] → (tell P n (next P s)).shown ≡ shows P k (next P s))
          → (m : ℕ) → (after P m s).stack ≡ [] → says P s ++ (tell P n (next P s)).shown ≡ shows P m s
      by_turn q f zero h = absurd (going_on P s.stack q h)
      by_turn q f (suc m) h = ap (λ (l : List (Entry R)). says P s ++ l) (f m h)

  -- ---- no branch opens more than the bound

  module _ (G U : List ℕ) where
    pub open_within : (n : ℕ) (ms : List Bool) (b rep : List ℕ) → Fits P G U rep (entry (candidate n) ms b) → skipped P rep n ≡ false → repeats P b n ≡ false
        → openings P (entry (candidate n) ms b) ≤ most P G U
    open_within n ms b rep f sk re =
        split (P.opens n)
        (λ q. let h = bound P G U (n ∷ b) (good_open P rep b n f.known sk q re f.good) (f.own, f.count) in rw q (omega arith))
        (λ q. let h = bound P G U b f.good f.count in rw q (omega arith))

    module _ (counted : (r : R) (n : ℕ) → In n (P.kids r) → Counted P G U n) where
      -- a turn leaves entries that fit, and what it shows is within the bound
      abbrev pub Kept : List (Entry R) → List ℕ → Type 0
      Kept es rep = AllFit P G U (next P (state es rep)).reported (next P (state es rep)).stack × All (λ e. openings P e ≤ most P G U) (says P (state es rep))

      kept_entry : (o : Op R) (ms : List Bool) (b : List ℕ) (es : List (Entry R)) (rep : List ℕ) → stop_of P (entry o ms b ∷ es) ≡ going
          → AllFit P G U rep (entry o ms b ∷ es) → Kept (entry o ms b ∷ es) rep
      kept_entry (requirement r) ms b es rep g f = (
        all_append (Fits P G U rep) (level candidate ms b (P.kids r)) es (fits_kids P G U counted rep r ms b f.0) f.1,
        (let h = bound P G U b f.0.good f.0.count in omega arith, tt),
      )
      kept_entry (candidate n) ms b es rep g f =
          split (repeats P b n)
          (λ q. let h = stop_loop P n ms b es q in clash cc)
          (λ q. split (skipped P rep n)
          (λ s. rw s (f.1, tt))
          (λ s. rw s (
            all_append (Fits P G U (report P n rep)) (under P ms b n) es (fits_under P G U rep n ms b f.0 s q)
                (fits_more P G U rep (report P n rep) (more P n rep) es f.1),
            (open_within n ms b rep f.0 s q, tt),
          )))

      pub kept : (es : List (Entry R)) (rep : List ℕ) → stop_of P es ≡ going → AllFit P G U rep es → Kept es rep
      kept [] rep g f = clash cc
      kept (e ∷ es) rep g f = kept_entry e.op e.marks e.branch es rep g f

      pub within : (n : ℕ) (s : State R) → AllFit P G U s.reported s.stack → All (λ e. openings P e ≤ most P G U) (tell P n s).shown
      within zero s f = tt
      within (suc n) s f =
          by_stop (stop_of P s.stack)
          (λ q. let t = kept s.stack s.reported q f in
          rw (q, tell) (all_append (λ e. openings P e ≤ most P G U) (says P s) (tell P n (next P s)).shown t.1 (within n (next P s) t.0)))
          (λ q. rw (q, tell) tt)
          (λ k q. rw (q, tell) tt)

      -- B1: each entry that is shown
      pub within_bound : (n : ℕ) (rs : List R) → All (λ e. openings P e ≤ most P G U) (tell P n (start rs)).shown
      within_bound n rs = within n (start rs) (fits_start P G U rs)
