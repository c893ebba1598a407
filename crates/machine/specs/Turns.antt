-- For a loop that walks the machine: the turns taken so far, what they show, and what follows from where they lead.
use Rattle.std.specs.Prelude.{◌≡◌, refl, List, [], ◌++◌, ℕ, zero, suc, ◌+◌}
use Rattle.std.proofs.Common.{sym, ap, ◌∙◌, append-nil, append_assoc, zero-add, suc-add, add-suc, add_comm}
use Rattle.basis.specs.Members.{In}
use Rattle.machine.specs.Machine.{Plan, Entry, State, Stop, going, stop_of, next, says, Told, tell}
use Rattle.machine.specs.Bound.{Counted}
use Rattle.machine.specs.Keeps.{AllFit}
use Rattle.machine.specs.Halts.{Halted}
use Rattle.machine.specs.Never.{by_stop}
use Rattle.machine.specs.Told.{kept}

-- some turns from s, each of which goes on
pub data Turns {R : Type 0} (P : Plan R) (s : State R) : List (Entry R) → State R → Type 0 where
  stay : Turns P s [] s
  turn : (es : List (Entry R)) (s' : State R) → Turns P s es s' → stop_of P s'.stack ≡ going → Turns P s (es ++ says P s') (next P s')

-- as `tell` sees them: es is shown first, and the rest is told from s'
pub record Reaches {R : Type 0} (P : Plan R) (s : State R) (es : List (Entry R)) (s' : State R) : Type 0 where
  pub turns : ℕ
  pub rest : (n : ℕ) → tell P (turns + n) s ≡ record { shown = es ++ (tell P n s').shown; stop = (tell P n s').stop }

module _ {R : Type 0} (P : Plan R) where
  pub turn_one : (s : State R) → stop_of P s.stack ≡ going → Turns P s (says P s) (next P s)
  turn_one s g = turn [] s stay g

  pub turns_then : (s s' s'' : State R) (es fs : List (Entry R)) → Turns P s es s' → Turns P s' fs s'' → Turns P s (es ++ fs) s''
  turns_then s s' s'' es fs r stay = rw append-nil r
  turns_then s s' s'' es fs r (turn gs u q g) = rw (← append_assoc) (turn (es ++ gs) u (turns_then s s' u es gs r q) g)

  pub turns_reach : (s s' : State R) (es : List (Entry R)) → Turns P s es s' → Reaches P s es s'
  turns_reach s s' es stay = record { turns = 0; rest = λ n. ap (λ (k : ℕ). tell P k s) (zero-add n) }
  turns_reach s s' es (turn gs u q g) =
      let r = turns_reach s u gs q in
      record {
        turns = suc r.turns;
        rest = λ n. ap (λ (k : ℕ). tell P k s) (suc-add r.turns n ∙ sym (add-suc r.turns n)) ∙ r.rest (suc n) ∙ rw (g, tell, append_assoc);
      }

  -- where the turns lead to a stop, what they show is all that is told
  pub turns_stop : (s s' : State R) (es : List (Entry R)) (x : Stop) → Turns P s es s' → stop_of P s'.stack ≡ x
      → (n : ℕ) × (tell P n s ≡ record { shown = es; stop = x })
  turns_stop s s' es x r q = let f = turns_reach s s' es r in (f.turns + 0, f.rest 0 ∙ rw (append-nil, q))

  stays : (n k : ℕ) (s : State R) → Halted (tell P n s).stop → tell P (n + k) s ≡ tell P n s
  stays zero zero s h = refl
  stays zero (suc k) s h = rw zero-add (by_stop (stop_of P s.stack) (λ q. absurd (rw q at h)) (λ q. rw (q, tell)) (λ j q. rw (q, tell)))
  stays (suc n) k s h =
      rw suc-add
      (by_stop (stop_of P s.stack)
      (λ q. rw (q, tell) (ap (λ (t : Told R). record { shown = says P s ++ t.shown; stop = t.stop }) (stays n k (next P s) (rw (q, tell) at h))))
      (λ q. rw (q, tell))
      (λ j q. rw (q, tell)))

  -- what was shown so far is the beginning of all that is told
  pub turns_begin : (s s' : State R) (es : List (Entry R)) → Turns P s es s' → (n : ℕ) → Halted (tell P n s).stop
      → (t : Told R) × (tell P n s ≡ record { shown = es ++ t.shown; stop = t.stop })
  turns_begin s s' es r n h =
      let f = turns_reach s s' es r in
      (tell P n s', sym (stays n f.turns s h) ∙ ap (λ (k : ℕ). tell P k s) (add_comm n f.turns) ∙ f.rest n)

  -- B1's invariant is kept
  module _ (G U : List ℕ) (counted : (r : R) (n : ℕ) → In n (P.kids r) → Counted P G U n) where
    pub turns_fit : (s s' : State R) (es : List (Entry R)) → Turns P s es s' → AllFit P G U s.reported s.stack → AllFit P G U s'.reported s'.stack
    turns_fit s s' es stay f = f
    turns_fit s s' es (turn gs u q g) f = (kept P G U counted u.stack u.reported g (turns_fit s u gs q f)).0
