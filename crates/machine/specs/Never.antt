-- B3: where 11 is met no number of turns of the Rust's rules empties the stack, and where the port is done they finish with it.
use Rattle.std.specs.Prelude.{◌≡◌, refl, ◌⊎◌, Bool, true, false, List, [], ◌∷◌, ℕ, zero, suc}
use Rattle.std.proofs.Common.{sym, subst, inl, inr}
use Rattle.std.proofs.Math.Path.{subst⁻¹}
use Rattle.std.proofs.lemmas.Bool.{false≢true}
use Rattle.std.proofs.Math.Option.{Option, none, some}
use Rattle.basis.specs.Lists.{is_nil, take_while}
use Rattle.basis.specs.Members.{In, All, Any, all_append, any_left, any_right, split, either, clash, has_in}
use Rattle.machine.specs.Machine.{Plan, Op, requirement, candidate, Entry, entry, State, state, level, start, repeats, skipped, under, Stop, going, done}
use Rattle.machine.specs.Machine.{loops, stop_of, loop_of, next, after, tell}
use Rattle.machine.specs.Bound.{segment}
use Rattle.machine.specs.Keeps.{all_level}
use Rattle.machine.specs.Halts.{stop_on}

pub by_stop : {X : Type 0} (x : Stop) → (x ≡ going → X) → (x ≡ done → X) → ((k : ℕ) → x ≡ loops k → X) → X
by_stop going f g h = f refl
by_stop done f g h = g refl
by_stop (loops k) f g h = h k refl

module _ {R : Type 0} where
  any_level : {A : Type 0} (Q : Entry R → Type 0) (f : A → Op R) (ms : List Bool) (b : List ℕ) (xs : List A) (x : A)
      → ((ns : List Bool) → Q (entry (f x) ns b)) → In x xs → Any Q (level f ms b xs)
  any_level Q f ms b [] x h i = absurd i
  any_level Q f ms b (y ∷ ys) x h (inl e) = inl (subst (λ (z : _). Q (entry (f z) (is_nil ys ∷ ms) b)) e (h (is_nil ys ∷ ms)))
  any_level Q f ms b (y ∷ ys) x h (inr i) = inr (any_level Q f ms b ys x h i)

module _ {R : Type 0} (P : Plan R) where
  -- ---- how an entry came to stand where it does

  -- m offers n in one of its runs
  abbrev pub Child : ℕ → ℕ → Type 0
  Child m n = (r : R) × In r (P.runs m) × In n (P.kids r)

  -- each package of the branch opens, and the one below it is its child
  abbrev pub Up : ℕ → List ℕ → Type 0
  Up n [] = Unit {0}
  Up n (m ∷ b) = (P.opens m ≡ true) × Child m n × Up m b

  abbrev pub UpRun : R → List ℕ → Type 0
  UpRun r [] = Unit {0}
  UpRun r (m ∷ b) = (P.opens m ≡ true) × In r (P.runs m) × Up m b

  abbrev pub UpOp : Op R → List ℕ → Type 0
  UpOp (requirement r) b = UpRun r b
  UpOp (candidate n) b = Up n b

  abbrev pub Came : Entry R → Type 0
  Came e = UpOp e.op e.branch

  up_kid : (r : R) (b : List ℕ) (n : ℕ) → UpRun r b → In n (P.kids r) → Up n b
  up_kid r [] n u i = tt
  up_kid r (m ∷ b) n u i = (u.0, (r, u.1, i), u.2)

  came_under : (n : ℕ) (ms : List Bool) (b : List ℕ) → Up n b → All Came (under P ms b n)
  came_under n ms b u =
      split (P.opens n) (λ q. rw q (all_level Came requirement ms (n ∷ b) (P.runs n) (λ r ns i. (q, i, u)))) (λ q. rw q tt)

  came_next : (o : Op R) (ms : List Bool) (b : List ℕ) (es : List (Entry R)) (rep : List ℕ) → UpOp o b → All Came es
      → All Came (next P (state (entry o ms b ∷ es) rep)).stack
  came_next (requirement r) ms b es rep u us =
      all_append Came (level candidate ms b (P.kids r)) es (all_level Came candidate ms b (P.kids r) (λ n ns i. up_kid r b n u i)) us
  came_next (candidate n) ms b es rep u us =
      split (skipped P rep n) (λ q. rw q us) (λ q. rw q (all_append Came (under P ms b n) es (came_under n ms b u) us))

  pub came_turn : (es : List (Entry R)) (rep : List ℕ) → All Came es → All Came (next P (state es rep)).stack
  came_turn [] rep u = tt
  came_turn (x ∷ es) rep u = came_next x.op x.marks x.branch es rep u.0 u.1

  pub came_start : (rs : List R) → All Came (start rs).stack
  came_start rs = all_level Came requirement [] [] rs (λ x ns i. tt)

  -- ---- a set of unmerged packages, each of which opens and offers another of the set

  -- q leads on to one of C, or to x
  abbrev Onward : List ℕ → ℕ → ℕ → Type 0
  Onward C x q = (P.merged q ≡ false) × (P.opens q ≡ true) × ((q' : ℕ) × Child q q' × ((q' ≡ x) ⊎ In q' C))

  onward_cast : (C : List ℕ) (x p q : ℕ) → p ≡ q → Onward C x q → Onward C x p
  onward_cast C x p q e h = rw e h

  onward_more : (C : List ℕ) (x m q : ℕ) → Onward C m q → Onward (m ∷ C) x q
  onward_more C x m q h = (h.0, h.1, (h.2.0, h.2.1, inr h.2.2))

  -- the packages of the branch from p down to x's parent
  abbrev Loop : ℕ → ℕ → Type 0
  Loop x p = (C : List ℕ) × In p C × ((q : ℕ) → In q C → Onward C x q)

  upwards : (x p : ℕ) (b : List ℕ) → Up x b → In p (segment P b) → Loop x p
  upwards x p [] u i = absurd i
  upwards x p (m ∷ b) u i =
      split (P.merged m) (λ q. absurd (rw (q, take_while) at i)) (λ q. either (rw (q, take_while) at i) (here q) (λ j. there q (upwards m p b u.2 j)))
    where
      self : P.merged m ≡ false → (C : List ℕ) → Onward C x m
      self q C = (q, u.0, (x, u.1, inl refl))

      here : P.merged m ≡ false → p ≡ m → Loop x p
      here q e = (m ∷ [], inl e, λ k i'. either i' (λ f. onward_cast (m ∷ []) x k m f (self q (m ∷ []))) (λ z. absurd z))

      there : P.merged m ≡ false → Loop m p → Loop x p
      there q l =
          (m ∷ l.0, inr l.1, λ k i'. either i' (λ f. onward_cast (m ∷ l.0) x k m f (self q (m ∷ l.0))) (λ j. onward_more l.0 x m k (l.2 k j)))

  abbrev pub Closed : List ℕ → Type 0
  Closed C = (q : ℕ) → In q C → (P.merged q ≡ false) × (P.opens q ≡ true) × ((q' : ℕ) × Child q q' × In q' C)

  closed : (p : ℕ) (l : Loop p p) → Closed l.0
  closed p l q i =
      let o = l.2 q i in
      (o.0, o.1, (o.2.0, o.2.1, either o.2.2 (λ e. subst (λ (z : ℕ). In z l.0) (sym e) l.1) (λ j. j)))

  -- ---- while one of the set stands on the stack, or a run that offers one, each turn leaves such an entry

  module _ (C : List ℕ) (closes : Closed C) where
    abbrev LiveOp : Op R → Type 0
    LiveOp (requirement r) = (q : ℕ) × In q (P.kids r) × In q C
    LiveOp (candidate q) = In q C

    abbrev Live : Entry R → Type 0
    Live e = LiveOp e.op

    live_next : (o : Op R) (ms : List Bool) (b : List ℕ) (es : List (Entry R)) (rep : List ℕ) → LiveOp o ⊎ Any Live es
        → Any Live (next P (state (entry o ms b ∷ es) rep)).stack
    live_next (requirement r) ms b es rep (inl a) =
        any_left Live (level candidate ms b (P.kids r)) es (any_level Live candidate ms b (P.kids r) a.0 (λ ns. a.2) a.1)
    live_next (requirement r) ms b es rep (inr a) = any_right Live (level candidate ms b (P.kids r)) es a
    live_next (candidate n) ms b es rep (inl a) =
        let c = closes n a in
        let k = c.2.1 in
        rw (c.0, c.1)
        (any_left Live (level requirement ms (n ∷ b) (P.runs n)) es
        (any_level Live requirement ms (n ∷ b) (P.runs n) k.0 (λ ns. (c.2.0, k.2, c.2.2)) k.1))
    live_next (candidate n) ms b es rep (inr a) = split (skipped P rep n) (λ q. rw q a) (λ q. rw q (any_right Live (under P ms b n) es a))

    live_turn : (es : List (Entry R)) (rep : List ℕ) → Any Live es → Any Live (next P (state es rep)).stack
    live_turn [] rep a = absurd a
    live_turn (e ∷ es) rep a = live_next e.op e.marks e.branch es rep a

    never_empty : (m : ℕ) (s : State R) → Any Live s.stack → (after P m s).stack ≡ [] → ⊥
    never_empty zero s a e = rw e at a
    never_empty (suc m) s a e = never_empty m (next P s) (live_turn s.stack s.reported a) e

  -- ---- where 11 is met such a set has an entry on top

  repeats_below : (b : List ℕ) (n : ℕ) → repeats P b n ≡ true → In n (segment P b)
  repeats_below b n e =
      split (P.merged n)
      (λ q. absurd (false≢true (rw q at e)))
      (λ q. split (P.opens n) (λ o. has_in n (segment P b) (rw (q, o) at e)) (λ o. absurd (false≢true (rw (q, o) at e))))

  looped : (o : Op R) (ms : List Bool) (b : List ℕ) (es : List (Entry R)) (p : ℕ) → UpOp o b → stop_of P (entry o ms b ∷ es) ≡ loops p
      → (C : List ℕ) × (c : Closed C) × Any (Live C c) (entry o ms b ∷ es)
  looped (requirement r) ms b es p u e = clash cc
  looped (candidate n) ms b es p u e =
      split (repeats P b n)
      (λ q. let l = upwards n n b u (repeats_below b n q) in (l.0, closed n l, inl l.1))
      (λ q. let f = stop_on P n ms b es q in clash cc)

  now_looped : (es : List (Entry R)) (rep : List ℕ) (p : ℕ) → All Came es → stop_of P es ≡ loops p → (m : ℕ) → (after P m (state es rep)).stack ≡ [] → ⊥
  now_looped [] rep p u e m h = clash cc
  now_looped (x ∷ es) rep p u e m h =
      let l = looped x.op x.marks x.branch es p u.0 e in
      never_empty l.0 l.1 m (state (x ∷ es) rep) l.2 h

  -- ---- the two halves

  pub going_on : (es : List (Entry R)) → stop_of P es ≡ going → es ≡ [] → ⊥
  going_on es e q = let f : stop_of P [] ≡ going = rw q at e in clash cc

  pub never : (n : ℕ) (s : State R) (p : ℕ) → All Came s.stack → (tell P n s).stop ≡ loops p → (m : ℕ) → (after P m s).stack ≡ [] → ⊥
  never zero s p u e m h = now_looped s.stack s.reported p u e m h
  never (suc n) s p u e m h =
      by_stop (stop_of P s.stack)
      (λ q. go q (never n (next P s) p (came_turn s.stack s.reported u) (rw (q, tell) at e)) m h)
      (λ q. let f : ◌≡◌ {A = Stop} done (loops p) = rw (q, tell) at e in clash cc)
      (λ k q. now_looped s.stack s.reported k u q m h)
    where
      go : stop_of P s.stack ≡ going → ((m : ℕ) → (after P m (next P s)).stack ≡ [] → ⊥) → (m : ℕ) → (after P m s).stack ≡ [] → ⊥
      go q f zero h = going_on s.stack q h
      go q f (suc m) h = f m h

  after_empty : (n : ℕ) (rep : List ℕ) → (after P n (state [] rep)).stack ≡ []
  after_empty zero rep = refl
  after_empty (suc n) rep = after_empty n rep

  pub done_empty : (es : List (Entry R)) → stop_of P es ≡ done → es ≡ []
  done_empty [] e = refl
  done_empty (x ∷ es) e = go (loop_of P (x ∷ es)) refl
    where
      go : (o : Option ℕ) → loop_of P (x ∷ es) ≡ o → x ∷ es ≡ []
      go none q = let f : ◌≡◌ {A = Stop} going done = rw (q, stop_of) at e in clash cc
      go (some k) q = let f : ◌≡◌ {A = Stop} (loops k) done = rw (q, stop_of) at e in clash cc

  pub finishes : (n : ℕ) (s : State R) → (tell P n s).stop ≡ done → (after P n s).stack ≡ []
  finishes zero s e = done_empty s.stack e
  finishes (suc n) s e =
      by_stop (stop_of P s.stack)
      (λ q. finishes n (next P s) (rw (q, tell) at e))
      (λ q. subst⁻¹ (λ (l : List (Entry R)). (after P (suc n) (state l s.reported)).stack ≡ []) (done_empty s.stack q) (after_empty (suc n) s.reported))
      (λ k q. let f : ◌≡◌ {A = Stop} (loops k) done = rw (q, tell) at e in clash cc)
