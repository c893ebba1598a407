-- "Inside it 11 can never come" (document 02, order 9). A package below itself on a branch closes a cycle: each package of a branch offers
-- the one below it in one of its runs, and what a run offers are targets of its owner's edges.
use Rattle.std.specs.Prelude.{◌≡◌, refl, ◌⊎◌, Bool, true, cond, not, ℕ, zero, suc, eqb}
use Rattle.std.proofs.Common.{inl, inr}
use Rattle.std.proofs.lemmas.Bool.{false≢true}
use mathlib.Core.List.{List, [], ◌∷◌, ◌++◌, reverse, reverse_aux}
use Rattle.basis.specs.Lists.{filter, has, take_while}
use Rattle.basis.specs.Members.{In, All, split, either, clash, has_in, in_append, in_reverse, in_filter, map_in}
use Rattle.store.specs.declared.ConflictEdge.{ConflictEdge}
use Rattle.store.specs.declared.ConflictEdge.TheVariants as W
use Rattle.store.specs.declared.Edge.{Edge}
use Rattle.store.specs.Graph.{out, node_at, is_solvable}
use Rattle.labels.specs.Runs.{Run, add_to, runs_of}
use Rattle.labels.specs.Labels.{targets}
use Rattle.labels.specs.Ordered.{Leads, edge, onto, Acyclic}
use Rattle.machine.specs.Machine.{Plan, Op, requirement, candidate, Entry, entry, State, start, repeats, loops, stop_of, next, after}
use Rattle.machine.specs.Bound.{segment}
use Rattle.machine.specs.Halts.{stop_on}
use Rattle.machine.specs.Never.{Child, Up, UpOp, Came, came_start, came_turn}
use Rattle.plan.specs.Plan.{Shown, merged_shown, group_of, is_installable, run_installable, no_candidates, offered, dedup, kids_of, sorted, popped, plan_of}
use Rattle.machine.specs.Laws.Silent.{Silent}

-- ---- any plan: 11 closes a cycle

module _ {R : Type 0} (P : Plan R) where
  came_after : (k : ℕ) (s : State R) → All (Came P) s.stack → All (Came P) (after P k s).stack
  came_after zero s u = u
  came_after (suc k) s u = came_after k (next P s) (came_turn P s.stack s.reported u)

  in_segment : (n : ℕ) (b : List ℕ) → In n (segment P b) → In n b
  in_segment n [] i = absurd i
  in_segment n (m ∷ b) i =
      split (P.merged m)
      (λ q. absurd (rw (q, take_while) at i))
      (λ q. either (rw (q, take_while) at i) (λ e. inl e) (λ j. inr (in_segment n b j)))

  repeats_in : (b : List ℕ) (n : ℕ) → repeats P b n ≡ true → In n b
  repeats_in b n e =
      split (P.merged n)
      (λ q. absurd (false≢true (rw q at e)))
      (λ q. split (P.opens n) (λ o. in_segment n b (has_in n (segment P b) (rw (q, o) at e))) (λ o. absurd (false≢true (rw (q, o) at e))))

  module _ (to : ℕ → List ℕ) (child : (m n : ℕ) → Child P m n → In n (to m)) where
    up_leads : (n m : ℕ) (b : List ℕ) → Up P n b → In m b → Leads to m n
    up_leads n m [] u i = absurd i
    up_leads n m (x ∷ b) u i = either i (λ e. rw e (edge (child x n u.1))) (λ j. onto (up_leads x m b u.2 j) (child x n u.1))

    stop_leads : (o : Op R) (ms : List Bool) (b : List ℕ) (es : List (Entry R)) (p : ℕ) → UpOp P o b → stop_of P (entry o ms b ∷ es) ≡ loops p
        → (n : ℕ) × Leads to n n
    stop_leads (requirement r) ms b es p u e = clash cc
    stop_leads (candidate n) ms b es p u e =
        split (repeats P b n) (λ q. (n, up_leads n n b u (repeats_in b n q))) (λ q. let f = stop_on P n ms b es q in clash cc)

    stack_leads : (es : List (Entry R)) (p : ℕ) → All (Came P) es → stop_of P es ≡ loops p → (n : ℕ) × Leads to n n
    stack_leads [] p u e = clash cc
    stack_leads (x ∷ es) p u e = stop_leads x.op x.marks x.branch es p u.0 e

    pub acyclic_silent : Acyclic to → (rs : List R) → Silent P rs
    acyclic_silent a rs k p e = let l = stack_leads (after P k (start rs)).stack p (came_after k (start rs) (came_start P rs)) e in a l.0 l.1

-- ---- the plan of a graph: what a package offers is a target of one of its edges

module _ {A : Type 0} where
  back : (x : A) (l acc : List A) → In x l ⊎ In x acc → In x (reverse_aux l acc)
  back x [] acc i = either i (λ z. absurd z) (λ j. j)
  back x (y ∷ l) acc i = back x l (y ∷ acc) (either i (λ j. either j (λ e. inr (inl e)) (λ k. inl k)) (λ j. inr (inr j)))

  reverse_in : (x : A) (l : List A) → In x l → In x (reverse l)
  reverse_in x l i = back x l [] (inl i)

in_add : (q t n : ℕ) (rs : List Run) (r : Run) → In r (add_to q t rs) → In n r.to → (n ≡ t) ⊎ ((s : Run) × In s rs × In n s.to)
in_add q t n [] r (inl e) j = either (rw e at j) (λ f. inl f) (λ z. absurd z)
in_add q t n [] r (inr i) j = absurd i
in_add q t n (s ∷ rs) r i j =
    split (eqb q s.req)
    (λ b. either (rw (b, add_to) at i) (λ e. either (rw e at j) (λ f. inl f) (λ k. inr (s, inl refl, k))) (λ k. inr (r, inr k, j)))
    (λ b. either (rw (b, add_to) at i) (λ e. either (rw e at j) (λ f. inl f) (λ z. absurd z)) (λ k. inr (r, k, j)))

in_runs : (es : List Edge) (r : Run) (n : ℕ) → In r (runs_of es) → In n r.to → (x : Edge) × In x es × (n ≡ x.target)
in_runs [] r n i j = absurd i
in_runs (e ∷ es) r n i j = by e.weight refl (in_runs es)
  where
    by : (w : ConflictEdge) → e.weight ≡ w → ((r : Run) (n : ℕ) → In r (runs_of es) → In n r.to → (x : Edge) × In x es × (n ≡ x.target))
        → (x : Edge) × In x (e ∷ es) × (n ≡ x.target)
    by (W.Requires q) h ih =
        either (in_add q e.target n (runs_of es) r (rw (h, runs_of) at i) j)
        (λ f. (e, inl refl, f))
        (λ s. let x = ih s.0 n s.1 s.2 in (x.0, inr x.1, x.2))
    by (W.Conflict c) h ih = let x = ih r n (rw (h, runs_of) at i) j in (x.0, inr x.1, x.2)

module _ (S : Shown) where
  in_dedup : (ns seen : List ℕ) (n : ℕ) → In n (dedup S ns seen) → In n ns
  in_dedup [] seen n i = i
  in_dedup (m ∷ ns) seen n i =
      split (has m seen)
      (λ t. inr (in_dedup ns seen n (rw (t, dedup) at i)))
      (λ t. either (rw (t, dedup) at i) (λ e. inl e) (λ j. inr (in_dedup ns (cond (merged_shown S m) (group_of S m ++ seen) seen) n j)))

  in_offered : (r : Run) (n : ℕ) → In n (offered S r) → In n r.to
  in_offered r n i =
      let j = (in_filter (λ n. is_solvable (node_at S.graph n)) n (cond (run_installable S r) (filter (is_installable S) r.to) r.to) i).1 in
      split (run_installable S r) (λ q. (in_filter (is_installable S) n r.to (rw q at j)).1) (λ q. rw q at j)

  in_kids : (r : Run) (n : ℕ) → In n (kids_of S r) → In n r.to
  in_kids r n i =
      split (no_candidates S r)
      (λ q. absurd (rw q at i))
      (λ q. in_offered r n (in_dedup (offered S r) [] n (in_reverse n (dedup S (offered S r) []) (rw q at i))))

  in_popped : (m : ℕ) (r : Run) → In r (popped S m) → In r (runs_of (out S.graph m))
  in_popped m r i =
      let rs : List Run = runs_of (out S.graph m) in
      either (in_append r (filter (λ q. not (run_installable S q)) rs) (filter (run_installable S) rs) (in_reverse r (sorted S rs) i))
      (λ j. (in_filter (λ q. not (run_installable S q)) r rs j).1)
      (λ j. (in_filter (run_installable S) r rs j).1)

  -- each step of a branch follows an edge
  pub child_target : (m n : ℕ) → Child (plan_of S) m n → In n (targets S.graph m)
  unfolding targets
  child_target m n c =
      let x = in_runs (out S.graph m) c.0 n (in_popped m c.0 c.1) (in_kids c.0 n c.2) in
      rw x.2 (map_in (λ (e : Edge). e.target) x.0 (reverse (out S.graph m)) (reverse_in x.0 (out S.graph m) x.1))

  -- "no cycle in the graph. Inside it 11 can never come"
  pub air_silent : Acyclic (targets S.graph) → (rs : List Run) → Silent (plan_of S) rs
  air_silent a rs = acyclic_silent (plan_of S) (targets S.graph) child_target a rs
