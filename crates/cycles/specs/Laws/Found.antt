-- The lowest node that the definition finds is what the paths say.
use Rattle.std.specs.Prelude.{◌≡◌, Bool, false, ◌&&◌, List, [], ◌∷◌, ℕ, zero, suc, ◌+◌, ◌<◌, ◌≤◌, length, eqb, Option as Maybe, Some, None}
use Rattle.std.proofs.Math.Path.{refl}
use Rattle.std.proofs.Common.{sym, ap, ◌∙◌, arith}
use Rattle.std.proofs.Math.Bool.{true}
use Rattle.std.proofs.lemmas.Bool.{false≢true}
use Rattle.std.proofs.Math.Option.{Option, none, some}
use borrow.Author.Tests.{eqb-true, eqb-false, eq-eqb}
use Rattle.basis.specs.Lists.{any, first, has, upto}
use Rattle.basis.specs.Members.{split, no_both, any_in, any_some, and_true}
use Rattle.store.specs.declared.Edge.{Edge}
use Rattle.store.specs.declared.Size.{Size}
use Rattle.store.specs.Graph.{Graph, rounds}
use Rattle.store.specs.Table.{graph_in, Stored}
use Rattle.labels.specs.Labels.{targets}
use Rattle.labels.specs.Ordered.{Leads, Acyclic}
use Rattle.labels.specs.Laws.Paths.{path_onto, last_edge, into_edge, leads_way, way_leads}
use Rattle.links.specs.Paths.{Path, Way, GraphWhole, path_rounds, rounds_reach}
use Rattle.links.specs.Queue.{lowest_of, lowest_node, whole}
use Rattle.cycles.specs.Cycles.{on_cycle, cycle_of}
use Rattle.cycles.specs.Laws.Lowest.{Lowest, one_more, lowest_unique}

-- ---- the test of one node

module _ (G : Graph) (W : GraphWhole G) (n : ℕ) where
  abbrev back : Edge → Bool
  back e = eqb e.target n && has e.source (rounds (length G.nodes) G (n ∷ []))

  on_cycle_leads : on_cycle G n ≡ true → Leads (targets G) n n
  unfolding on_cycle
  on_cycle_leads t =
      let r = any_some back G.edges t in
      let b = and_true (eqb r.0.target n) (has r.0.source (rounds (length G.nodes) G (n ∷ []))) r.2 in
      let z : r.0.target ≡ n = eqb-true r.0.target n b.0 in
      let l : Leads (targets G) n r.0.target = path_onto G n r.0 r.1 (rounds_reach G n r.0.source b.1) in
      rw z at l

  leads_on_cycle : n < length G.nodes → Leads (targets G) n n → on_cycle G n ≡ true
  unfolding on_cycle
  leads_on_cycle small l =
      let r = last_edge G n n l in
      let e = into_edge G r.0 n r.1 in
      any_in back r.0 G.edges (both r.0 e.1 r.2) e.0
    where
      both : (e : Edge) → e.target ≡ n → Path G n e.source → back e ≡ true
      both e q p = rw (eq-eqb e.target n q, path_rounds G n W small e.source p)

-- ---- the first in a row

pub first_some : (p : ℕ → Bool) (k a n : ℕ) → first p (upto k a) ≡ some n → (p n ≡ true) × ((m : ℕ) → a ≤ m → m < n → p m ≡ false)
first_some p zero a n e = absurd (none_some e)
  where
    none_some : ◌≡◌ {A = Option ℕ} none (some n) → ⊥
    none_some q = false≢true (ap (λ (o : Option ℕ). elim o [ none ↦ false | some _ ↦ true ]) q)
first_some p (suc k) a n e =
    split (p a)
    (λ t. let q : a ≡ n = same (rw (t, first) at e) in ((rw q at t), λ m l h. absurd (never q m l h)))
    (λ t. let r = first_some p k (suc a) n (rw (t, first) at e) in
    (r.0, λ m l h. split (eqb m a) (λ u. rw (eqb-true m a u) t) (λ u. r.1 m (omega (arith, eqb-false m a u)) h)))
  where
    same : ◌≡◌ {A = Option ℕ} (some a) (some n) → a ≡ n
    same q = ap (λ (o : Option ℕ). elim o [ none ↦ 0 | some x ↦ x ]) q

    never : a ≡ n → (m : ℕ) → a ≤ m → m < n → ⊥
    never q m l h = omega arith

pub first_none : (p : ℕ → Bool) (k a : ℕ) → first p (upto k a) ≡ none → (m : ℕ) → a ≤ m → m < a + k → p m ≡ false
first_none p zero a e m l h = absurd (never l h)
  where
    never : a ≤ m → m < a + 0 → ⊥
    never l h = omega arith
first_none p (suc k) a e m l h =
    split (p a)
    (λ t. absurd (some_none (rw (t, first) at e)))
    (λ t. split (eqb m a) (λ u. rw (eqb-true m a u) t) (λ u. first_none p k (suc a) (rw (t, first) at e) m (omega (arith, eqb-false m a u)) (omega arith)))
  where
    some_none : ◌≡◌ {A = Option ℕ} (some a) none → ⊥
    some_none q = false≢true (sym (ap (λ (o : Option ℕ). elim o [ none ↦ false | some _ ↦ true ]) q))

-- ---- the answer

module _ (G : Graph) (W : GraphWhole G) where
  -- a node on a cycle is a target
  small : (n : ℕ) → Leads (targets G) n n → n < length G.nodes
  small n l =
      let r = last_edge G n n l in
      let e = into_edge G r.0 n r.1 in
      let t : r.0.target ≡ n = e.1 in
      let h : r.0.target < length G.nodes = W.ends r.0 e.0 in
      omega arith

  not_on : (n : ℕ) → on_cycle G n ≡ false → Leads (targets G) n n → ⊥
  not_on n t l = no_both (on_cycle G n) (leads_on_cycle G W n (small n l) l) t

  found : (o : Option ℕ) → first (on_cycle G) (upto (length G.nodes) 0) ≡ o → Lowest (targets G) (lowest_of o)
  found none e =
      record {
        free = λ _ n l. not_on n (first_none (on_cycle G) (length G.nodes) 0 e n (omega arith) (omega (arith, small n l))) l;
        on = λ n q. absurd (bad n q);
        least = λ n q. absurd (bad n q);
      }
    where
      bad : (n : ℕ) → ◌≡◌ {A = ℕ} 0 (n + 1) → ⊥
      bad n q = omega arith
  found (some k) e =
      let r = first_some (on_cycle G) (length G.nodes) 0 k e in
      record {
        free = λ z. absurd (bad z);
        on = λ n q. let z : k ≡ n = omega arith in rw (← z) (on_cycle_leads G W k r.0);
        least = λ n q m l p. not_on m (r.1 m (omega arith) (omega arith)) p;
      }
    where
      bad : k + 1 ≡ 0 → ⊥
      bad z = omega arith

  pub cycle_lowest : Lowest (targets G) (lowest_of (cycle_of G))
  unfolding cycle_of
  cycle_lowest = found (cycle_of G) refl

  -- ---- by paths

  -- no node is found: none leads back to itself
  pub none_free : cycle_of G ≡ none → Acyclic (targets G)
  none_free e = cycle_lowest.free (ap lowest_of e)

  -- node n is found: it leads back to itself by one or more edges, and no lower one does
  pub found_way : (n : ℕ) → cycle_of G ≡ some n → Way G n n
  found_way n e = leads_way G (cycle_lowest.on n (ap lowest_of e))

  pub found_least : (n : ℕ) → cycle_of G ≡ some n → (m : ℕ) → m < n → Way G m m → ⊥
  found_least n e m l w = cycle_lowest.least n (ap lowest_of e) m l (way_leads G w)

  -- some node leads back to itself: one is found
  pub way_found : (a : ℕ) → Way G a a → (n : ℕ) × (cycle_of G ≡ some n)
  way_found a w = by (cycle_of G) refl
    where
      by : (o : Option ℕ) → cycle_of G ≡ o → (n : ℕ) × (cycle_of G ≡ some n)
      by none e = absurd (none_free e a (way_leads G w))
      by (some n) e = (n, e)

-- so the contract is an equation
pub lowest_is : (g : List ℕ) (s : Size) (r : ℕ) → Lowest (targets (graph_in g s)) r → Stored g s → r ≡ lowest_of (cycle_of (graph_in g s))
lowest_is g s r L S = lowest_unique (targets (graph_in g s)) r (lowest_of (cycle_of (graph_in g s))) L (cycle_lowest (graph_in g s) (whole g s S))

-- and as the node that there may be
pub lowest_found : (g : List ℕ) (s : Size) (r : Maybe ℕ) → Lowest (targets (graph_in g s)) (one_more r) → Stored g s → r ≡ lowest_node (cycle_of (graph_in g s))
lowest_found g s r L S = by r (cycle_of (graph_in g s)) (lowest_is g s (one_more r) L S)
  where
    by : (r : Maybe ℕ) (o : Option ℕ) → one_more r ≡ lowest_of o → r ≡ lowest_node o
    by None none e = refl
    by None (some n) e = let z : ◌≡◌ {A = ℕ} 0 (n + 1) = e in absurd (omega arith)
    by (Some m) none e = let z : ◌≡◌ {A = ℕ} (m + 1) 0 = e in absurd (omega arith)
    by (Some m) (some n) e = let z : m + 1 ≡ n + 1 = e in ap Some (let q : m ≡ n = omega arith in q)

pub found_more : (r : Maybe ℕ) (o : Option ℕ) → r ≡ lowest_node o → one_more r ≡ lowest_of o
found_more r none e = rw e
found_more r (some n) e = rw e
