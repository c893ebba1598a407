-- Paths of edges from any node, and what `reached` means: a node is reached just where a path leads to it from node 0.
use Rattle.std.specs.Prelude.{◌≡◌, refl, ◌⊎◌, Bool, true, false, ◌&&◌, ◌||◌, List, [], ◌∷◌, ℕ, zero, suc, ◌+◌, ◌<◌, ◌≤◌, length, eqb}
use Rattle.std.proofs.Common.{ap, inl, inr, arith, eqb-true, eq-eqb}
use Rattle.std.proofs.lemmas.Bool.{false≢true, eqb-false}
use Rattle.basis.specs.Lists.{any, filter, has, upto}
use Rattle.basis.specs.Members.{split, either, In, Distinct, in_filter, filter_in, any_in, any_some, has_in, has_out, in_has, pigeon, and_true}
use Rattle.store.specs.declared.Edge.{Edge}
use Rattle.store.specs.Graph.{Graph, spread, rounds, reached}

-- a path from node a, of no edge or more
pub data Path (G : Graph) (a : ℕ) : ℕ → Type 0 where
  here : Path G a a
  along : (e : Edge) → In e G.edges → Path G a e.source → Path G a e.target

-- a path from node a to node b of one edge or more, by its last edge
pub record Way (G : Graph) (a b : ℕ) : Type 0 where
  pub last : Edge
  pub there : In last G.edges
  pub before : Path G a last.source
  pub end : last.target ≡ b

-- every edge leads to a node, and there is a root
pub record GraphWhole (G : Graph) : Type 0 where
  pub some : 0 < length G.nodes
  pub ends : (e : Edge) → In e G.edges → e.target < length G.nodes

-- ---- numbers in a row

pub in_upto : (k a n : ℕ) → a ≤ n → n < a + k → In n (upto k a)
in_upto zero a n l h = let f : ⊥ = omega arith in absurd f
in_upto (suc k) a n l h = split (eqb n a) (λ t. inl (eqb-true n a t)) (λ t. inr (in_upto k (suc a) n (omega (arith, eqb-false n a t)) (omega arith)))

pub upto_in : (k a n : ℕ) → In n (upto k a) → (a ≤ n) × (n < a + k)
upto_in zero a n i = absurd i
upto_in (suc k) a n (inl q) = (omega arith, omega arith)
upto_in (suc k) a n (inr i) = let r = upto_in k (suc a) n i in (omega (arith, r.0), omega (arith, r.1))

pub length_upto : (k a : ℕ) → length (upto k a) ≡ k
length_upto zero a = refl
length_upto (suc k) a = ap suc (length_upto k (suc a))

upto_distinct : (k a : ℕ) → Distinct (upto k a)
upto_distinct zero a = tt
upto_distinct (suc k) a = ((λ i. let r : suc a ≤ a = (upto_in k (suc a) a i).0 in omega arith), upto_distinct k (suc a))

filter_distinct : (p : ℕ → Bool) (l : List ℕ) → Distinct l → Distinct (filter p l)
filter_distinct p [] d = tt
filter_distinct p (x ∷ l) d =
    split (p x)
    (λ t. rw (t, filter) ((λ i. d.0 (in_filter p x l i).1), filter_distinct p l d.1))
    (λ t. rw (t, filter) (filter_distinct p l d.1))

-- ---- one round

or-true : (a b : Bool) → a || b ≡ true → (a ≡ true) ⊎ (b ≡ true)
or-true true b e = inl refl
or-true false b e = inr e

or_left : (a b : Bool) → a ≡ true → a || b ≡ true
or_left true b e = refl
or_left false b e = absurd (false≢true e)

or_right : (a b : Bool) → b ≡ true → a || b ≡ true
or_right true b e = refl
or_right false b e = e

module _ (G : Graph) (a : ℕ) where
  abbrev count : ℕ
  count = length G.nodes

  abbrev leads : List ℕ → ℕ → Edge → Bool
  leads seen n e = eqb e.target n && has e.source seen

  abbrev joins : List ℕ → ℕ → Bool
  joins seen n = has n seen || any (leads seen n) G.edges

  spread_path : (seen : List ℕ) → ((n : ℕ) → In n seen → Path G a n) → (n : ℕ) → In n (spread G seen) → Path G a n
  spread_path seen f n i =
      either (or-true (has n seen) (any (leads seen n) G.edges) (in_filter (joins seen) n (upto count 0) i).0)
      (λ t. f n (has_in n seen t))
      (λ t. let r = any_some (leads seen n) G.edges t in
      let b = and_true (eqb r.0.target n) (has r.0.source seen) r.2 in
      let z : r.0.target ≡ n = eqb-true r.0.target n b.0 in
      rw (← z) (along r.0 r.1 (f r.0.source (has_in r.0.source seen b.1))))

  spread_keeps : (seen : List ℕ) (n : ℕ) → In n seen → n < count → In n (spread G seen)
  spread_keeps seen n i h =
      filter_in (joins seen) n (upto count 0) (or_left (has n seen) (any (leads seen n) G.edges) (in_has n seen i))
      (in_upto count 0 n (omega arith) (omega arith))

  spread_adds : (seen : List ℕ) (e : Edge) → In e G.edges → In e.source seen → e.target < count → In e.target (spread G seen)
  spread_adds seen e i j h =
      filter_in (joins seen) e.target (upto count 0)
      (or_right (has e.target seen) (any (leads seen e.target) G.edges) (any_in (leads seen e.target) e G.edges both i))
      (in_upto count 0 e.target (omega arith) (omega arith))
    where
      both : leads seen e.target e ≡ true
      both = rw (eq-eqb e.target e.target refl, in_has e.source seen j)

  -- ---- every round

  rounds_path : (k : ℕ) (seen : List ℕ) → ((n : ℕ) → In n seen → Path G a n) → (n : ℕ) → In n (rounds k G seen) → Path G a n
  rounds_path zero seen f n i = f n i
  rounds_path (suc k) seen f n i =
      split (eqb (length (spread G seen)) (length seen))
      (λ t. f n (rw (t, rounds) at i))
      (λ t. rounds_path k (spread G seen) (spread_path seen f) n (rw (t, rounds) at i))

  -- l holds node a, and what an edge leads to from l
  record Closed (l : List ℕ) : Type 0 where
    root : In a l
    next : (e : Edge) → In e G.edges → In e.source l → In e.target l

  closed_path : (l : List ℕ) → Closed l → {n : ℕ} → Path G a n → In n l
  closed_path l C here = C.root
  closed_path l C (along e i p) = C.next e i (closed_path l C p)

  module _ (W : GraphWhole G) (small : a < length G.nodes) where
    -- a round that adds nothing: no edge leads out of what is seen
    still : (seen : List ℕ) → Distinct seen → ((n : ℕ) → In n seen → n < count) → In a seen → length (spread G seen) ≡ length seen → Closed seen
    still seen d b z q = record { root = z; next = onward }
      where
        onward : (e : Edge) → In e G.edges → In e.source seen → In e.target seen
        onward e i j =
            split (has e.target seen)
            (λ t. has_in e.target seen t)
            (λ t. let h : suc (length seen) ≤ length (spread G seen) = pigeon (e.target ∷ seen) (spread G seen) (has_out e.target seen t, d) more in
            let f : ⊥ = omega arith in absurd f)
          where
            more : (n : ℕ) → In n (e.target ∷ seen) → In n (spread G seen)
            more n (inl y) = rw y (spread_adds seen e i j (W.ends e i))
            more n (inr k) = spread_keeps seen n k (b n k)

    spread_below : (seen : List ℕ) (n : ℕ) → In n (spread G seen) → n < count
    spread_below seen n i = omega (arith, (upto_in count 0 n (in_filter (joins seen) n (upto count 0) i).1).1)

    spread_distinct : (seen : List ℕ) → Distinct (spread G seen)
    spread_distinct seen = filter_distinct (joins seen) (upto count 0) (upto_distinct count 0)

    rounds_closed : (k : ℕ) (seen : List ℕ) → Distinct seen → ((n : ℕ) → In n seen → n < count) → In a seen → count < k + length seen → Closed (rounds k G seen)
    rounds_closed zero seen d b z h =
        let m : length seen ≤ length (upto count 0) = pigeon seen (upto count 0) d (λ n i. in_upto count 0 n (omega arith) (omega (arith, b n i))) in
        let f : ⊥ = omega (arith, length_upto count 0) in
        absurd f
    rounds_closed (suc k) seen d b z h =
        split (eqb (length (spread G seen)) (length seen))
        (λ t. rw (t, rounds) (still seen d b z (eqb-true (length (spread G seen)) (length seen) t)))
        (λ t. let m : length seen ≤ length (spread G seen) = pigeon seen (spread G seen) d (λ n i. spread_keeps seen n i (b n i)) in
        let u : length (spread G seen) ≡ length seen → ⊥ = eqb-false (length (spread G seen)) (length seen) t in
        rw (t, rounds)
        (rounds_closed k (spread G seen) (spread_distinct seen) (spread_below seen) (spread_keeps seen a z small) (omega (arith, u))))

    -- from a in as many rounds as there are nodes: what a path leads to
    pub path_rounds : (n : ℕ) → Path G a n → has n (rounds count G (a ∷ [])) ≡ true
    path_rounds n p =
        in_has n (rounds count G (a ∷ []))
        (closed_path (rounds count G (a ∷ []))
        (rounds_closed count (a ∷ []) ((λ i. i), tt) below (inl refl) (omega arith)) p)
      where
        below : (n : ℕ) → In n (a ∷ []) → n < count
        below n (inl q) = rw q small
        below n (inr i) = absurd i

  pub rounds_reach : (n : ℕ) → has n (rounds count G (a ∷ [])) ≡ true → Path G a n
  rounds_reach n h = rounds_path count (a ∷ []) first n (has_in n (rounds count G (a ∷ [])) h)
    where
      first : (n : ℕ) → In n (a ∷ []) → Path G a n
      first n (inl q) = rw q here
      first n (inr i) = absurd i

-- ---- from the root

module _ (G : Graph) where
  pub path_reached : (W : GraphWhole G) (n : ℕ) → Path G 0 n → has n (reached G) ≡ true
  unfolding reached
  path_reached W n p = path_rounds G 0 W W.some n p

  pub reached_path : (n : ℕ) → has n (reached G) ≡ true → Path G 0 n
  unfolding reached
  reached_path n h = rounds_reach G 0 n h
