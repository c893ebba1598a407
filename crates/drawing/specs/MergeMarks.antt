-- The merge marks from each node's first member, in one pass: a node whose first member is another marks both (`simplify`: `m.len() > 1`).
use Rattle.std.specs.Prelude.{◌≡◌, ◌⊎◌, Bool, true, cond, List, [], ◌∷◌, length, get_or, set, replicate, eqb, ltb}
use Rattle.std.proofs.Math.Path.{refl}
use Rattle.std.proofs.Common.{sym, ap, ◌∙◌, inl, inr, not-suc-le-zero, add-one, arith, length-set, get_or-set_same, get_or-set_other}
use Rattle.std.proofs.lemmas.Bool.{false≢true}
use Prim.Native.Nat.{ℕ, zero, suc, ◌+◌, ◌<◌, ◌≤◌}
use Rattle.std.proofs.lemmas.List.{length-replicate, get_or-replicate}
use Rattle.std.proofs.Math.ListN.{get_or-eq_default}
use borrow.Author.Tests.{eqb-true, eqb-false, lt-ltb, le-ltb, ltb-true, ltb-false}
use Rattle.basis.specs.Lists.{filter, upto}
use Rattle.basis.specs.Members.{In, split, either, in_filter, filter_in, and_true}
use Rattle.store.specs.Graph.{Graph, node_at, is_solvable}
use Rattle.groups.specs.Groups.{sort, out_keys, in_keys, merges_by, title_of, mates_by, head_or, mates}
use Rattle.groups.specs.Small.{eq_refl, keys_refl}
use Rattle.groups.specs.Counts.{same_mates}
use Rattle.drawing.specs.Draw.{merge_mark}

-- ---- lists

upto_in : (c a x : ℕ) → In x (upto c a) → (a ≤ x) × (x < a + c)
upto_in zero a x i = absurd i
upto_in (suc c) a x (inl e) = (omega arith, omega arith)
upto_in (suc c) a x (inr i) = let r = upto_in c (suc a) x i in (omega (arith, r.0), omega (arith, r.1))

in_upto : (c a x : ℕ) → a ≤ x → x < a + c → In x (upto c a)
in_upto zero a x h l = absurd (never l)
  where
    never : x < a + 0 → ⊥
    never l = omega arith
in_upto (suc c) a x h l = split (eqb x a) (λ t. inl (eqb-true x a t)) (λ t. inr (in_upto c (suc a) x (omega (arith, eqb-false x a t)) (omega arith)))

-- the first of what passes is the least
head_least : (p : ℕ → Bool) (c a d x : ℕ) → In x (filter p (upto c a)) → head_or d (filter p (upto c a)) ≤ x
head_least p zero a d x i = absurd i
head_least p (suc c) a d x i =
    split (p a)
    (λ t. rw (t, filter) (upto_in (suc c) a x (in_filter p x (upto (suc c) a) i).1).0)
    (λ t. rw (t, filter) (head_least p c (suc a) d x (rw (t, filter) at i)))

-- and stands once
head_once : (p : ℕ → Bool) (c a d : ℕ) → ltb 1 (length (filter p (upto c a))) ≡ true → (x : ℕ) × In x (filter p (upto c a))
    × (head_or d (filter p (upto c a)) < x)
head_once p zero a d h = absurd (false≢true h)
head_once p (suc c) a d h =
    split (p a) (λ t. rw (t, filter) (second (filter p (upto c (suc a))) (rw (t, filter) at h) (λ x i.
    (upto_in c (suc a) x (in_filter p x (upto c (suc a)) i).1).0)))
    (λ t. rw (t, filter) (head_once p c (suc a) d (rw (t, filter) at h)))
  where
    second : (l : List ℕ) → ltb 1 (length (a ∷ l)) ≡ true → ((x : ℕ) → In x l → suc a ≤ x) → (x : ℕ) × In x (a ∷ l) × (a < x)
    second [] h f = absurd (false≢true h)
    second (y ∷ l) h f = (y, inr (inl refl), f y (inl refl))

head_in_lem : (l : List ℕ) (d x : ℕ) → In x l → In (head_or d l) l
head_in_lem [] d x i = i
head_in_lem (y ∷ l) d x i = inl refl

head_any : (l : List ℕ) (d e x : ℕ) → In x l → head_or d l ≡ head_or e l
head_any [] d e x i = absurd i
head_any (y ∷ l) d e x i = refl

two : (l : List ℕ) (n : ℕ) → In n l → (head_or n l ≡ n → ⊥) → ltb 1 (length l) ≡ true
two [] n i f = absurd i
two (x ∷ []) n (inl e) f = absurd (f (sym e))
two (x ∷ []) n (inr i) f = absurd i
two (x ∷ y ∷ l) n i f = lt-ltb 1 (suc (suc (length l))) (omega arith)

empty : (l : List ℕ) → ((x : ℕ) → In x l → ⊥) → l ≡ []
empty [] f = refl
empty (x ∷ l) f = absurd (f x (inl refl))

mark_some : (l : List ℕ) (d x : ℕ) → In x l → ltb 1 (length l) ≡ true → merge_mark l ≡ suc (head_or d l)
mark_some l d x i t = rw t (ap suc (head_any l 0 d x i))

-- ---- groups

module _ (name : ℕ → List ℕ) (G : Graph) where
  abbrev pub lead : ℕ → ℕ
  lead n = head_or n (mates name G n)

  abbrev pub mark : ℕ → ℕ
  mark n = merge_mark (mates name G n)

  record Mate (m n : ℕ) : Type 0 where
    node : m < length G.nodes
    right : is_solvable (node_at G n) ≡ true
    same : mates name G m ≡ mates name G n

  mate : (m n : ℕ) → In m (mates name G n) → Mate m n
  unfolding mates mates_by merges_by
  mate m n i =
      let f = in_filter (λ k. merges_by (title_of name G) G k n) m (upto (length G.nodes) 0) i in
      let x = and_true (is_solvable (node_at G m)) _ f.0 in
      let y = and_true (is_solvable (node_at G n)) _ x.1 in
      let l = upto_in (length G.nodes) 0 m f.1 in
      record { node = omega (arith, l.1); right = y.0; same = same_mates (title_of name G) G m n f.0 }

  self : (n : ℕ) → n < length G.nodes → is_solvable (node_at G n) ≡ true → In n (mates name G n)
  unfolding mates mates_by merges_by
  self n h s =
      filter_in (λ k. merges_by (title_of name G) G k n) n (upto (length G.nodes) 0)
      (rw (s, eq_refl (title_of name G n), keys_refl (sort (in_keys G n)), keys_refl (sort (out_keys G n))))
      (in_upto (length G.nodes) 0 n (omega arith) (omega arith))

  lead_least : (n x : ℕ) → In x (mates name G n) → lead n ≤ x
  unfolding mates mates_by
  lead_least n x i = head_least (λ k. merges_by (title_of name G) G k n) (length G.nodes) 0 n x i

  later : (n : ℕ) → ltb 1 (length (mates name G n)) ≡ true → (x : ℕ) × In x (mates name G n) × (lead n < x)
  unfolding mates mates_by
  later n t = head_once (λ k. merges_by (title_of name G) G k n) (length G.nodes) 0 n t

  -- a node whose first member is another is merged with it
  record Both (n : ℕ) : Type 0 where
    own : mark n ≡ suc (lead n)
    first : mark (lead n) ≡ suc (lead n)

  below_self : (n : ℕ) → n < length G.nodes → lead n < n → In n (mates name G n)
  below_self n h l =
      split (is_solvable (node_at G n)) (λ t. self n h t)
      (λ t. absurd (never (empty (mates name G n) (λ x i. false≢true (sym t ∙ (mate x n i).right)))))
    where
      never : mates name G n ≡ [] → ⊥
      never e = let z : lead n ≡ n = ap (head_or n) e in omega arith

  marks_both : (n : ℕ) → n < length G.nodes → lead n < n → Both n
  marks_both n h l =
      let i = below_self n h l in
      let o : mark n ≡ suc (lead n) = mark_some (mates name G n) n n i (two (mates name G n) n i (λ e. omega arith)) in
      record { own = o; first = ap merge_mark (mate (lead n) n (head_in_lem (mates name G n) n n i)).same ∙ o }

  -- no node below i whose first member is another is j or has j as its first member
  pub record Unhit (i j : ℕ) : Type 0 where
    pub none : (k : ℕ) → k < i → lead k < k → (k ≡ j → ⊥) × (lead k ≡ j → ⊥)

  unhit_zero : (n : ℕ) → n < length G.nodes → Unhit (length G.nodes) n → mark n ≡ 0
  unhit_zero n h U =
      split (ltb 1 (length (mates name G n)))
      (λ t.
      let y = later n t in
      let m = mate y.0 n y.1 in
      let s = self n h m.right in
      let q : lead y.0 ≡ lead n = ap (head_or y.0) m.same ∙ head_any (mates name G n) y.0 n y.0 y.1 in
      split (eqb (lead n) n)
      (λ e. absurd ((U.none y.0 m.node (rw q y.2)).1 (q ∙ eqb-true (lead n) n e)))
      (λ e. let d : lead n ≡ n → ⊥ = eqb-false (lead n) n e in let b = lead_least n n s in absurd ((U.none n h (omega arith)).0 refl)))
      (λ t. rw t)

  -- ---- the table

  pub record Marking (leads m : List ℕ) (i : ℕ) : Type 0 where
    pub long : length m ≡ 128
    pub few : length G.nodes ≤ 128
    pub low : i ≤ length G.nodes
    pub led : (j : ℕ) → j < length G.nodes → get_or leads j 0 ≡ lead j
    pub past : (j : ℕ) → length G.nodes ≤ j → get_or m j 0 ≡ 0
    pub each : (j : ℕ) → j < length G.nodes → (get_or m j 0 ≡ mark j) ⊎ ((get_or m j 0 ≡ 0) × Unhit i j)

unfoldable pub mark_one : List ℕ → List ℕ → ℕ → List ℕ
mark_one leads m n = cond (ltb (get_or leads n 0) n) (set (set m (get_or leads n 0) (get_or leads n 0 + 1)) n (get_or leads n 0 + 1)) m

module _ (leads m : List ℕ) (n l : ℕ) (q : l ≡ get_or leads n 0) where
  pub mark_own : n ≤ l → m ≡ mark_one leads m n
  unfolding mark_one
  mark_own h = rw (← q, le-ltb l n h)

  pub mark_other : l < n → set (set m l (l + 1)) n (l + 1) ≡ mark_one leads m n
  unfolding mark_one
  mark_other h = rw (← q, lt-ltb l n h)

module _ (name : ℕ → List ℕ) (G : Graph) (leads : List ℕ) where
  fresh : (l : ℕ) → get_or (replicate {A = ℕ} 128 0) l 0 ≡ 0
  fresh l =
      split (ltb l 128) (λ t. get_or-replicate {A = ℕ} 128 l 0 0 (ltb-true l 128 t))
      (λ t. let h : length (replicate {A = ℕ} 128 0) ≤ l = rw (length-replicate {A = ℕ} 128 0) (ltb-false l 128 t) in
      get_or-eq_default {A = ℕ} (replicate 128 0) 0 {n = l} h)

  pub marking_start : (m : List ℕ) → m ≡ replicate {A = ℕ} 128 0 → length G.nodes ≤ 128 → ((j : ℕ) → j < length G.nodes → get_or leads j 0 ≡ lead name G j)
      → Marking name G leads m 0
  marking_start m e f L =
      rw e
      (record {
        long = length-replicate {A = ℕ} 128 0;
        few = f;
        low = omega arith;
        led = L;
        past = λ j h. fresh j;
        each = λ j h. inr (fresh j, record { none = λ k i l. absurd (not-suc-le-zero i) });
      })

  module _ (m : List ℕ) (i : ℕ) (M : Marking name G leads m i) where
    unhit_more : (j : ℕ) → (lead name G i < i → (i ≡ j → ⊥) × (lead name G i ≡ j → ⊥)) → Unhit name G i j → Unhit name G (suc i) j
    unhit_more j f U = record { none = each }
      where
        each : (k : ℕ) → k < suc i → lead name G k < k → (k ≡ j → ⊥) × (lead name G k ≡ j → ⊥)
        each k h l = split (eqb k i) (λ t. rw (eqb-true k i t) (f (rw (eqb-true k i t) at l))) (λ t. U.none k (omega (arith, eqb-false k i t)) l)

    module _ (h : i < length G.nodes) where
      marking_own : i ≤ lead name G i → Marking name G leads m (suc i)
      marking_own g =
          record {
            long = M.long;
            few = M.few;
            low = h;
            led = M.led;
            past = M.past;
            each = λ j k. either (M.each j k) (λ e. inl e) (λ e. inr (e.0, unhit_more j (λ l. absurd (no l)) e.1));
          }
        where
          no : lead name G i < i → ⊥
          no l = omega arith

      marking_other : lead name G i < i → Marking name G leads (set (set m (lead name G i) (lead name G i + 1)) i (lead name G i + 1)) (suc i)
      marking_other g =
          record { long = rw (length-set, length-set) M.long; few = M.few; low = h; led = M.led; past = past; each = each }
        where
          b : Both name G i
          b = marks_both name G i h g

          past : (j : ℕ) → length G.nodes ≤ j → get_or (set (set m (lead name G i) (lead name G i + 1)) i (lead name G i + 1)) j 0 ≡ 0
          past j k =
              get_or-set_other (set m (lead name G i) (lead name G i + 1)) i j (lead name G i + 1) 0 (λ e. omega arith)
              ∙ get_or-set_other m (lead name G i) j (lead name G i + 1) 0 (λ e. omega arith) ∙ M.past j k

          each : (j : ℕ) → j < length G.nodes → (get_or (set (set m (lead name G i) (lead name G i + 1)) i (lead name G i + 1)) j 0 ≡ mark name G j)
              ⊎ ((get_or (set (set m (lead name G i) (lead name G i + 1)) i (lead name G i + 1)) j 0 ≡ 0) × Unhit name G (suc i) j)
          each j k =
              split (eqb j i)
              (λ t. let e : j ≡ i = eqb-true j i t in
              inl (rw (
                e,
                get_or-set_same (set m (lead name G i) (lead name G i + 1)) i (lead name G i + 1) 0 (rw length-set (omega (arith, M.long, M.few))),
                add-one,
              ) (sym b.own)))
              (λ t. let d : j ≡ i → ⊥ = eqb-false j i t in
              let o = get_or-set_other (set m (lead name G i) (lead name G i + 1)) i j (lead name G i + 1) 0 d in
              split (eqb j (lead name G i))
              (λ u. let e : j ≡ lead name G i = eqb-true j (lead name G i) u in
              inl (o ∙ rw (e, get_or-set_same m (lead name G i) (lead name G i + 1) 0 (omega (arith, M.long, M.few)), add-one) (sym b.first)))
              (λ u. let f : j ≡ lead name G i → ⊥ = eqb-false j (lead name G i) u in
              let w = o ∙ get_or-set_other m (lead name G i) j (lead name G i + 1) 0 f in
              either (M.each j k) (λ e. inl (w ∙ e)) (λ e. inr (w ∙ e.0, unhit_more j (λ l. ((λ z. d (sym z)), (λ z. f (sym z)))) e.1))))

      pub marking_next : (v : List ℕ) → v ≡ mark_one leads m i → Marking name G leads v (i + 1)
      unfolding mark_one
      marking_next v q =
          rw (add-one, q, M.led i h)
          (split (ltb (lead name G i) i)
          (λ t. rw t (marking_other (ltb-true (lead name G i) i t)))
          (λ t. rw t (marking_own (ltb-false (lead name G i) i t))))

    -- all nodes are passed
    pub marking_end : length G.nodes ≤ i → (j : ℕ) → j < length G.nodes → get_or m j 0 ≡ merge_mark (mates name G j)
    marking_end h j k =
        let z : i ≡ length G.nodes = let l = M.low in omega arith in
        either (M.each j k) (λ e. e) (λ e. e.0 ∙ sym (unhit_zero name G j k (rw z at e.1)))

-- ---- the pass

unfoldable pub marks_to : List ℕ → ℕ → List ℕ → List ℕ
unfolding mark_one
marks_to leads zero m = m
marks_to leads (suc k) m = mark_one leads (marks_to leads k m) k

module _ (leads m v : List ℕ) where
  pub marks_none : m ≡ marks_to leads 0 m
  unfolding marks_to
  marks_none = refl

  pub marks_next : (n : ℕ) (u : List ℕ) → v ≡ marks_to leads n m → u ≡ mark_one leads v n → u ≡ marks_to leads (n + 1) m
  unfolding marks_to
  marks_next n u q e = rw (add-one, ← q) e

  pub marks_all : (n k : ℕ) → v ≡ marks_to leads n m → n ≤ k → k ≤ n → v ≡ marks_to leads k m
  marks_all n k q a b = let z : n ≡ k = omega arith in rw z at q

-- each node's mark, and nothing behind the last node
pub record Marked (name : ℕ → List ℕ) (G : Graph) (m : List ℕ) : Type 0 where
  pub long : length m ≡ 128
  pub few : length G.nodes ≤ 128
  pub past : (j : ℕ) → length G.nodes ≤ j → get_or m j 0 ≡ 0
  pub each : (j : ℕ) → j < length G.nodes → get_or m j 0 ≡ merge_mark (mates name G j)

module _ (name : ℕ → List ℕ) (G : Graph) (leads m : List ℕ) (e : m ≡ replicate {A = ℕ} 128 0) (f : length G.nodes ≤ 128) (L : (j : ℕ) → j < length G.nodes
    → get_or leads j 0 ≡ lead name G j) where
  marking_to : (k : ℕ) → k ≤ length G.nodes → Marking name G leads (marks_to leads k m) k
  unfolding marks_to
  marking_to zero h = marking_start name G leads m e f L
  marking_to (suc k) h =
      rw (add-one k) at (marking_next name G leads (marks_to leads k m) k (marking_to k (omega arith)) h (mark_one leads (marks_to leads k m) k) refl)

  pub marked_all : Marked name G (marks_to leads (length G.nodes) m)
  marked_all =
      let M = marking_to (length G.nodes) (omega arith) in
      record {
        long = M.long;
        few = f;
        past = M.past;
        each = marking_end name G leads (marks_to leads (length G.nodes) m) (length G.nodes) M
            (omega arith);
      }

-- a mark is at most the number of nodes
pub mark_most : (name : ℕ → List ℕ) (G : Graph) (n : ℕ) → merge_mark (mates name G n) ≤ length G.nodes
mark_most name G n =
    split (ltb 1 (length (mates name G n)))
    (λ t. let y = later name G n t in
    let i = head_in_lem (mates name G n) 0 y.0 y.1 in
    rw t (mate name G (head_or 0 (mates name G n)) n i).node)
    (λ t. rw t (omega arith))
