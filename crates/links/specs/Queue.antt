-- The queue by which the nodes are found that paths reach from node a: a work table of 256 numbers, the queue below 128, a mark for
-- each node from 128 on.
-- Every node that was ever put in stays in the queue; those before place h have been looked at.
use Rattle.std.specs.Prelude.{◌≡◌, refl, ◌⊎◌, Bool, true, false, cond, not, List, [], ◌∷◌, ◌++◌, reverse, length, get_or, take, set, replicate, eqb, Option, Some, None}
use Rattle.std.proofs.Math.Path.{sym}
use Rattle.std.proofs.Common.{ap, ◌∙◌, inl, inr, not-suc-le-zero, add-one, length-set, take-suc-set, get_or-set_same, get_or-set_other, length-take-le, eqb-true, eq-eqb, ne_eqb}
use Rattle.std.proofs.Math.Option.{Option as Maybe, none, some}
use Rattle.std.proofs.lemmas.List.{reverse-reverse, length-replicate, take-set-le}
use Prim.Native.Nat.{ℕ, zero, suc, ◌+◌, ◌-◌, ◌<◌, ◌≤◌}
use native.Mathlib.Omega.{arith}
use Rattle.std.proofs.lemmas.Bool.{eqb-false}
use Rattle.basis.specs.Lists.{first, has, upto}
use Rattle.basis.specs.Members.{split, either, In, Distinct, in_append, in_left, in_right, in_reverse, filter_in, pigeon}
use Rattle.store.specs.declared.Edge.{Edge}
use Rattle.store.specs.declared.Size.{Size}
use Rattle.store.specs.Graph.{out, reached, unreached}
use Rattle.store.specs.Table.{graph_in, edge_in, no_edge, Stored, nodes_count, edges_count, edge_in_lem, target_below}
use Rattle.links.specs.Build.{Chains}
use Rattle.links.specs.Walk.{Out, out_left, first_out, next_out, out_start, out_all, out_next, out_less, out_cons, out_end, out_edge, out_source, out_target}
use Rattle.links.specs.Paths.{Path, here, along, GraphWhole, in_upto, length_upto, path_reached, reached_path}

-- ---- places and elements

module _ {A : Type 0} (d : A) where
  pub at_in : (l : List A) (i : ℕ) → i < length l → In (get_or l i d) l
  at_in [] i h = absurd (not-suc-le-zero h)
  at_in (x ∷ l) zero h = inl refl
  at_in (x ∷ l) (suc i) h = inr (at_in l i (omega arith))

  pub in_at : (l : List A) (x : A) → In x l → (i : ℕ) × (i < length l) × (get_or l i d ≡ x)
  in_at [] x j = absurd j
  in_at (y ∷ l) x (inl q) = (0, omega arith, sym q)
  in_at (y ∷ l) x (inr j) = let r = in_at l x j in (suc r.0, omega (arith, r.1), r.2)

  take_in : (w : List A) (t i : ℕ) → i < t → t ≤ length w → In (get_or w i d) (take t w)
  take_in w zero i h l = absurd (not-suc-le-zero h)
  take_in [] (suc t) i h l = let f : ⊥ = omega arith in absurd f
  take_in (x ∷ w) (suc t) zero h l = inl refl
  take_in (x ∷ w) (suc t) (suc i) h l = inr (take_in w t i (omega arith) (omega arith))

  in_take : (w : List A) (t : ℕ) (x : A) → In x (take t w) → (i : ℕ) × (i < t) × (get_or w i d ≡ x)
  in_take w zero x j = absurd j
  in_take [] (suc t) x j = absurd j
  in_take (y ∷ w) (suc t) x (inl q) = (0, omega arith, sym q)
  in_take (y ∷ w) (suc t) x (inr j) = let r = in_take w t x j in (suc r.0, omega (arith, r.1), r.2)

distinct_snoc : (l : List ℕ) (x : ℕ) → Distinct l → (In x l → ⊥) → Distinct (l ++ (x ∷ []))
distinct_snoc [] x d o = ((λ i. i), tt)
distinct_snoc (y ∷ l) x d o = (fresh, distinct_snoc l x d.1 (λ i. o (inr i)))
  where
    fresh : In y (l ++ (x ∷ [])) → ⊥
    fresh i = either (in_append y l (x ∷ []) i) d.0 (λ j. either j (λ q. o (inl (sym q))) (λ z. z))

-- ---- edges by number

module _ (g : List ℕ) (s : Size) (S : Stored g s) where
  pub edge_there : (i : ℕ) → i < s.edges → In (edge_in g i) (graph_in g s).edges
  edge_there i l = rw (edge_in_lem g s S i l) (at_in no_edge (graph_in g s).edges i (omega (arith, edges_count g s S)))

  pub edge_place : (e : Edge) → In e (graph_in g s).edges → (i : ℕ) × (i < s.edges) × (edge_in g i ≡ e)
  edge_place e j =
      let r = in_at no_edge (graph_in g s).edges e j in
      let l : r.0 < s.edges = omega (arith, r.1, edges_count g s S) in
      (r.0, l, edge_in_lem g s S r.0 l ∙ r.2)

-- ---- the promise

pub record Seen (g : List ℕ) (s : Size) (a : ℕ) (w : List ℕ) (h t : ℕ) : Type 0 where
  pub stored : Stored g s
  pub wide : length w ≡ 256
  pub low : h ≤ t
  pub high : t ≤ 128
  pub own : (n : ℕ) → In n (take t w) → (n < s.nodes) × (get_or w (128 + n) 0 ≡ 1) × Path (graph_in g s) a n
  pub back : (n : ℕ) → (get_or w (128 + n) 0 ≡ 0 → ⊥) → In n (take t w)
  pub distinct : Distinct (take t w)
  pub root : In a (take t w)
  pub done : (i : ℕ) → i < h → (e : Edge) → In e (graph_in g s).edges → e.source ≡ get_or w i 0 → In e.target (take t w)

-- ---- node x goes behind the others if it has no mark yet

unfoldable pub noted_in : List ℕ → ℕ → ℕ → List ℕ
noted_in w t x = cond (eqb (get_or w (128 + x) 0) 0) (set (set w (128 + x) 1) t x) w

unfoldable pub noted_to : List ℕ → ℕ → ℕ → ℕ
noted_to w t x = cond (eqb (get_or w (128 + x) 0) 0) (t + 1) t

module _ (w : List ℕ) (t x : ℕ) where
  pub noted_new : get_or w (128 + x) 0 ≡ 0 → set (set w (128 + x) 1) t x ≡ noted_in w t x
  unfolding noted_in
  noted_new q = rw (eq-eqb (get_or w (128 + x) 0) 0 q)

  pub noted_more : get_or w (128 + x) 0 ≡ 0 → t + 1 ≡ noted_to w t x
  unfolding noted_to
  noted_more q = rw (eq-eqb (get_or w (128 + x) 0) 0 q)

  pub noted_old : (get_or w (128 + x) 0 ≡ 0 → ⊥) → w ≡ noted_in w t x
  unfolding noted_in
  noted_old d = rw (ne_eqb (get_or w (128 + x) 0) 0 d)

  pub noted_same : (get_or w (128 + x) 0 ≡ 0 → ⊥) → t ≡ noted_to w t x
  unfolding noted_to
  noted_same d = rw (ne_eqb (get_or w (128 + x) 0) 0 d)

-- x, what a read gave
pub noted_in_via : (w v : List ℕ) (t x y : ℕ) → v ≡ noted_in w t x → x ≡ y → v ≡ noted_in w t y
noted_in_via w v t x y q e = rw e at q

pub noted_to_via : (w : List ℕ) (t x y r : ℕ) → r ≡ noted_to w t x → x ≡ y → r ≡ noted_to w t y
noted_to_via w t x y r q e = rw e at q

pub ruleset notes = (noted_new, noted_more, noted_old, noted_same)

-- what it leaves: the queue as it was, with x in it
record Noted (g : List ℕ) (s : Size) (a : ℕ) (w : List ℕ) (h t x : ℕ) (v : List ℕ) (k : ℕ) : Type 0 where
  seen : Seen g s a v h k
  more : t ≤ k
  in_it : In x (take k v)
  still : (y : ℕ) → In y (take t w) → In y (take k v)
  place : (i : ℕ) → i < t → get_or v i 0 ≡ get_or w i 0

module _ (g : List ℕ) (s : Size) (a : ℕ) (w : List ℕ) (h t x : ℕ) (S : Seen g s a w h t) (small : x < s.nodes) (P : Path (graph_in g s) a x) where
  old_noted : (get_or w (128 + x) 0 ≡ 0 → ⊥) → Noted g s a w h t x w t
  old_noted d = record { seen = S; more = omega arith; in_it = S.back x d; still = λ y i. i; place = λ i l. refl }

  module _ (q : get_or w (128 + x) 0 ≡ 0) where
    fresh : In x (take t w) → ⊥
    fresh i = let r : get_or w (128 + x) 0 ≡ 1 = (S.own x i).1 in let z : ◌≡◌ {A = ℕ} 0 1 = sym q ∙ r in omega arith

    long : length (take t w) ≡ t
    long = length-take-le t w (omega (arith, S.wide, S.high))

    -- the queue holds different nodes, so there is room
    room : t < 128
    room =
        let m : suc (length (take t w)) ≤ length (upto s.nodes 0) = pigeon (x ∷ take t w) (upto s.nodes 0) (fresh, S.distinct) within in
        omega (arith, long, length_upto s.nodes 0, S.stored.nodes_most)
      where
        within : (n : ℕ) → In n (x ∷ take t w) → In n (upto s.nodes 0)
        within n (inl e) = in_upto s.nodes 0 n (omega arith) (omega arith)
        within n (inr i) = in_upto s.nodes 0 n (omega arith) (omega (arith, (S.own n i).0))

    abbrev v : List ℕ
    v = set (set w (128 + x) 1) t x

    queue : take (t + 1) v ≡ take t w ++ (x ∷ [])
    queue =
        rw (
          add-one t,
          take-suc-set (set w (128 + x) 1) t x (rw length-set (omega (arith, S.wide, room))),
          take-set-le t w (128 + x) 1 (omega (arith, S.high)),
        )

    before : (i : ℕ) → i < t → get_or v i 0 ≡ get_or w i 0
    before i l =
        get_or-set_other (set w (128 + x) 1) t i x 0 (λ z. omega arith)
        ∙ get_or-set_other w (128 + x) i 1 0 (λ z. omega (arith, S.high))

    mark_x : get_or v (128 + x) 0 ≡ 1
    mark_x =
        get_or-set_other (set w (128 + x) 1) t (128 + x) x 0 (λ z. omega (arith, room))
        ∙ get_or-set_same w (128 + x) 1 0 (omega (arith, S.wide, S.stored.nodes_most))

    mark_other : (n : ℕ) → (n ≡ x → ⊥) → get_or v (128 + n) 0 ≡ get_or w (128 + n) 0
    mark_other n d =
        get_or-set_other (set w (128 + x) 1) t (128 + n) x 0 (λ z. omega (arith, room))
        ∙ get_or-set_other w (128 + x) (128 + n) 1 0 (λ z. d (omega arith))

    new_seen : Seen g s a v h (t + 1)
    new_seen =
        record {
          stored = S.stored;
          wide = rw (length-set, length-set) S.wide;
          low = omega (arith, S.low);
          high = omega (arith, room);
          own = own;
          back = back;
          distinct = rw queue (distinct_snoc (take t w) x S.distinct fresh);
          root = rw queue (in_left a (take t w) (x ∷ []) S.root);
          done =
              done;
        }
      where
        mine : (n : ℕ) → In n (take t w ++ (x ∷ [])) → (n < s.nodes) × (get_or v (128 + n) 0 ≡ 1) × Path (graph_in g s) a n
        mine n i =
            split (eqb n x)
            (λ u. rw (eqb-true n x u) (small, mark_x, P))
            (λ u. let d : n ≡ x → ⊥ = eqb-false n x u in
            let j : In n (take t w) = either (in_append n (take t w) (x ∷ []) i) (λ j. j) (λ j. either j (λ e. absurd (d e)) (λ z. absurd z)) in
            let r = S.own n j in
            (r.0, mark_other n d ∙ r.1, r.2))

        own : (n : ℕ) → In n (take (t + 1) v) → (n < s.nodes) × (get_or v (128 + n) 0 ≡ 1) × Path (graph_in g s) a n
        own n i = mine n (rw queue at i)

        back : (n : ℕ) → (get_or v (128 + n) 0 ≡ 0 → ⊥) → In n (take (t + 1) v)
        back n o =
            rw queue
            (split (eqb n x)
            (λ u. in_right n (take t w) (x ∷ []) (inl (eqb-true n x u)))
            (λ u. let d : n ≡ x → ⊥ = eqb-false n x u in
            in_left n (take t w) (x ∷ []) (S.back n (λ z. o (mark_other n d ∙ z)))))

        done : (i : ℕ) → i < h → (e : Edge) → In e (graph_in g s).edges → e.source ≡ get_or v i 0 → In e.target (take (t + 1) v)
        done i l e j z =
            rw queue (in_left e.target (take t w) (x ∷ []) (S.done i l e j (z ∙ before i (omega (arith, S.low)))))

    new_noted : Noted g s a w h t x v (t + 1)
    new_noted =
        record {
          seen = new_seen;
          more = omega arith;
          in_it = rw queue (in_right x (take t w) (x ∷ []) (inl refl));
          still = λ y i. rw queue (in_left y (take t w) (x ∷ []) i);
          place = before;
        }

  noted : Noted g s a w h t x (noted_in w t x) (noted_to w t x)
  noted =
      split (eqb (get_or w (128 + x) 0) 0)
      (λ u. let q : get_or w (128 + x) 0 ≡ 0 = eqb-true (get_or w (128 + x) 0) 0 u in rw (← noted_new w t x q, ← noted_more w t x q) (new_noted q))
      (λ u. let d : get_or w (128 + x) 0 ≡ 0 → ⊥ = eqb-false (get_or w (128 + x) 0) 0 u in rw (← noted_old w t x d, ← noted_same w t x d) (old_noted d))

-- ---- along the edges of the node at place h: n is that node, e the stored value where the walk stands

pub record Spreading (g : List ℕ) (s : Size) (a : ℕ) (ls w : List ℕ) (h t n e : ℕ) : Type 0 where
  pub seen : Seen g s a w h t
  pub ahead : h < t
  pub at : Out g s ls n e
  pub node : get_or w h 0 ≡ n
  pub left : (x : Edge) → In x (out (graph_in g s) n) → In x (out_left g n e) ⊎ In x.target (take t w)

module _ (g : List ℕ) (s : Size) (a : ℕ) (ls w : List ℕ) (h t n : ℕ) where
  pub seen_node : Seen g s a w h t → h < t → n ≡ get_or w h 0 → n < s.nodes
  seen_node S l q = rw q (S.own (get_or w h 0) (take_in 0 w t h l (omega (arith, S.wide, S.high)))).0

  pub spread_start : (r : ℕ) → Seen g s a w h t → Chains g s ls → h < t → n ≡ get_or w h 0 → r ≡ first_out ls n → Spreading g s a ls w h t n r
  spread_start r S C l q f =
      let small : n < s.nodes = seen_node S l q in
      record { seen = S; ahead = l; at = out_start g s ls n r C small f; node = sym q; left = λ x i. inl (rw (out_all g s ls n r C small f) i) }

  module _ (e : ℕ) (D : Spreading g s a ls w h t n e) (p : 0 < e) where
    node_path : Path (graph_in g s) a n
    node_path = rw (← D.node) (D.seen.own (get_or w h 0) (take_in 0 w t h D.ahead (omega (arith, D.seen.wide, D.seen.high)))).2

    target_path : Path (graph_in g s) a (edge_in g (e - 1)).target
    target_path =
        along (edge_in g (e - 1)) (edge_there g s D.seen.stored (e - 1) (out_edge g s ls n e D.at p)) (rw (out_source g s ls n e D.at p) node_path)

    noting : (x k r : ℕ) (v : List ℕ) → x ≡ (edge_in g (e - 1)).target → v ≡ noted_in w t x → k ≡ noted_to w t x → r ≡ next_out ls (e - 1)
        → Spreading g s a ls v h k n r
    noting x k r v qx qv qk qr =
        let N : Noted g s a w h t x (noted_in w t x) (noted_to w t x) =
        noted g s a w h t x D.seen (out_target g s ls n e x D.at p qx) (rw qx target_path) in
        step (rw (← qv, ← qk) at N)
      where
        step : Noted g s a w h t x v k → Spreading g s a ls v h k n r
        step N =
            record {
              seen = N.seen;
              ahead = omega (arith, D.ahead, N.more);
              at = out_next g s ls n e r D.at p qr;
              node = N.place h D.ahead ∙ D.node;
              left = left;
            }
          where
            left : (y : Edge) → In y (out (graph_in g s) n) → In y (out_left g n r) ⊎ In y.target (take k v)
            left y i =
                either (D.left y i)
                (λ j. either (rw (out_cons g s ls n e r D.at p qr) at j)
                (λ z. inr (rw (ap (λ (b : Edge). b.target) z ∙ sym qx) N.in_it))
                (λ m. inl m))
                (λ j. inr (N.still y.target j))

    -- v and k are what noting the target left
    pub spread_next : (k r : ℕ) (v : List ℕ) → v ≡ noted_in w t (edge_in g (e - 1)).target → k ≡ noted_to w t (edge_in g (e - 1)).target → r ≡ next_out ls (e - 1)
        → Spreading g s a ls v h k n r
    spread_next k r v qv qk qr = noting (edge_in g (e - 1)).target k r v refl qv qk qr

  pub spread_end : (e : ℕ) → Spreading g s a ls w h t n e → e ≤ 0 → Seen g s a w (h + 1) t
  unfolding out
  spread_end e D z =
      record {
        stored = D.seen.stored;
        wide = D.seen.wide;
        low = omega (arith, D.ahead);
        high = D.seen.high;
        own = D.seen.own;
        back = D.seen.back;
        distinct = D.seen.distinct;
        root = D.seen.root;
        done = done;
      }
    where
      gone : (x : Edge) → In x (out_left g n e) ⊎ In x.target (take t w) → In x.target (take t w)
      gone x (inl i) = absurd (rw (out_end g n e z) at i)
      gone x (inr i) = i

      turned : (x : Edge) → In x (graph_in g s).edges → In x (reverse (graph_in g s).edges)
      turned x i = in_reverse x (reverse (graph_in g s).edges) (rw (reverse-reverse (graph_in g s).edges) i)

      done : (i : ℕ) → i < h + 1 → (x : Edge) → In x (graph_in g s).edges → x.source ≡ get_or w i 0 → In x.target (take t w)
      done i l x j q =
          split (eqb i h)
          (λ u. let y : x.source ≡ n = q ∙ ap (λ (k : ℕ). get_or w k 0) (eqb-true i h u) ∙ D.node in
          gone x (D.left x (filter_in (λ (b : Edge). eqb b.source n) x (reverse (graph_in g s).edges) (eq-eqb x.source n y) (turned x j))))
          (λ u. D.seen.done i (omega (arith, eqb-false i h u)) x j q)

pub spread_less : (g : List ℕ) (s : Size) (a : ℕ) (ls w : List ℕ) (h t n e r : ℕ) → Spreading g s a ls w h t n e → 0 < e → r ≡ next_out ls (e - 1) → r < e
spread_less g s a ls w h t n e r D p q = out_less g s ls n e r D.at p q

pub spread_edge : (g : List ℕ) (s : Size) (a : ℕ) (ls w : List ℕ) (h t n e : ℕ) → Spreading g s a ls w h t n e → 0 < e → e - 1 < s.edges
spread_edge g s a ls w h t n e D p = out_edge g s ls n e D.at p

-- ---- the first table: the start marked, and alone in the queue

abbrev blank : List ℕ
blank = replicate 256 0

abbrev begun : ℕ → List ℕ
begun a = set (set blank (128 + a) 1) 0 a

pub zeros : (k i : ℕ) → ◌≡◌ {A = ℕ} (get_or (replicate k 0) i 0) 0
zeros zero i = refl
zeros (suc k) zero = refl
zeros (suc k) (suc i) = zeros k i

begun_own : (a : ℕ) → a < 128 → get_or (begun a) (128 + a) 0 ≡ 1
begun_own a h =
    get_or-set_other (set blank (128 + a) 1) 0 (128 + a) a 0 (λ y. omega arith)
    ∙ get_or-set_same blank (128 + a) 1 0 (omega (arith, length-replicate {A = ℕ} 256 0))

begun_other : (a n : ℕ) → (n ≡ a → ⊥) → get_or (begun a) (128 + n) 0 ≡ 0
begun_other a n d =
    get_or-set_other (set blank (128 + a) 1) 0 (128 + n) a 0 (λ y. omega arith)
    ∙ get_or-set_other blank (128 + a) (128 + n) 1 0 (λ y. d (omega arith))
    ∙ zeros 256 (128 + n)

pub seen_start : (g : List ℕ) (s : Size) (a : ℕ) (w v : List ℕ) → v ≡ replicate 256 0 → Stored g s → a < s.nodes → w ≡ set (set v (128 + a) 1) 0 a
    → Seen g s a w 0 1
seen_start g s a w u z S l q = rw (q, z) start
  where
    small : a < 128
    small = omega (arith, S.nodes_most)

    queue : take 1 (begun a) ≡ a ∷ []
    queue = take-suc-set (set blank (128 + a) 1) 0 a (rw length-set (omega (arith, length-replicate {A = ℕ} 256 0)))

    own : (n : ℕ) → In n (a ∷ []) → (n < s.nodes) × (get_or (begun a) (128 + n) 0 ≡ 1) × Path (graph_in g s) a n
    own n (inl e) = rw e (l, begun_own a small, here)
    own n (inr i) = absurd i

    back : (n : ℕ) → (get_or (begun a) (128 + n) 0 ≡ 0 → ⊥) → In n (a ∷ [])
    back n o = split (eqb n a) (λ t. inl (eqb-true n a t)) (λ t. absurd (o (begun_other a n (eqb-false n a t))))

    start : Seen g s a (begun a) 0 1
    start =
        record {
          stored = S;
          wide = rw (length-set, length-set) (length-replicate {A = ℕ} 256 0);
          low = omega arith;
          high = omega arith;
          own = λ n i. own n (rw queue at i);
          back = λ n o. rw queue (back n o);
          distinct = rw queue ((λ i. i), tt);
          root = rw queue (inl refl);
          done =
              λ i h. absurd (not-suc-le-zero h);
        }

-- ---- the queue is through: a mark where a path leads from a

-- node n has no mark
unfoldable pub unmarked : List ℕ → ℕ → Bool
unmarked w n = eqb (get_or w (128 + n) 0) 0

pub record Marked (g : List ℕ) (s : Size) (a : ℕ) (w : List ℕ) : Type 0 where
  pub stored : Stored g s
  pub yes : (n : ℕ) → (get_or w (128 + n) 0 ≡ 0 → ⊥) → Path (graph_in g s) a n
  pub no : (n : ℕ) → get_or w (128 + n) 0 ≡ 0 → Path (graph_in g s) a n → ⊥
  pub one : (n : ℕ) → (get_or w (128 + n) 0 ≡ 0 → ⊥) → get_or w (128 + n) 0 ≡ 1

module _ (g : List ℕ) (s : Size) (a : ℕ) (w : List ℕ) (h t : ℕ) (S : Seen g s a w h t) (l : t ≤ h) where
  queued : {n : ℕ} → Path (graph_in g s) a n → In n (take t w)
  queued here = S.root
  queued (along e i p) = let r = in_take 0 w t e.source (queued p) in S.done r.0 (omega (arith, r.1)) e i (sym r.2)

  pub seen_all : Marked g s a w
  seen_all = record { stored = S.stored; yes = λ n o. (S.own n (S.back n o)).2; no = dark; one = λ n o. (S.own n (S.back n o)).1 }
    where
      dark : (n : ℕ) → get_or w (128 + n) 0 ≡ 0 → Path (graph_in g s) a n → ⊥
      dark n z p = let q : get_or w (128 + n) 0 ≡ 1 = (S.own n (queued p)).1 in let f : ◌≡◌ {A = ℕ} 0 1 = sym z ∙ q in omega arith

-- the marks are determined, whatever the queue before them is
pub marked_one : (g : List ℕ) (s : Size) (a : ℕ) (w v : List ℕ) → Marked g s a w → Marked g s a v → (n : ℕ) → get_or w (128 + n) 0 ≡ get_or v (128 + n) 0
marked_one g s a w v M N n =
    split (eqb (get_or w (128 + n) 0) 0)
    (λ u. let x : get_or w (128 + n) 0 ≡ 0 = eqb-true (get_or w (128 + n) 0) 0 u in
    split (eqb (get_or v (128 + n) 0) 0)
    (λ y. x ∙ sym (eqb-true (get_or v (128 + n) 0) 0 y))
    (λ y. absurd (M.no n x (N.yes n (eqb-false (get_or v (128 + n) 0) 0 y)))))
    (λ u. let x : get_or w (128 + n) 0 ≡ 0 → ⊥ = eqb-false (get_or w (128 + n) 0) 0 u in
    split (eqb (get_or v (128 + n) 0) 0)
    (λ y. absurd (N.no n (eqb-true (get_or v (128 + n) 0) 0 y) (M.yes n x)))
    (λ y. M.one n x ∙ sym (N.one n (eqb-false (get_or v (128 + n) 0) 0 y))))

module _ (g : List ℕ) (s : Size) (S : Stored g s) where
  pub whole : GraphWhole (graph_in g s)
  whole = record { some = omega (arith, nodes_count g s S, S.some); ends = ends }
    where
      ends : (e : Edge) → In e (graph_in g s).edges → e.target < length (graph_in g s).nodes
      ends e i =
          let r = edge_place g s S e i in
          let b : (edge_in g r.0).target < s.nodes = target_below g s S r.0 r.1 in
          omega (arith, nodes_count g s S, ap (λ (x : Edge). x.target) r.2)

-- from the root the marks are the reached nodes
marks_reached : (g : List ℕ) (s : Size) (w : List ℕ) → Marked g s 0 w → (n : ℕ) → unmarked w n ≡ not (has n (reached (graph_in g s)))
unfolding unmarked
marks_reached g s w M n =
    split (eqb (get_or w (128 + n) 0) 0)
    (λ u. split (has n (reached (graph_in g s)))
    (λ r. absurd (M.no n (eqb-true (get_or w (128 + n) 0) 0 u) (reached_path (graph_in g s) n r)))
    (λ r. rw (u, r)))
    (λ u. rw (u, path_reached (graph_in g s) (whole g s M.stored) n (M.yes n (eqb-false (get_or w (128 + n) 0) 0 u))))

-- there is a root to start from
pub root_there : (g : List ℕ) (s : Size) (ls : List ℕ) → Chains g s ls → 0 < s.nodes
root_there g s ls C = C.stored.some

-- ---- the lowest node without a mark

-- its number plus one, or 0
abbrev pub lowest_of : Maybe ℕ → ℕ
lowest_of none = 0
lowest_of (some n) = n + 1

-- its number, if there is one
abbrev pub lowest_node : Maybe ℕ → Option ℕ
lowest_node none = None
lowest_node (some n) = Some n

unfoldable pub lowest_in : List ℕ → ℕ → Option ℕ
lowest_in w k = lowest_node (first (unmarked w) (upto k 0))

-- what is left to look through from i on
unfoldable pub lowest_left : List ℕ → ℕ → ℕ → Option ℕ
lowest_left w k i = lowest_node (first (unmarked w) (upto (k - i) i))

module _ (w : List ℕ) (k : ℕ) where
  pub lowest_start : lowest_left w k 0 ≡ lowest_in w k
  unfolding lowest_left lowest_in
  lowest_start = let z : k - 0 ≡ k = omega arith in rw z

  opened : (i : ℕ) → i < k → lowest_left w k i ≡ lowest_node (elim (unmarked w i) [ true ↦ some i | false ↦ first (unmarked w) (upto (k - suc i) (suc i)) ])
  unfolding lowest_left
  opened i l = let z : k - i ≡ suc (k - suc i) = omega arith in rw z

  pub lowest_hit : (i : ℕ) (W : Option ℕ) → lowest_left w k i ≡ W → i < k → get_or w (128 + i) 0 ≡ 0 → Some i ≡ W
  unfolding unmarked
  lowest_hit i W q l e = sym (opened i l ∙ rw (eq-eqb (get_or w (128 + i) 0) 0 e)) ∙ q

  pub lowest_next : (i : ℕ) (W : Option ℕ) → lowest_left w k i ≡ W → i < k → (get_or w (128 + i) 0 ≡ 0 → ⊥) → lowest_left w k (i + 1) ≡ W
  unfolding unmarked lowest_left
  lowest_next i W q l d = rw (add-one i) (sym (opened i l ∙ rw (ne_eqb (get_or w (128 + i) 0) 0 d)) ∙ q)

  pub lowest_end : (i : ℕ) (W : Option ℕ) → lowest_left w k i ≡ W → k ≤ i → None ≡ W
  unfolding lowest_left
  lowest_end i W q l = let z : k - i ≡ 0 = omega arith in rw z at q

pub ruleset lowests = (lowest_start, lowest_hit, lowest_next, lowest_end)

first_same : (p q : ℕ → Bool) (l : List ℕ) → ((n : ℕ) → In n l → p n ≡ q n) → first p l ≡ first q l
first_same p q [] f = refl
first_same p q (n ∷ l) f =
    let e : p n ≡ q n = f n (inl refl) in
    split (q n)
    (λ t. let u : p n ≡ true = e ∙ t in rw (u, t, first))
    (λ t. let u : p n ≡ false = e ∙ t in rw (u, t, first) (first_same p q l (λ m i. f m (inr i))))

pub lowest_unreached : (g : List ℕ) (s : Size) (w : List ℕ) (r : Option ℕ) → Marked g s 0 w → r ≡ lowest_in w s.nodes → r ≡ lowest_node (unreached (graph_in g s))
unfolding lowest_in unreached
lowest_unreached g s w r M q =
    q ∙ ap lowest_node
    (first_same (unmarked w) (λ n. not (has n (reached (graph_in g s)))) (upto s.nodes 0) (λ n i. marks_reached g s w M n)
    ∙ ap (λ (k : ℕ). first (λ n. not (has n (reached (graph_in g s)))) (upto k 0)) (sym (nodes_count g s M.stored)))
