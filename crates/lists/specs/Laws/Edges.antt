-- Five numbers an edge, stored one after another, are `edges_over`.
use Rattle.std.specs.Prelude.{◌≡◌, get_or, set}
use Rattle.std.proofs.Math.Path.{refl, ap}
use Rattle.std.proofs.Common.{sym, ◌∙◌, add-one, length-set, take-suc}
use mathlib.Core.List.{List, [], ◌∷◌, ◌++◌}
use Prim.Native.Nat.{ℕ, zero, suc, ◌+◌, ◌*◌, ◌<◌, ◌≤◌}
use native.Mathlib.Omega.{arith}
use Rattle.std.proofs.Math.ListN.{length, take, drop}
use Rattle.basis.specs.Lists.{concat_map}
use Rattle.store.specs.declared.Edge.{Edge}
use Rattle.store.specs.declared.Size.{Size}
use Rattle.store.specs.Table.{graph_in, edge_in, no_edge, Stored, edges_count, edge_in_lem}
use Rattle.lists.specs.Edges.{edge_kind, names_of, numbers_of, edge_numbers, edges_over}

-- ---- one edge, stored

unfoldable pub put : List ℕ → ℕ → Edge → List ℕ
put l a e = set (set (set (set (set l a e.source) (a + 1) e.target) (a + 2) (edge_kind e.weight)) (a + 3) (names_of e.weight)) (a + 4) e.clause

-- each place is inside; x, y, z, w: what was stored before
module _ (l : List ℕ) (a x y z w : ℕ) (h : a + 4 < length l) where
  pub inside_1 : a + 1 < length (set l a x)
  inside_1 = omega (arith, length-set l a x)

  pub inside_2 : a + 2 < length (set (set l a x) (a + 1) y)
  inside_2 = omega (arith, length-set (set l a x) (a + 1) y, length-set l a x)

  pub inside_3 : a + 3 < length (set (set (set l a x) (a + 1) y) (a + 2) z)
  inside_3 = omega (arith, length-set (set (set l a x) (a + 1) y) (a + 2) z, length-set (set l a x) (a + 1) y, length-set l a x)

  pub inside_4 : a + 4 < length (set (set (set (set l a x) (a + 1) y) (a + 2) z) (a + 3) w)
  inside_4 =
      omega (
        arith,
        length-set (set (set (set l a x) (a + 1) y) (a + 2) z) (a + 3) w,
        length-set (set (set l a x) (a + 1) y) (a + 2) z,
        length-set (set l a x) (a + 1) y,
        length-set l a x,
      )

pub ruleset insides = (inside_1, inside_2, inside_3, inside_4)

-- k, n: what the calls gave
pub put_is : (l : List ℕ) (a k n : ℕ) (e : Edge) → k ≡ edge_kind e.weight → n ≡ names_of e.weight
    → set (set (set (set (set l a e.source) (a + 1) e.target) (a + 2) k) (a + 3) n) (a + 4) e.clause ≡ put l a e
unfolding put
put_is l a k n e p q = rw (p, q)

-- x, y: the ends as the list has them
pub put_is_from : (l : List ℕ) (a x y k n : ℕ) (e : Edge) → x ≡ e.source → y ≡ e.target → k ≡ edge_kind e.weight → n ≡ names_of e.weight
    → set (set (set (set (set l a x) (a + 1) y) (a + 2) k) (a + 3) n) (a + 4) e.clause ≡ put l a e
unfolding put
put_is_from l a x y k n e i j p q = rw (i, j, p, q)

put_length : (l : List ℕ) (a : ℕ) (e : Edge) → length (put l a e) ≡ length l
unfolding put
put_length l a e =
    length-set (set (set (set (set l a e.source) (a + 1) e.target) (a + 2) (edge_kind e.weight)) (a + 3) (names_of e.weight)) (a + 4) e.clause
    ∙ length-set (set (set (set l a e.source) (a + 1) e.target) (a + 2) (edge_kind e.weight)) (a + 3) (names_of e.weight)
    ∙ length-set (set (set l a e.source) (a + 1) e.target) (a + 2) (edge_kind e.weight)
    ∙ length-set (set l a e.source) (a + 1) e.target
    ∙ length-set l a e.source

-- five numbers over the front of a list
front_put : (l : List ℕ) (e : Edge) → 5 ≤ length l → put l 0 e ≡ numbers_of e ++ drop 5 l
unfolding put
front_put [] e h = let f : ⊥ = omega arith in absurd f
front_put (x0 ∷ []) e h = let f : ⊥ = omega arith in absurd f
front_put (x0 ∷ x1 ∷ []) e h = let f : ⊥ = omega arith in absurd f
front_put (x0 ∷ x1 ∷ x2 ∷ []) e h = let f : ⊥ = omega arith in absurd f
front_put (x0 ∷ x1 ∷ x2 ∷ x3 ∷ []) e h = let f : ⊥ = omega arith in absurd f
front_put (x0 ∷ x1 ∷ x2 ∷ x3 ∷ x4 ∷ l) e h = refl

-- behind the list xs
behind_put : (xs l : List ℕ) (e : Edge) → put (xs ++ l) (length xs) e ≡ xs ++ put l 0 e
unfolding put
behind_put [] l e = refl
behind_put (x ∷ xs) l e =
    let a : suc (length xs) + 1 ≡ suc (length xs + 1) = omega arith in
    let b : suc (length xs) + 2 ≡ suc (length xs + 2) = omega arith in
    let c : suc (length xs) + 3 ≡ suc (length xs + 3) = omega arith in
    let d : suc (length xs) + 4 ≡ suc (length xs + 4) = omega arith in
    rw (a, b, c, d) (ap (λ (t : List ℕ). x ∷ t) (behind_put xs l e))

-- ---- the first i edges

unfoldable pub edges_to : List ℕ → ℕ → List ℕ → List ℕ
edges_to g zero l = l
edges_to g (suc i) l = put (edges_to g i l) (5 * i) (edge_in g i)

pub to_length : (g : List ℕ) (i : ℕ) (l : List ℕ) → length (edges_to g i l) ≡ length l
unfolding edges_to
to_length g zero l = refl
to_length g (suc i) l = put_length (edges_to g i l) (5 * i) (edge_in g i) ∙ to_length g i l

concat_snoc : (xs : List Edge) (e : Edge) → concat_map numbers_of (xs ++ (e ∷ [])) ≡ concat_map numbers_of xs ++ numbers_of e
concat_snoc [] e = refl
concat_snoc (x ∷ xs) e = ap (λ (t : List ℕ). numbers_of x ++ t) (concat_snoc xs e)

concat_length : (xs : List Edge) → length (concat_map numbers_of xs) ≡ 5 * length xs
concat_length [] = refl
concat_length (x ∷ xs) = omega (arith, concat_length xs)

append_three : (xs ys zs : List ℕ) → xs ++ (ys ++ zs) ≡ (xs ++ ys) ++ zs
append_three [] ys zs = refl
append_three (x ∷ xs) ys zs = ap (λ (t : List ℕ). x ∷ t) (append_three xs ys zs)

drop_more : (a : ℕ) (l : List ℕ) → drop 5 (drop a l) ≡ drop (5 + a) l
drop_more zero l = refl
drop_more (suc a) [] = let z : 5 + suc a ≡ suc (5 + a) = omega arith in rw z
drop_more (suc a) (x ∷ l) = let z : 5 + suc a ≡ suc (5 + a) = omega arith in rw z (drop_more a l)

drop_room : (a b : ℕ) (l : List ℕ) → a + b ≤ length l → b ≤ length (drop a l)
drop_room zero b l h = omega arith
drop_room (suc a) b [] h = omega arith
drop_room (suc a) b (x ∷ l) h = drop_room a b l (omega arith)

module _ (g : List ℕ) (s : Size) (S : Stored g s) (l : List ℕ) (room : 5 * s.edges ≤ length l) where
  abbrev es : List Edge
  es = (graph_in g s).edges

  many : length es ≡ s.edges
  many = edges_count g s S

  to_front : (i : ℕ) → i ≤ s.edges → edges_to g i l ≡ concat_map numbers_of (take i es) ++ drop (5 * i) l
  unfolding edges_to
  to_front zero h = refl
  to_front (suc i) h =
      let ts : List Edge = take i es in
      let b : i < length es = omega (arith, many) in
      let c : length (concat_map numbers_of (take i es)) ≡ 5 * i = concat_length (take i es) ∙ ap (λ (n : ℕ). 5 * n) (take_long i es (omega arith)) in
      let d : 5 + 5 * i ≡ 5 * suc i = omega arith in
      ap (λ (t : List ℕ). put t (5 * i) (edge_in g i)) (to_front i (omega arith))
      ∙ ap (λ (n : ℕ). put (concat_map numbers_of (take i es) ++ drop (5 * i) l) n (edge_in g i)) (sym c)
      ∙ behind_put (concat_map numbers_of (take i es)) (drop (5 * i) l) (edge_in g i)
      ∙ ap (λ (t : List ℕ). concat_map numbers_of (take i es) ++ t) (front_put (drop (5 * i) l) (edge_in g i) (drop_room (5 * i) 5 l (omega arith)))
      ∙ append_three (concat_map numbers_of (take i es)) (numbers_of (edge_in g i)) (drop 5 (drop (5 * i) l))
      ∙ ap (λ (e : Edge). (concat_map numbers_of (take i es) ++ numbers_of e) ++ drop 5 (drop (5 * i) l)) (edge_in_lem g s S i h)
      ∙ ap (λ (t : List ℕ). t ++ drop 5 (drop (5 * i) l)) (sym (ap (concat_map numbers_of) (take-suc es i no_edge b) ∙ concat_snoc (take i es) (get_or es i no_edge)))
      ∙ ap (λ (t : List ℕ). concat_map numbers_of (take (suc i) es) ++ t) (drop_more (5 * i) l ∙ ap (λ (n : ℕ). drop n l) d)
    where
      take_long : (i : ℕ) (xs : List Edge) → i ≤ length xs → length (take i xs) ≡ i
      take_long zero xs h = refl
      take_long (suc i) [] h = let f : ⊥ = omega arith in absurd f
      take_long (suc i) (x ∷ xs) h = ap suc (take_long i xs (omega arith))

  take_whole : (xs : List Edge) → take (length xs) xs ≡ xs
  take_whole [] = refl
  take_whole (x ∷ xs) = ap (λ (t : List Edge). x ∷ t) (take_whole xs)

  to_whole : edges_to g s.edges l ≡ edges_over (graph_in g s) l
  unfolding edges_over edge_numbers
  to_whole =
      to_front s.edges (omega arith)
      ∙ ap (λ (n : ℕ). concat_map numbers_of (take n es) ++ drop (5 * n) l) (sym many)
      ∙ ap (λ (t : List Edge). concat_map numbers_of t ++ drop (5 * length es) l) (take_whole es)

-- ---- the ways of the loop

pub put_none : (g l : List ℕ) → l ≡ edges_to g 0 l
unfolding edges_to
put_none g l = refl

pub put_next : (g l k m : List ℕ) (i : ℕ) (e : Edge) → k ≡ edges_to g i l → e ≡ edge_in g i → m ≡ put k (5 * i) e → m ≡ edges_to g (i + 1) l
unfolding edges_to
put_next g l k m i e q p r = rw (add-one i) (r ∙ ap (λ (t : List ℕ). put t (5 * i) e) q ∙ ap (put (edges_to g i l) (5 * i)) p)

pub put_room : (g l k : List ℕ) (i m : ℕ) → k ≡ edges_to g i l → i < m → 5 * m ≤ length l → 5 * i + 4 < length k
put_room g l k i m q h r = let z : length k ≡ length l = ap length q ∙ to_length g i l in omega arith

pub put_kept : (g l k : List ℕ) (i : ℕ) → k ≡ edges_to g i l → length k ≡ length l
put_kept g l k i q = ap length q ∙ to_length g i l

pub put_all : (g l k : List ℕ) (s : Size) (i : ℕ) → k ≡ edges_to g i l → Stored g s → 5 * s.edges ≤ length l → i ≤ s.edges → s.edges ≤ i
    → k ≡ edges_over (graph_in g s) l
put_all g l k s i q S r a b = let z : i ≡ s.edges = omega arith in q ∙ ap (λ (n : ℕ). edges_to g n l) z ∙ to_whole g s S l r

pub ruleset puts = (put_none, put_next, put_all)
