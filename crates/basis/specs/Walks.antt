-- Walking the chains of `Chains`: the laws of a loop that goes along one chain, what such a loop computes, and the same said of lists.
-- The loop is `let mut e = head; while 0 < e { let i = e - 1; ..item i..; e = link of i; }`.
use Rattle.std.specs.Prelude.{◌≡◌, Bool, true, false, not, length, take, drop, eqb, ltb}
use Rattle.std.proofs.Math.Path.{refl, sym, ap}
use Rattle.std.proofs.Common.{◌∙◌, inl, inr, not-suc-le-zero, sub-one, arith, drop_of_length-le, take-suc, length-take-le, drop-cons, get_or-take, eqb-true, eq-eqb, ne_eqb, lt-ltb, le-ltb}
use mathlib.Core.List.{List, [], ◌∷◌, ◌++◌, map, reverse, reverse-append, reverse-cons}
use Prim.Native.Nat.{ℕ, zero, suc, ◌-◌, ◌<◌, ◌≤◌}
use Rattle.std.proofs.Math.ListN.{get_or}
use Rattle.std.proofs.Math.Seq.{take-length}
use Rattle.std.proofs.lemmas.Bool.{eqb-false, not-true, not-false}
use Rattle.basis.specs.Lists.{any, all, filter}
use Rattle.basis.specs.Members.{split, either, In}
use Rattle.basis.specs.Chains.{Layout, slot, newest, downs, oldest, ups, Chained, Risen, SameChains, Agree, keyed, chain_same, rise_same, newest_zero}
use Rattle.basis.specs.Chains.{newest_hit, newest_miss, downs_zero, downs_hit, downs_miss, oldest_hit, oldest_miss, oldest_past, ups_hit, ups_miss}
use Rattle.basis.specs.Chains.{ups_past}

-- ---- newest first
-- What is left to walk at the stored value e is `downs key e n`: it begins as `downs key m n`, and e falls.

newest_le : (key : ℕ → ℕ) (j n : ℕ) → newest key j n ≤ j
newest_le key zero n = omega (arith, newest_zero key n)
newest_le key (suc j) n =
    split (eqb (key j) n) (λ t. omega (arith, newest_hit key j n t)) (λ t. omega (arith, newest_miss key j n t, newest_le key j n))

newest_own : (key : ℕ → ℕ) (j n : ℕ) → newest key (newest key j n) n ≡ newest key j n
newest_own key zero n = ap (λ (k : ℕ). newest key k n) (newest_zero key n)
newest_own key (suc j) n =
    split (eqb (key j) n) (λ t. ap (λ (k : ℕ). newest key k n) (newest_hit key j n t)) (λ t. rw (newest_miss key j n t) (newest_own key j n))

down_jump : (key : ℕ → ℕ) (j n : ℕ) → downs key (newest key j n) n ≡ downs key j n
down_jump key zero n = ap (λ (k : ℕ). downs key k n) (newest_zero key n)
down_jump key (suc j) n =
    split (eqb (key j) n)
    (λ t. ap (λ (k : ℕ). downs key k n) (newest_hit key j n t))
    (λ t. rw (newest_miss key j n t) (down_jump key j n ∙ sym (downs_miss key j n t)))

newest_key : (key : ℕ → ℕ) (j n : ℕ) → newest key (suc j) n ≡ suc j → eqb (key j) n ≡ true
newest_key key j n h =
    split (eqb (key j) n) (λ t. t) (λ t. absurd (never (sym (newest_miss key j n t) ∙ h)))
  where
    never : newest key j n ≡ suc j → ⊥
    never z = omega (arith, newest_le key j n)

-- e is 0, or one more than an item of chain n
pub record Down (L : Layout) (key : ℕ → ℕ) (ls : List ℕ) (m n e : ℕ) : Type 0 where
  pub chain : Chained L key ls m
  pub known : n < L.keys
  pub low : e ≤ m
  pub own : newest key e n ≡ e

module _ (L : Layout) (key : ℕ → ℕ) (ls : List ℕ) (m n : ℕ) where
  downed : (j r : ℕ) → Chained L key ls m → n < L.keys → j ≤ m → r ≡ newest key j n → Down L key ls m n r
  downed j r C k h q = record { chain = C; known = k; low = omega (arith, newest_le key j n); own = rw q (newest_own key j n) }

  pub down_start : (r : ℕ) → Chained L key ls m → n < L.keys → r ≡ get_or ls (slot L.heads n) 0 → Down L key ls m n r
  down_start r C k q = downed m r C k (omega arith) (q ∙ C.head n k)

  pub down_all : (r : ℕ) → Chained L key ls m → n < L.keys → r ≡ get_or ls (slot L.heads n) 0 → downs key r n ≡ downs key m n
  down_all r C k q = ap (λ (z : ℕ). downs key z n) (q ∙ C.head n k) ∙ down_jump key m n

  follow : (j r : ℕ) → Down L key ls m n (suc j) → r ≡ get_or ls (slot L.links j) 0 → r ≡ newest key j n
  follow j r D q =
      let z : key j ≡ n = eqb-true (key j) n (newest_key key j n D.own) in
      q ∙ D.chain.link j (omega (arith, D.low)) (omega (arith, D.known)) ∙ ap (newest key j) z

  pub down_key : (e : ℕ) → Down L key ls m n e → 0 < e → key (e - 1) ≡ n
  down_key zero D h = absurd (not-suc-le-zero h)
  down_key (suc j) D h = rw (sub-one (suc j)) (eqb-true (key j) n (newest_key key j n D.own))

  pub down_below : (e : ℕ) → Down L key ls m n e → 0 < e → e - 1 < m
  down_below e D h = omega (arith, D.low)

  pub down_next : (e r : ℕ) → Down L key ls m n e → 0 < e → r ≡ get_or ls (slot L.links (e - 1)) 0 → Down L key ls m n r
  down_next zero r D h q = absurd (not-suc-le-zero h)
  down_next (suc j) r D h q = downed j r D.chain D.known (omega (arith, D.low)) (follow j r D (rw (sub-one (suc j)) at q))

  pub down_less : (e r : ℕ) → Down L key ls m n e → 0 < e → r ≡ get_or ls (slot L.links (e - 1)) 0 → r < e
  down_less zero r D h q = absurd (not-suc-le-zero h)
  down_less (suc j) r D h q = omega (arith, follow j r D (rw (sub-one (suc j)) at q), newest_le key j n)

  pub down_cons : (e r : ℕ) → Down L key ls m n e → 0 < e → r ≡ get_or ls (slot L.links (e - 1)) 0 → downs key e n ≡ (e - 1) ∷ downs key r n
  down_cons zero r D h q = absurd (not-suc-le-zero h)
  down_cons (suc j) r D h q =
      rw (sub-one (suc j))
      (downs_hit key j n (newest_key key j n D.own)
      ∙ ap (λ (l : List ℕ). j ∷ l) (sym (down_jump key j n) ∙ ap (λ (z : ℕ). downs key z n) (sym (follow j r D (rw (sub-one (suc j)) at q)))))

pub down_end : (key : ℕ → ℕ) (n e : ℕ) → e ≤ 0 → downs key e n ≡ []
down_end key n zero h = downs_zero key n
down_end key n (suc e) h = absurd (not-suc-le-zero h)

-- ---- oldest first, by the same loop
-- What is left to walk at the stored value e is `up_from key m n e`: it begins as `ups key 0 m n`, and `up_left m e` falls.

unfoldable pub up_from : (ℕ → ℕ) → ℕ → ℕ → ℕ → List ℕ
up_from key m n zero = []
up_from key m n (suc i) = ups key i m n

unfoldable pub up_left : ℕ → ℕ → ℕ
up_left m zero = 0
up_left m (suc i) = m - i

up_jump : (key : ℕ → ℕ) (k e m n : ℕ) → m - e ≡ k → up_from key m n (oldest key e m n) ≡ ups key e m n
unfolding up_from
up_jump key zero e m n z = rw (oldest_past key e m n (omega arith)) (sym (ups_past key e m n (omega arith)))
up_jump key (suc k) e m n z =
    let h : e < m = omega arith in
    split (eqb (key e) n)
    (λ t. rw (oldest_hit key e m n h t))
    (λ t. rw (oldest_miss key e m n h t) (up_jump key k (suc e) m n (omega arith) ∙ sym (ups_miss key e m n h t)))

-- r is 0, or one more than an item from e on, below m, whose key is n
record Found (key : ℕ → ℕ) (e m n r : ℕ) : Type 0 where
  high : r ≤ m
  key_is : (i : ℕ) → r ≡ suc i → key i ≡ n
  past : (i : ℕ) → r ≡ suc i → e ≤ i

found : (key : ℕ → ℕ) (k e m n : ℕ) → m - e ≡ k → Found key e m n (oldest key e m n)
found key zero e m n z =
    rw (oldest_past key e m n (omega arith)) (record { high = omega arith; key_is = λ i q. omega arith; past = λ i q. omega arith })
found key (suc k) e m n z =
    let h : e < m = omega arith in
    split (eqb (key e) n)
    (λ t. rw (oldest_hit key e m n h t)
    (record { high = h; key_is = λ i q. let y : i ≡ e = omega arith in rw y (eqb-true (key e) n t); past = λ i q. omega arith }))
    (λ t. let F : Found key (suc e) m n (oldest key (suc e) m n) = found key k (suc e) m n (omega arith) in
    rw (oldest_miss key e m n h t) (record { high = F.high; key_is = F.key_is; past = λ i q. omega (arith, F.past i q) }))

-- e is 0, or one more than an item of chain n
pub record Up (L : Layout) (key : ℕ → ℕ) (ls : List ℕ) (m n e : ℕ) : Type 0 where
  pub chain : Risen L key ls m 0
  pub known : n < L.keys
  pub low : e ≤ m
  pub own : (i : ℕ) → e ≡ suc i → key i ≡ n

module _ (L : Layout) (key : ℕ → ℕ) (ls : List ℕ) (m n : ℕ) where
  upped : (j r : ℕ) → Risen L key ls m 0 → n < L.keys → r ≡ oldest key j m n → Up L key ls m n r
  upped j r R k q =
      let F : Found key j m n r = rw q (found key (m - j) j m n refl) in
      record { chain = R; known = k; low = F.high; own = F.key_is }

  pub up_start : (r : ℕ) → Risen L key ls m 0 → n < L.keys → r ≡ get_or ls (slot L.heads n) 0 → Up L key ls m n r
  up_start r R k q = upped 0 r R k (q ∙ R.head n k)

  pub up_all : (r : ℕ) → Risen L key ls m 0 → n < L.keys → r ≡ get_or ls (slot L.heads n) 0 → up_from key m n r ≡ ups key 0 m n
  up_all r R k q = ap (up_from key m n) (q ∙ R.head n k) ∙ up_jump key (m - 0) 0 m n refl

  pursue : (j r : ℕ) → Up L key ls m n (suc j) → r ≡ get_or ls (slot L.links j) 0 → r ≡ oldest key (suc j) m n
  pursue j r U q =
      let z : key j ≡ n = U.own j refl in
      q ∙ U.chain.link j (omega arith) (omega (arith, U.low)) (omega (arith, U.known)) ∙ ap (oldest key (suc j) m) z

  pub up_key : (e : ℕ) → Up L key ls m n e → 0 < e → key (e - 1) ≡ n
  up_key e U h = U.own (e - 1) (omega arith)

  pub up_below : (e : ℕ) → Up L key ls m n e → 0 < e → e - 1 < m
  up_below e U h = omega (arith, U.low)

  pub up_next : (e r : ℕ) → Up L key ls m n e → 0 < e → r ≡ get_or ls (slot L.links (e - 1)) 0 → Up L key ls m n r
  up_next zero r U h q = absurd (not-suc-le-zero h)
  up_next (suc j) r U h q = upped (suc j) r U.chain U.known (pursue j r U (rw (sub-one (suc j)) at q))

  -- the next item is above this one
  pub up_above : (e r : ℕ) → Up L key ls m n e → 0 < e → r ≡ get_or ls (slot L.links (e - 1)) 0 → 0 < r → e < r
  up_above zero r U h q p = absurd (not-suc-le-zero h)
  up_above (suc j) zero U h q p = absurd (not-suc-le-zero p)
  up_above (suc j) (suc i) U h q p =
      let q' : suc i ≡ oldest key (suc j) m n = pursue j (suc i) U (rw (sub-one (suc j)) at q) in
      omega (arith, (found key (m - suc j) (suc j) m n refl).past i (sym q'))

  pub up_less : (e r : ℕ) → Up L key ls m n e → 0 < e → r ≡ get_or ls (slot L.links (e - 1)) 0 → up_left m r < up_left m e
  unfolding up_left
  up_less zero r U h q = absurd (not-suc-le-zero h)
  up_less (suc j) zero U h q = omega (arith, U.low)
  up_less (suc j) (suc i) U h q =
      omega (arith, U.low, up_above (suc j) (suc i) U h q (omega arith), (up_next (suc j) (suc i) U h q).low)

  pub up_cons : (e r : ℕ) → Up L key ls m n e → 0 < e → r ≡ get_or ls (slot L.links (e - 1)) 0 → up_from key m n e ≡ (e - 1) ∷ up_from key m n r
  unfolding up_from
  up_cons zero r U h q = absurd (not-suc-le-zero h)
  up_cons (suc j) r U h q =
      rw (sub-one (suc j))
      (ups_hit key j m n (omega (arith, U.low)) (eq-eqb (key j) n (U.own j refl))
      ∙ ap (λ (l : List ℕ). j ∷ l) (sym (up_jump key (m - suc j) (suc j) m n refl) ∙ ap (up_from key m n) (sym (pursue j r U (rw (sub-one (suc j)) at q)))))

  pub up_same : (l : List ℕ) (e : ℕ) → Up L key ls m n e → SameChains L ls l → Up L key l m n e
  up_same l e U S = record { chain = rise_same L key ls l m 0 U.chain S; known = U.known; low = U.low; own = U.own }

pub up_end : (key : ℕ → ℕ) (m n e : ℕ) → e ≤ 0 → up_from key m n e ≡ []
unfolding up_from
up_end key m n zero h = refl
up_end key m n (suc e) h = absurd (not-suc-le-zero h)

-- the walk itself: it starts, goes on, and its measure e falls
pub ruleset walks_down = (down_start, down_next, down_less)

-- ---- what a loop computes over the items, whatever the way it walks

-- some item passes
unfoldable pub some_of : (ℕ → Bool) → List ℕ → Bool
some_of p l = any p l

-- every item passes
unfoldable pub every_of : (ℕ → Bool) → List ℕ → Bool
every_of p l = all p l

-- one more than the first item that passes, or 0
unfoldable pub found_first : (ℕ → Bool) → List ℕ → ℕ
found_first p [] = 0
found_first p (i ∷ l) = elim (p i) [ true ↦ suc i | false ↦ found_first p l ]

-- a value that each item changes
unfoldable pub fold_of : {A : Type 0} → (A → ℕ → A) → A → List ℕ → A
fold_of f a [] = a
fold_of f a (i ∷ l) = fold_of f (f a i) l

module _ (p : ℕ → Bool) (xs l : List ℕ) (i : ℕ) (c : xs ≡ i ∷ l) (t : Bool) (q : t ≡ p i) where
  some_hit : t ≡ true → some_of p xs ≡ true
  unfolding some_of
  some_hit h = rw c (rw ((sym q ∙ h), any))

  some_miss : t ≡ false → some_of p xs ≡ some_of p l
  unfolding some_of
  some_miss h = rw c (rw ((sym q ∙ h), any))

  first_hit : t ≡ true → found_first p xs ≡ suc i
  unfolding found_first
  first_hit h = rw c (rw ((sym q ∙ h), found_first))

  first_miss : t ≡ false → found_first p xs ≡ found_first p l
  unfolding found_first
  first_miss h = rw c (rw ((sym q ∙ h), found_first))

-- ---- the same for each way, as code leaves it: W is the whole, which the loop's invariant equates with what is left.
-- Test t of item e - 1 is a call's answer; `first` gives the stored value e itself.

module _ (L : Layout) (key : ℕ → ℕ) (ls : List ℕ) (m n : ℕ) where
  down_rest : (e : ℕ) → Down L key ls m n e → 0 < e → downs key e n ≡ (e - 1) ∷ downs key (get_or ls (slot L.links (e - 1)) 0) n
  down_rest e D h = down_cons L key ls m n e (get_or ls (slot L.links (e - 1)) 0) D h refl

  pub some_down : (p : ℕ → Bool) (r : ℕ) → Chained L key ls m → n < L.keys → r ≡ get_or ls (slot L.heads n) 0
      → some_of p (downs key r n) ≡ some_of p (downs key m n)
  some_down p r C k q = ap (some_of p) (down_all L key ls m n r C k q)

  pub some_down_hit : (p : ℕ → Bool) (e : ℕ) (t : Bool) (W : Bool) → some_of p (downs key e n) ≡ W → Down L key ls m n e → 0 < e → t ≡ p (e - 1) → t ≡ true
      → true ≡ W
  some_down_hit p e t W i D h q b = sym (some_hit p (downs key e n) (downs key (get_or ls (slot L.links (e - 1)) 0) n) (e - 1) (down_rest e D h) t q b) ∙ i

  pub some_down_next : (p : ℕ → Bool) (e r : ℕ) (t : Bool) (W : Bool) → some_of p (downs key e n) ≡ W → Down L key ls m n e → 0 < e → t ≡ p (e - 1) → t ≡ false
      → r ≡ get_or ls (slot L.links (e - 1)) 0 → some_of p (downs key r n) ≡ W
  some_down_next p e r t W i D h q b z = sym (some_miss p (downs key e n) (downs key r n) (e - 1) (down_cons L key ls m n e r D h z) t q b) ∙ i

  pub first_down : (p : ℕ → Bool) (r : ℕ) → Chained L key ls m → n < L.keys → r ≡ get_or ls (slot L.heads n) 0
      → found_first p (downs key r n) ≡ found_first p (downs key m n)
  first_down p r C k q = ap (found_first p) (down_all L key ls m n r C k q)

pub some_down_end : (p : ℕ → Bool) (key : ℕ → ℕ) (n e : ℕ) (W : Bool) → some_of p (downs key e n) ≡ W → e ≤ 0 → false ≡ W
unfolding some_of
some_down_end p key n e W i h = ap (some_of p) (sym (down_end key n e h)) ∙ i

-- a walk and what it computes
pub ruleset somes_down = (walks_down, some_down, some_down_hit, some_down_next, some_down_end)

-- ---- the items of a chain as elements of a list: key e is the key of element e

module _ {X : Type 0} (k : X → ℕ) (xs : List X) (d : X) (key : ℕ → ℕ) (n : ℕ) where
  -- of the first m elements, newest first
  pub downs_take : (m : ℕ) → m ≤ length xs → Agree key (λ e. k (get_or xs e d)) m
      → map (λ (e : ℕ). get_or xs e d) (downs key m n) ≡ filter (λ (x : X). eqb (k x) n) (reverse (take m xs))
  downs_take zero h A = rw (downs_zero key n)
  downs_take (suc j) h A =
      let b : Agree key (λ e. k (get_or xs e d)) j = record { agree = λ e l. A.agree e (omega arith) } in
      let r : map (λ (e : ℕ). get_or xs e d) (downs key j n) ≡ filter (λ (x : X). eqb (k x) n) (reverse (take j xs)) = downs_take j (omega arith) b in
      let q : key j ≡ k (get_or xs j d) = A.agree j (omega arith) in
      rw (take-suc xs j d h, reverse-append (take j xs) (get_or xs j d ∷ []))
      (split (eqb (key j) n)
      (λ t. rw (downs_hit key j n t, (rw q at t), filter) (ap (λ (l : List X). get_or xs j d ∷ l) r))
      (λ t. rw (downs_miss key j n t, (rw q at t), filter) r))

  ups_drop : (c e m : ℕ) → m - e ≡ c → m ≤ length xs → Agree key (λ e. k (get_or xs e d)) m
      → map (λ (e : ℕ). get_or xs e d) (ups key e m n) ≡ filter (λ (x : X). eqb (k x) n) (drop e (take m xs))
  ups_drop zero e m z h A =
      let l : length (take m xs) ≤ e = omega (arith, length-take-le m xs h) in
      rw (ups_past key e m n (omega arith), drop_of_length-le (take m xs) l)
  ups_drop (suc c) e m z h A =
      let l : e < m = omega arith in
      let r : map (λ (e : ℕ). get_or xs e d) (ups key (suc e) m n) ≡ filter (λ (x : X). eqb (k x) n) (drop (suc e) (take m xs)) =
      ups_drop c (suc e) m (omega arith) h A in
      let q : key e ≡ k (get_or xs e d) = A.agree e l in
      let s : e < length (take m xs) = omega (arith, length-take-le m xs h) in
      rw (drop-cons (take m xs) e d s, get_or-take m xs e d l)
      (split (eqb (key e) n)
      (λ t. rw (ups_hit key e m n l t, (rw q at t), filter) (ap (λ (l : List X). get_or xs e d ∷ l) r))
      (λ t. rw (ups_miss key e m n l t, (rw q at t), filter) r))

  -- of the first m elements, oldest first
  pub ups_take : (m : ℕ) → m ≤ length xs → Agree key (λ e. k (get_or xs e d)) m
      → map (λ (e : ℕ). get_or xs e d) (ups key 0 m n) ≡ filter (λ (x : X). eqb (k x) n) (take m xs)
  ups_take m h A = ups_drop (m - 0) 0 m refl h A

-- the same of a whole list
module _ {X : Type 0} (k : X → ℕ) (xs : List X) (d : X) (n : ℕ) where
  pub ups_list : map (λ (e : ℕ). get_or xs e d) (ups (λ e. k (get_or xs e d)) 0 (length xs) n) ≡ filter (λ (x : X). eqb (k x) n) xs
  ups_list = ups_take k xs d (λ e. k (get_or xs e d)) n (length xs) (omega arith) (record { agree = λ e h. refl }) ∙ rw take-length

-- a test of elements over items
pub some_map : {X : Type 0} (q : X → Bool) (f : ℕ → X) (l : List ℕ) → some_of (λ i. q (f i)) l ≡ any q (map f l)
unfolding some_of
some_map q f [] = refl
some_map q f (i ∷ l) = split (q (f i)) (λ t. rw (t, any)) (λ t. rw (t, any) (some_map q f l))

pub every_map : {X : Type 0} (q : X → Bool) (f : ℕ → X) (l : List ℕ) → every_of (λ i. q (f i)) l ≡ all q (map f l)
unfolding every_of
every_map q f [] = refl
every_map q f (i ∷ l) = split (q (f i)) (λ t. rw (t, all) (every_map q f l)) (λ t. rw (t, all))

-- ---- the items of a chain are those below m that have its key

pub downs_in : (key : ℕ → ℕ) (i m n : ℕ) → In i (downs key m n) → (i < m) × (key i ≡ n)
downs_in key i zero n j = absurd (rw (downs_zero key n) at j)
downs_in key i (suc m) n j =
    split (eqb (key m) n)
    (λ t. either (rw (downs_hit key m n t) at j) (λ e. (omega arith, ap key e ∙ eqb-true (key m) n t)) (λ o. let r = downs_in key i m n o in
    (omega (arith, r.0), r.1)))
    (λ t. let r = downs_in key i m n (rw (downs_miss key m n t) at j) in (omega (arith, r.0), r.1))

pub in_downs : (key : ℕ → ℕ) (i m n : ℕ) → i < m → key i ≡ n → In i (downs key m n)
in_downs key i zero n h q = absurd (not-suc-le-zero h)
in_downs key i (suc m) n h q =
    split (eqb i m)
    (λ t. let z : i ≡ m = eqb-true i m t in rw (downs_hit key m n (eq-eqb (key m) n (ap key (sym z) ∙ q))) (inl z))
    (λ t. let l : i < m = omega (arith, eqb-false i m t) in
    split (eqb (key m) n)
    (λ u. rw (downs_hit key m n u) (inr (in_downs key i m n l q)))
    (λ u. rw (downs_miss key m n u) (in_downs key i m n l q)))

ups_in' : (key : ℕ → ℕ) (c i e m n : ℕ) → m - e ≡ c → In i (ups key e m n) → (e ≤ i) × (i < m) × (key i ≡ n)
ups_in' key zero i e m n z j = absurd (rw (ups_past key e m n (omega arith)) at j)
ups_in' key (suc c) i e m n z j =
    let h : e < m = omega arith in
    split (eqb (key e) n)
    (λ t. either (rw (ups_hit key e m n h t) at j) (λ q. (omega arith, omega arith, ap key q ∙ eqb-true (key e) n t)) (λ o.
    let r = ups_in' key c i (suc e) m n (omega arith) o in (omega (arith, r.0), r.1, r.2)))
    (λ t. let r = ups_in' key c i (suc e) m n (omega arith) (rw (ups_miss key e m n h t) at j) in (omega (arith, r.0), r.1, r.2))

pub ups_in_lem : (key : ℕ → ℕ) (i e m n : ℕ) → In i (ups key e m n) → (e ≤ i) × (i < m) × (key i ≡ n)
ups_in_lem key i e m n j = ups_in' key (m - e) i e m n refl j

in_ups' : (key : ℕ → ℕ) (c i e m n : ℕ) → m - e ≡ c → e ≤ i → i < m → key i ≡ n → In i (ups key e m n)
in_ups' key zero i e m n z a h q = absurd (never z)
  where
    never : m - e ≡ 0 → ⊥
    never z = omega arith
in_ups' key (suc c) i e m n z a h q =
    let l : e < m = omega arith in
    split (eqb i e)
    (λ t. let y : i ≡ e = eqb-true i e t in rw (ups_hit key e m n l (eq-eqb (key e) n (ap key (sym y) ∙ q))) (inl y))
    (λ t. let b : suc e ≤ i = omega (arith, eqb-false i e t) in
    split (eqb (key e) n)
    (λ u. rw (ups_hit key e m n l u) (inr (in_ups' key c i (suc e) m n (omega arith) b h q)))
    (λ u. rw (ups_miss key e m n l u) (in_ups' key c i (suc e) m n (omega arith) b h q)))

pub in_ups : (key : ℕ → ℕ) (i e m n : ℕ) → e ≤ i → i < m → key i ≡ n → In i (ups key e m n)
in_ups key i e m n a h q = in_ups' key (m - e) i e m n refl a h q

-- ---- a table of words with a chain for each hash: what the whole table tells, one chain tells

any_snoc : {X : Type 0} (q : X → Bool) (xs : List X) (x : X) → any q (xs ++ (x ∷ [])) ≡ any q (x ∷ xs)
any_snoc q [] x = refl
any_snoc q (y ∷ xs) x =
    split (q y)
    (λ t. rw (t, any) (split (q x) (λ u. rw (u, any)) (λ u. rw (u, any, t, any))))
    (λ t. rw (t, any) (any_snoc q xs x ∙ split (q x) (λ u. rw (u, any)) (λ u. rw (u, any, t, any))))

any_reverse : {X : Type 0} (q : X → Bool) (xs : List X) → any q (reverse xs) ≡ any q xs
any_reverse q [] = refl
any_reverse q (x ∷ xs) =
    rw (reverse-cons x xs) (any_snoc q (reverse xs) x ∙ split (q x) (λ t. rw (t, any)) (λ t. rw (t, any) (any_reverse q xs)))

-- a test that only elements of the filter pass
pub any_filter : {X : Type 0} (q p : X → Bool) → ((x : X) → q x ≡ true → p x ≡ true) → (xs : List X) → any q (filter p xs) ≡ any q xs
any_filter q p f [] = refl
any_filter q p f (x ∷ xs) =
    split (q x)
    (λ t. rw (f x t, filter, t, any))
    (λ t. split (p x) (λ u. rw (u, filter, t, any) (any_filter q p f xs)) (λ u. rw (u, filter, t, any) (any_filter q p f xs)))

module _ (hash : ℕ → ℕ) (ws : List ℕ) (key : ℕ → ℕ) (w m : ℕ) (fits : m ≤ length ws) (A : Agree key (λ e. hash (get_or ws e 0)) m) where
  own_chain : (x : ℕ) → eqb w x ≡ true → eqb (hash x) (hash w) ≡ true
  own_chain x t = eq-eqb (hash x) (hash w) (ap hash (sym (eqb-true w x t)))

  -- w is among the first m words just where it is among those of its chain
  pub has_down : any (eqb w) (map (λ (e : ℕ). get_or ws e 0) (downs key m (hash w))) ≡ any (eqb w) (take m ws)
  has_down =
      rw (downs_take hash ws 0 key (hash w) m fits A)
      (any_filter (eqb w) (λ (x : ℕ). eqb (hash x) (hash w)) own_chain (reverse (take m ws)) ∙ any_reverse (eqb w) (take m ws))

  -- as a loop over the chain computes it
  pub some_has : some_of (λ i. eqb w (get_or ws i 0)) (downs key m (hash w)) ≡ any (eqb w) (take m ws)
  some_has = some_map (eqb w) (λ e. get_or ws e 0) (downs key m (hash w)) ∙ has_down

-- the first item of the chain that has word w is the newest of all that have it
pub first_newest : (word key : ℕ → ℕ) (p : ℕ → Bool) (w n m : ℕ) → ((i : ℕ) → i < m → p i ≡ eqb (word i) w) → ((i : ℕ) → i < m → word i ≡ w → key i ≡ n)
    → found_first p (downs key m n) ≡ newest word m w
unfolding found_first
first_newest word key p w n zero f g = rw (downs_zero key n, newest_zero word w)
first_newest word key p w n (suc j) f g =
    let q : p j ≡ eqb (word j) w = f j (omega arith) in
    let r : found_first p (downs key j n) ≡ newest word j w = first_newest word key p w n j (λ i h. f i (omega arith)) (λ i h. g i (omega arith)) in
    split (eqb (word j) w)
    (λ t. let u : eqb (key j) n ≡ true = eq-eqb (key j) n (g j (omega arith) (eqb-true (word j) w t)) in
    rw (downs_hit key j n u, newest_hit word j w t) (rw ((q ∙ t), found_first)))
    (λ t. split (eqb (key j) n)
    (λ u. rw (downs_hit key j n u, newest_miss word j w t) (rw ((q ∙ t), found_first) r))
    (λ u. rw (downs_miss key j n u, newest_miss word j w t) r))

eqb_turn : (a b : ℕ) → eqb a b ≡ eqb b a
eqb_turn a b = split (eqb b a) (λ t. rw t (eq-eqb a b (sym (eqb-true b a t)))) (λ t. rw t (ne_eqb a b (λ q. eqb-false b a t (sym q))))

-- what `newest` found
newest_is : (word : ℕ → ℕ) (w m r : ℕ) → r ≡ newest word m w → 0 < r → word (r - 1) ≡ w
newest_is word w m zero q h = absurd (not-suc-le-zero h)
newest_is word w m (suc j) q h = rw (sub-one (suc j)) (eqb-true (word j) w (newest_key word j w (rw (← q) at (newest_own word m w))))

newest_below : (word : ℕ → ℕ) (w m r : ℕ) → r ≡ newest word m w → r ≤ m
newest_below word w m r q = rw q (newest_le word m w)

pub newest_none : (word : ℕ → ℕ) (w m r : ℕ) → r ≡ newest word m w → r ≤ 0 → (i : ℕ) → i < m → word i ≡ w → ⊥
newest_none word w zero r q z i h e = not-suc-le-zero h
newest_none word w (suc m) r q z i h e =
    split (eqb (word m) w)
    (λ t. omega (arith, newest_hit word m w t))
    (λ t. split (eqb i m)
    (λ u. eqb-false (word m) w t (ap word (sym (eqb-true i m u)) ∙ e))
    (λ u. newest_none word w m r (q ∙ newest_miss word m w t) z i (omega (arith, eqb-false i m u)) e))

-- one more than the last place of w among the first m words, or 0
unfoldable pub place_of : List ℕ → ℕ → ℕ → ℕ
place_of ws m w = newest (λ e. get_or ws e 0) m w

-- item i is word w
unfoldable pub word_is : List ℕ → ℕ → ℕ → Bool
word_is ws w i = eqb w (get_or ws i 0)

-- looking for w along its chain n, as code leaves it
module _ (L : Layout) (hash : ℕ → ℕ) (ws ls : List ℕ) (m n w r : ℕ) where
  pub has_start : Chained L (keyed hash ws) ls m → n ≡ hash w → n < L.keys → m ≤ length ws → r ≡ get_or ls (slot L.heads n) 0
      → some_of (word_is ws w) (downs (keyed hash ws) r n) ≡ any (eqb w) (take m ws)
  unfolding word_is keyed
  has_start C z f h q =
      some_down L (keyed hash ws) ls m n (word_is ws w) r C f q
      ∙ rw z (some_has hash ws (keyed hash ws) w m h (record { agree = λ e l. refl }))

  pub find_start : Chained L (keyed hash ws) ls m → n ≡ hash w → n < L.keys → r ≡ get_or ls (slot L.heads n) 0
      → found_first (word_is ws w) (downs (keyed hash ws) r n) ≡ place_of ws m w
  unfolding word_is keyed place_of
  find_start C z f q =
      first_down L (keyed hash ws) ls m n (word_is ws w) r C f q
      ∙ first_newest (λ e. get_or ws e 0) (keyed hash ws) (word_is ws w) w n m (λ i h. eqb_turn w (get_or ws i 0)) (λ i h e. ap hash e ∙ sym z)

any_newest : (ws : List ℕ) (m w : ℕ) → m ≤ length ws → any (eqb w) (take m ws) ≡ ltb 0 (newest (λ e. get_or ws e 0) m w)
any_newest ws zero w h = rw (newest_zero (λ e. get_or ws e 0) w)
any_newest ws (suc j) w h =
    let r : any (eqb w) (take j ws) ≡ ltb 0 (newest (λ e. get_or ws e 0) j w) = any_newest ws j w (omega arith) in
    rw (take-suc ws j 0 h)
    (any_snoc (eqb w) (take j ws) (get_or ws j 0)
    ∙ split (eqb (get_or ws j 0) w)
    (λ t. rw ((eqb_turn w (get_or ws j 0) ∙ t), any, newest_hit (λ e. get_or ws e 0) j w t) (sym (lt-ltb 0 (suc j) (omega arith))))
    (λ t. rw ((eqb_turn w (get_or ws j 0) ∙ t), any, newest_miss (λ e. get_or ws e 0) j w t) r))

-- what was found at r, and what it means that nothing was
module _ (ws : List ℕ) (m w r : ℕ) (q : r ≡ place_of ws m w) where
  pub place_is : 0 < r → get_or ws (r - 1) 0 ≡ w
  unfolding place_of
  place_is h = newest_is (λ e. get_or ws e 0) w m r q h

  pub place_below : r ≤ m
  unfolding place_of
  place_below = newest_below (λ e. get_or ws e 0) w m r q

  pub place_none : r ≤ 0 → m ≤ length ws → any (eqb w) (take m ws) ≡ false
  unfolding place_of
  place_none h l = any_newest ws m w l ∙ rw (← q) (le-ltb 0 r h)
