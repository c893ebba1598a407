-- The first node whose text is the same as node n's, over any way `t` to give the nodes texts.
use Rattle.std.specs.Prelude.{◌≡◌, ℕ, zero, suc, ◌+◌, ◌-◌, ◌<◌, ◌≤◌, Bool, true, false, List, length, ◌==◌, ◌≢◌, slice_index, slice_set}
use Rattle.std.proofs.Math.Path.{refl, sym}
use Rattle.std.proofs.Common.{ap, ◌∙◌, not-suc-le-zero, add-one, length-set, get_or-set_same, get_or-set_other, eqb-true, eq-eqb, ne_eqb}
use native.Mathlib.Omega.{arith}
use Rattle.std.proofs.lemmas.Bool.{eqb-false}
use Rattle.basis.specs.Lists.{eq_list}
use Rattle.basis.specs.Members.{split, no_both}
use Rattle.groups.specs.Small.{eq_true, eq_refl}

-- of the k numbers from m on the first that passes, else the one behind them
unfoldable pub seek : (ℕ → Bool) → ℕ → ℕ → ℕ
seek p zero m = m
seek p (suc k) m = elim (p m) [ true ↦ m | false ↦ seek p k (suc m) ]

-- the first node from m on whose text is node n's; n, if no earlier one
unfoldable pub first_from : (ℕ → List ℕ) → ℕ → ℕ → ℕ
unfolding seek
first_from t n m = seek (λ j. eq_list (t j) (t n)) (n - m) m

unfoldable pub first_like : (ℕ → List ℕ) → ℕ → ℕ
unfolding first_from
first_like t n = first_from t n 0

-- the first nodes of the nodes below k in a table; the entries behind stay
unfoldable pub firsts_to : (ℕ → List ℕ) → ℕ → List ℕ → List ℕ
unfolding first_like
firsts_to t zero l = l
firsts_to t (suc k) l = slice_set (firsts_to t k l) k (first_like t k)

-- ---- the ways through the search

pub first_start : (t : ℕ → List ℕ) (n : ℕ) → first_from t n 0 ≡ first_like t n
unfolding first_like
first_start t n = refl

module _ (t : ℕ → List ℕ) (n m Z : ℕ) (i : first_from t n m ≡ Z) where
  pub first_hit : (b : Bool) → b ≡ true → b ≡ eq_list (t m) (t n) → m < n → m ≡ Z
  unfolding first_from seek
  first_hit b e q h = let z : n - m ≡ suc (n - suc m) = omega arith in sym (sym i ∙ rw (z, ← q, e, seek))

  pub first_next : (b : Bool) → b ≡ false → b ≡ eq_list (t m) (t n) → m < n → first_from t n (m + 1) ≡ Z
  unfolding first_from seek
  first_next b e q h = let z : n - m ≡ suc (n - suc m) = omega arith in sym (sym i ∙ rw (z, ← q, e, seek, add-one))

  pub first_end : m ≤ n → n ≤ m → n ≡ Z
  unfolding first_from seek
  first_end h k = let z : n - m ≡ 0 = omega arith in let y : n ≡ m = omega arith in y ∙ sym (sym i ∙ rw z)

-- ---- the table

pub firsts_none : (t : ℕ → List ℕ) (l : List ℕ) → l ≡ firsts_to t 0 l
unfolding firsts_to
firsts_none t l = refl

pub firsts_next : (t : ℕ → List ℕ) (ids l : List ℕ) (n r : ℕ) → ids ≡ firsts_to t n l → r ≡ first_like t n → slice_set ids n r ≡ firsts_to t (n + 1) l
unfolding firsts_to
firsts_next t ids l n r q e = rw (add-one, q, e)

pub firsts_all : (t : ℕ → List ℕ) (ids l : List ℕ) (n k : ℕ) → ids ≡ firsts_to t n l → n ≤ k → k ≤ n → ids ≡ firsts_to t k l
firsts_all t ids l n k q a b = let z : n ≡ k = omega arith in rw z at q

firsts_long : (t : ℕ → List ℕ) (k : ℕ) (l : List ℕ) → length (firsts_to t k l) ≡ length l
unfolding firsts_to
firsts_long t zero l = refl
firsts_long t (suc k) l = rw length-set (firsts_long t k l)

pub firsts_at : (t : ℕ → List ℕ) (k : ℕ) (l : List ℕ) → k ≤ length l → (j : ℕ) → j < k → slice_index (firsts_to t k l) j ≡ first_like t j
unfolding firsts_to
firsts_at t zero l h j i = absurd (not-suc-le-zero i)
firsts_at t (suc k) l h j i =
    split (j == k) (λ u. rw (eqb-true j k u) (get_or-set_same (firsts_to t k l) k (first_like t k) 0 (rw firsts_long (omega arith))))
    (λ u. get_or-set_other (firsts_to t k l) k j (first_like t k) 0 (eqb-false j k u) ∙ firsts_at t k l (omega arith) j (omega (arith, eqb-false j k u)))

pub firsts_past : (t : ℕ → List ℕ) (k : ℕ) (l : List ℕ) (j : ℕ) → k ≤ j → slice_index (firsts_to t k l) j ≡ slice_index l j
unfolding firsts_to
firsts_past t zero l j h = refl
firsts_past t (suc k) l j h =
    get_or-set_other (firsts_to t k l) k j (first_like t k) 0 (apart h) ∙ firsts_past t k l j (omega arith)
  where
    apart : suc k ≤ j → j ≢ k
    apart h e = omega arith

-- ---- two ways to give texts that agree below k

seek_same : (p q : ℕ → Bool) (k m n : ℕ) → m + k ≤ n → ((j : ℕ) → j < n → p j ≡ q j) → seek p k m ≡ seek q k m
unfolding seek
seek_same p q zero m n h f = refl
seek_same p q (suc k) m n h f =
    let e : p m ≡ q m = f m (omega arith) in
    split (q m) (λ u. rw ((e ∙ u), u, seek)) (λ u. rw ((e ∙ u), u, seek) (seek_same p q k (suc m) n (omega arith) f))

module _ (t u : ℕ → List ℕ) (k : ℕ) (f : (j : ℕ) → j < k → t j ≡ u j) where
  first_same : (n : ℕ) → n < k → first_like t n ≡ first_like u n
  unfolding first_like first_from
  first_same n h =
      seek_same (λ j. eq_list (t j) (t n)) (λ j. eq_list (u j) (u n)) (n - 0) 0 n (omega arith) (λ j l. rw (f j (omega arith), f n h))

  pub firsts_same : (n : ℕ) (l : List ℕ) → n ≤ k → firsts_to t n l ≡ firsts_to u n l
  unfolding firsts_to
  firsts_same zero l h = refl
  firsts_same (suc n) l h = rw (firsts_same n l (omega arith), first_same n (omega arith))

-- ---- equal first nodes, equal texts

seek_is : (p : ℕ → Bool) (k m n : ℕ) → m + k ≡ n → p n ≡ true → p (seek p k m) ≡ true
unfolding seek
seek_is p zero m n z e = let y : m ≡ n = omega arith in rw y e
seek_is p (suc k) m n z e = split (p m) (λ u. rw (u, seek) u) (λ u. rw (u, seek) (seek_is p k (suc m) n (omega arith) e))

seek_least : (p : ℕ → Bool) (k m j : ℕ) → m ≤ j → j < seek p k m → p j ≡ false
unfolding seek
seek_least p zero m j h l = absurd (never h l)
  where
    never : m ≤ j → j < m → ⊥
    never h l = omega arith
seek_least p (suc k) m j h l =
    split (p m) (λ u. absurd (never h (rw (u, seek) at l)))
    (λ u. split (j == m) (λ v. rw (eqb-true j m v) u) (λ v. seek_least p k (suc m) j (omega (arith, eqb-false j m v)) (rw (u, seek) at l)))
  where
    never : m ≤ j → j < m → ⊥
    never h l = omega arith

module _ (t : ℕ → List ℕ) where
  -- the first node has the text
  pub first_is : (n : ℕ) → t (first_like t n) ≡ t n
  unfolding first_like first_from
  first_is n =
      eq_true (t (seek (λ j. eq_list (t j) (t n)) (n - 0) 0)) (t n)
      (seek_is (λ j. eq_list (t j) (t n)) (n - 0) 0 n (omega arith) (eq_refl (t n)))

  -- no earlier node has it
  pub first_least : (n j : ℕ) → j < first_like t n → t j ≢ t n
  unfolding first_like first_from
  first_least n j l e =
      no_both (eq_list (t j) (t n)) (rw e (eq_refl (t n))) (seek_least (λ j. eq_list (t j) (t n)) (n - 0) 0 j (omega arith) l)

  first_equal : (m n : ℕ) → t m ≡ t n → first_like t m ≡ first_like t n
  first_equal m n e =
      split (first_like t m == first_like t n)
      (λ u. eqb-true (first_like t m) (first_like t n) u)
      (λ u. absurd (apart (eqb-false (first_like t m) (first_like t n) u)))
    where
      low : first_like t m < first_like t n → ⊥
      low l = first_least n (first_like t m) l (first_is m ∙ e)

      high : first_like t n < first_like t m → ⊥
      high l = first_least m (first_like t n) l (first_is n ∙ sym e)

      apart : (first_like t m ≢ first_like t n) → ⊥
      apart f = f (omega (arith, low, high))

  -- two nodes have the same first node exactly where they have the same text
  pub first_alike : (m n : ℕ) → (first_like t m == first_like t n) ≡ eq_list (t m) (t n)
  first_alike m n =
      split (eq_list (t m) (t n))
      (λ u. rw u (eq-eqb (first_like t m) (first_like t n) (first_equal m n (eq_true (t m) (t n) u))))
      (λ u. rw u (ne_eqb (first_like t m) (first_like t n) (λ e. apart (sym (first_is m) ∙ ap t e ∙ first_is n) u)))
    where
      apart : t m ≡ t n → eq_list (t m) (t n) ≢ false
      apart e u = no_both (eq_list (t m) (t n)) (rw e (eq_refl (t n))) u
