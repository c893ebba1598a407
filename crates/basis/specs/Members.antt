-- Membership and "all of", as types that compute, their laws, and the pigeonhole.
use Rattle.std.specs.Prelude.{◌≡◌, refl, ◌⊎◌, Bool, true, false, ◌&&◌, ℕ, zero, suc, ◌+◌, ◌≤◌, ◌<◌, length, eqb}
use Rattle.std.proofs.Common.{sym, ap, ◌∙◌, subst, inl, inr, true≢false, zero-le, eqb-true, arith}
use Rattle.std.proofs.lemmas.Bool.{false≢true, eqb-false}
use mathlib.Core.List.{List, [], ◌∷◌, ◌++◌, map, reverse, reverse_aux}
use Rattle.basis.specs.Lists.{any, all, filter, has}

-- a Boolean taken apart, with the equation
pub split {ℓ} : {X : Type ℓ} (b : Bool) → (b ≡ true → X) → (b ≡ false → X) → X
split true f g = f refl
split false f g = g refl

pub either {ℓ} : {A B : Type 0} {X : Type ℓ} → A ⊎ B → (A → X) → (B → X) → X
either (inl a) f g = f a
either (inr b) f g = g b

-- two constructors that are said to be equal: have `cc` prove the premise
pub clash {ℓ} : {X : Type ℓ} → ◌≡◌ {A = ℕ} 0 1 → X
clash z = let f : ⊥ = omega arith in absurd f

pub no_both {ℓ} : {X : Type ℓ} (b : Bool) → b ≡ true → b ≡ false → X
no_both b p q = absurd (true≢false (sym p ∙ q))

pub and_true : (a b : Bool) → a && b ≡ true → (a ≡ true) × (b ≡ true)
and_true true b e = (refl, e)
and_true false b e = absurd (false≢true e)

module _ {A : Type 0} where
  abbrev pub In : A → List A → Type 0
  In x [] = ⊥
  In x (y ∷ ys) = (x ≡ y) ⊎ In x ys

  abbrev pub All : (A → Type 0) → List A → Type 0
  All P [] = Unit {0}
  All P (x ∷ xs) = P x × All P xs

  abbrev pub Any : (A → Type 0) → List A → Type 0
  Any P [] = ⊥
  Any P (x ∷ xs) = P x ⊎ Any P xs

  -- no element stands twice
  abbrev pub Distinct : List A → Type 0
  Distinct [] = Unit {0}
  Distinct (x ∷ xs) = (In x xs → ⊥) × Distinct xs

  pub all_append : (P : A → Type 0) (xs ys : List A) → All P xs → All P ys → All P (xs ++ ys)
  all_append P [] ys p q = q
  all_append P (x ∷ xs) ys p q = (p.0, all_append P xs ys p.1 q)

  pub all_map : (P Q : A → Type 0) (xs : List A) → ((x : A) → P x → Q x) → All P xs → All Q xs
  all_map P Q [] f p = tt
  all_map P Q (x ∷ xs) f p = (f x p.0, all_map P Q xs f p.1)

  pub all_in : (P : A → Type 0) (xs : List A) (x : A) → All P xs → In x xs → P x
  all_in P [] x p i = absurd i
  all_in P (y ∷ ys) x p (inl e) = rw e p.0
  all_in P (y ∷ ys) x p (inr i) = all_in P ys x p.1 i

  pub any_left : (P : A → Type 0) (xs ys : List A) → Any P xs → Any P (xs ++ ys)
  any_left P [] ys a = absurd a
  any_left P (x ∷ xs) ys (inl p) = inl p
  any_left P (x ∷ xs) ys (inr a) = inr (any_left P xs ys a)

  pub any_right : (P : A → Type 0) (xs ys : List A) → Any P ys → Any P (xs ++ ys)
  any_right P [] ys a = a
  any_right P (x ∷ xs) ys a = inr (any_right P xs ys a)

  -- ---- where an element of a list made from others comes from

  pub in_append : (x : A) (xs ys : List A) → In x (xs ++ ys) → In x xs ⊎ In x ys
  in_append x [] ys i = inr i
  in_append x (z ∷ zs) ys (inl e) = inl (inl e)
  in_append x (z ∷ zs) ys (inr i) = either (in_append x zs ys i) (λ j. inl (inr j)) (λ j. inr j)

  pub in_left : (x : A) (xs ys : List A) → In x xs → In x (xs ++ ys)
  in_left x [] ys i = absurd i
  in_left x (z ∷ zs) ys (inl e) = inl e
  in_left x (z ∷ zs) ys (inr i) = inr (in_left x zs ys i)

  pub in_right : (x : A) (xs ys : List A) → In x ys → In x (xs ++ ys)
  in_right x [] ys i = i
  in_right x (z ∷ zs) ys i = inr (in_right x zs ys i)

  in_reverse_aux : (x : A) (l acc : List A) → In x (reverse_aux l acc) → In x l ⊎ In x acc
  in_reverse_aux x [] acc i = inr i
  in_reverse_aux x (y ∷ ys) acc i =
      either (in_reverse_aux x ys (y ∷ acc) i) (λ j. inl (inr j)) (λ j. either j (λ e. inl (inl e)) (λ k. inr k))

  pub in_reverse : (x : A) (l : List A) → In x (reverse l) → In x l
  in_reverse x l i = either (in_reverse_aux x l [] i) (λ j. j) (λ z. absurd z)

  pub in_filter : (p : A → Bool) (x : A) (l : List A) → In x (filter p l) → (p x ≡ true) × In x l
  in_filter p x [] i = absurd i
  in_filter p x (y ∷ ys) i =
      split (p y)
      (λ q. either (rw (q, filter) at i) (λ e. (ap p e ∙ q, inl e)) (λ j. let r = in_filter p x ys j in (r.0, inr r.1)))
      (λ q. let r = in_filter p x ys (rw (q, filter) at i) in (r.0, inr r.1))

  pub filter_in : (p : A → Bool) (x : A) (l : List A) → p x ≡ true → In x l → In x (filter p l)
  filter_in p x [] q i = i
  filter_in p x (y ∷ ys) q (inl e) = rw ((ap p (sym e) ∙ q), filter) (inl e)
  filter_in p x (y ∷ ys) q (inr i) =
      split (p y) (λ k. rw (k, filter) (inr (filter_in p x ys q i))) (λ k. rw (k, filter) (filter_in p x ys q i))

  -- ---- what a test over a list tells

  pub any_in : (p : A → Bool) (x : A) (l : List A) → p x ≡ true → In x l → any p l ≡ true
  any_in p x [] q i = absurd i
  any_in p x (y ∷ ys) q (inl e) = rw ((ap p (sym e) ∙ q), any)
  any_in p x (y ∷ ys) q (inr i) = split (p y) (λ k. rw (k, any)) (λ k. rw (k, any) (any_in p x ys q i))

  pub any_some : (p : A → Bool) (l : List A) → any p l ≡ true → (x : A) × In x l × (p x ≡ true)
  any_some p [] e = absurd (false≢true e)
  any_some p (y ∷ ys) e =
      split (p y) (λ q. (y, inl refl, q)) (λ q. let r = any_some p ys (rw (q, any) at e) in (r.0, inr r.1, r.2))

  pub all_at : (p : A → Bool) (x : A) (l : List A) → all p l ≡ true → In x l → p x ≡ true
  all_at p x [] e i = absurd i
  all_at p x (y ∷ ys) e (inl q) =
      split (p y) (λ k. ap p q ∙ k) (λ k. absurd (false≢true (rw (k, all) at e)))
  all_at p x (y ∷ ys) e (inr i) =
      split (p y) (λ k. all_at p x ys (rw (k, all) at e) i) (λ k. absurd (false≢true (rw (k, all) at e)))

  -- ---- no more distinct elements than places for them

  -- a list without one of its elements
  abbrev Without : A → List A → Type 0
  Without x m = (m' : List A) × (length m ≡ suc (length m')) × ((y : A) → In y m → (y ≡ x) ⊎ In y m')

  lift : (z x y : A) (m : List A) → (y ≡ x) ⊎ In y m → (y ≡ x) ⊎ In y (z ∷ m)
  lift z x y m (inl q) = inl q
  lift z x y m (inr j) = inr (inr j)

  without_there : (x z : A) (zs : List A) → Without x zs → Without x (z ∷ zs)
  without_there x z zs r = (z ∷ r.0, ap suc r.1, more)
    where
      more : (y : A) → (y ≡ z) ⊎ In y zs → (y ≡ x) ⊎ In y (z ∷ r.0)
      more y (inl q) = inr (inl q)
      more y (inr j) = lift z x y r.0 (r.2 y j)

  without : (x : A) (m : List A) → In x m → Without x m
  without x [] i = absurd i
  without x (z ∷ zs) (inl e) = (zs, refl, here)
    where
      here : (y : A) → (y ≡ z) ⊎ In y zs → (y ≡ x) ⊎ In y zs
      here y (inl q) = inl (q ∙ sym e)
      here y (inr j) = inr j
  without x (z ∷ zs) (inr i) = without_there x z zs (without x zs i)

  pub pigeon : (l m : List A) → Distinct l → ((x : A) → In x l → In x m) → length l ≤ length m
  pigeon [] m d f = zero-le
  pigeon (x ∷ xs) m d f =
      let w = without x m (f x (inl refl)) in
      let h : length xs ≤ length w.0 = pigeon xs w.0 d.1 (λ y j. back w.0 y j (w.2 y (f y (inr j)))) in
      let e : length m ≡ suc (length w.0) = w.1 in
      omega arith
    where
      back : (m' : List A) (y : A) → In y xs → (y ≡ x) ⊎ In y m' → In y m'
      back m' y j (inl q) = absurd (d.0 (subst (λ (z : A). In z xs) q j))
      back m' y j (inr k) = k

pub map_in : {A B : Type 0} (f : A → B) (x : A) (l : List A) → In x l → In (f x) (map f l)
map_in f x [] i = i
map_in f x (y ∷ ys) (inl e) = inl (ap f e)
map_in f x (y ∷ ys) (inr i) = inr (map_in f x ys i)

-- ---- the test `has`

pub has_in : (x : ℕ) (l : List ℕ) → has x l ≡ true → In x l
has_in x [] e = absurd (false≢true e)
has_in x (y ∷ ys) e = split (eqb x y) (λ q. inl (eqb-true x y q)) (λ q. inr (has_in x ys (rw (q, any) at e)))

pub has_out : (x : ℕ) (l : List ℕ) → has x l ≡ false → In x l → ⊥
has_out x [] e i = i
has_out x (y ∷ ys) e (inl p) = split (eqb x y) (λ q. true≢false (rw (q, any) at e)) (λ q. eqb-false x y q p)
has_out x (y ∷ ys) e (inr i) = split (eqb x y) (λ q. true≢false (rw (q, any) at e)) (λ q. has_out x ys (rw (q, any) at e) i)

pub in_has : (x : ℕ) (l : List ℕ) → In x l → has x l ≡ true
in_has x l i = split (has x l) (λ q. q) (λ q. absurd (has_out x l q i))
