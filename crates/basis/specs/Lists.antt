-- Small functions on lists that the definitions of every layer use. They compute.
use Rattle.std.specs.Prelude.{Bool, true, false, List, [], ◌∷◌, ◌++◌, ℕ, zero, suc, eqb}
use Rattle.std.proofs.Math.Option.{Option, none, some}

module _ {A : Type 0} where
  -- `Iterator::any`: some element passes
  abbrev pub any : (A → Bool) → List A → Bool
  any p [] = false
  any p (x ∷ xs) = elim (p x) [ true ↦ true | false ↦ any p xs ]

  -- `Iterator::all`: every element passes
  abbrev pub all : (A → Bool) → List A → Bool
  all p [] = true
  all p (x ∷ xs) = elim (p x) [ true ↦ all p xs | false ↦ false ]

  -- `Iterator::filter`: those that pass, in their order
  abbrev pub filter : (A → Bool) → List A → List A
  filter p [] = []
  filter p (x ∷ xs) = elim (p x) [ true ↦ x ∷ filter p xs | false ↦ filter p xs ]

  -- `Iterator::take_while`: the longest beginning whose elements all pass
  abbrev pub take_while : (A → Bool) → List A → List A
  take_while p [] = []
  take_while p (x ∷ xs) = elim (p x) [ true ↦ x ∷ take_while p xs | false ↦ [] ]

  -- `Iterator::find`: the first that passes
  abbrev pub first : (A → Bool) → List A → Option A
  first p [] = none
  first p (x ∷ xs) = elim (p x) [ true ↦ some x | false ↦ first p xs ]

  -- `Iterator::position`: the place of the first that passes, where the list's own first has the given number
  abbrev pub place : (A → Bool) → List A → ℕ → Option ℕ
  place p [] i = none
  place p (x ∷ xs) i = elim (p x) [ true ↦ some i | false ↦ place p xs (suc i) ]

  -- `Vec::push`: one more at the end
  abbrev pub snoc : List A → A → List A
  snoc xs x = xs ++ (x ∷ [])

  -- `slice::is_empty`
  abbrev pub is_nil : List A → Bool
  is_nil [] = true
  is_nil (x ∷ xs) = false

  -- `Option::or`, of lists: xs, or ys where xs is empty
  abbrev pub or_else : List A → List A → List A
  or_else [] ys = ys
  or_else (x ∷ xs) ys = x ∷ xs

module _ {A B : Type 0} where
  -- `Iterator::flat_map`
  abbrev pub concat_map : (A → List B) → List A → List B
  concat_map f [] = []
  concat_map f (x ∷ xs) = f x ++ concat_map f xs

-- `slice::contains`: x is among xs
abbrev pub has : ℕ → List ℕ → Bool
has x xs = any (eqb x) xs

-- `Iterator::eq`: the same numbers in the same order
abbrev pub eq_list : List ℕ → List ℕ → Bool
eq_list [] [] = true
eq_list [] (y ∷ ys) = false
eq_list (x ∷ xs) [] = false
eq_list (x ∷ xs) (y ∷ ys) = elim (eqb x y) [ true ↦ eq_list xs ys | false ↦ false ]

-- `Iterator::take`: the first n of the numbers from a on
abbrev pub upto : ℕ → ℕ → List ℕ
upto zero a = []
upto (suc n) a = a ∷ upto n (suc a)
