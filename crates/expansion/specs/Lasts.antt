-- The last solvable under each forbidden name, as the table holds it: one more than its number, 0 for none.
use Rattle.std.specs.Prelude.{◌≡◌, refl, List, [], ◌∷◌, map, ℕ, zero, suc, ◌+◌, ◌<◌, get_or, set, replicate}
use Rattle.std.proofs.Common.{sym, ap, ◌∙◌, add-one}
use Rattle.std.proofs.Math.Option.{Option, none, some}
use Rattle.std.proofs.Math.ListN.{get_or-map}
use Rattle.basis.specs.Chains.{linked}
use Rattle.expansion.specs.Hashed.{triple_lay, last_in, last_put, last_linked, last_none, Clear}
use Rattle.linking.specs.Working.{last_by}

-- by a name's number, the last solvable under that name
unfoldable pub lasts_in : List ℕ → List (Option ℕ)
lasts_in w = map last_by (last_in w)

-- what is read is the last one, coded
pub lasts_read : (w : List ℕ) (n : ℕ) → last_by (get_or (last_in w) n 0) ≡ get_or (lasts_in w) n none
unfolding lasts_in
lasts_read w n = sym (get_or-map last_by (last_in w) n 0)

-- solvable s is the last one under name n where the table has one more than s for it
pub lasts_put : (w l : List ℕ) (n s : ℕ) → l ≡ set w (3072 + n) (s + 1) → n < 128 → lasts_in l ≡ set (lasts_in w) n (some s)
unfolding lasts_in
lasts_put w l n s q h =
    let a : last_in l ≡ set (last_in w) n (suc s) = rw (add-one s) at (last_put w l n (s + 1) q h) in
    ap (map last_by) a ∙ map_set (last_in w) n
  where
    map_set : (xs : List ℕ) (i : ℕ) → map last_by (set xs i (suc s)) ≡ set (map last_by xs) i (some s)
    map_set [] i = refl
    map_set (x ∷ xs) zero = refl
    map_set (x ∷ xs) (suc i) = ap (λ (m : List (Option ℕ)). last_by x ∷ m) (map_set xs i)

-- a triple that is noted leaves them
pub lasts_linked : (w l : List ℕ) (n h : ℕ) → l ≡ linked triple_lay w n h → n < 1024 → h < 2048 → lasts_in l ≡ lasts_in w
unfolding lasts_in
lasts_linked w l n h q a b = ap (map last_by) (last_linked w l n h q a b)

-- they tell the table's numbers
pub lasts_one : (w l : List ℕ) → lasts_in w ≡ lasts_in l → last_in w ≡ last_in l
unfolding lasts_in
lasts_one w l e = sym (again (last_in w)) ∙ ap (map code) e ∙ again (last_in l)
  where
    code : Option ℕ → ℕ
    code none = 0
    code (some p) = suc p

    one : (x : ℕ) → code (last_by x) ≡ x
    one zero = refl
    one (suc p) = refl

    again : (xs : List ℕ) → map code (map last_by xs) ≡ xs
    again [] = refl
    again (x ∷ xs) = ap (λ (n : ℕ). n ∷ map code (map last_by xs)) (one x) ∙ ap (λ (m : List ℕ). x ∷ m) (again xs)

-- a table with no name in it
pub lasts_none : (w : List ℕ) → Clear w → lasts_in w ≡ replicate 128 none
unfolding lasts_in
lasts_none w C = ap (map last_by) (last_none w C)
