-- A table is known from the places that changed and from the kids that stand there: part of why the plan is determined.
use Rattle.std.specs.Prelude.{◌≡◌, refl, List, [], ◌∷◌, map, ℕ, zero, suc, ◌+◌, ◌-◌, ◌<◌, ◌≤◌, length, get_or, eqb, ltb}
use Rattle.std.proofs.Common.{sym, ap, ◌∙◌, arith, mod-eq_of_lt, ext_get_or, eqb-true, ltb-true, ltb-false}
use Rattle.std.proofs.lemmas.List.{length-map}
use Rattle.std.proofs.lemmas.Bool.{eqb-false}
use Rattle.basis.specs.Lists.{upto}
use Rattle.basis.specs.Members.{split}
use Rattle.plan.specs.Fields.{kid_at, kids_from}
use Rattle.planning.specs.Along.{Only, Nodes}

-- ---- a table is known from the places that changed

pub only_one : (t u v : List ℕ) (lo hi : ℕ) → Only t u lo hi → Only t v lo hi → ((i : ℕ) → lo ≤ i → i < hi → get_or u i 0 ≡ get_or v i 0) → u ≡ v
only_one t u v lo hi U W f = ext_get_or 0 u v (U.long ∙ sym W.long) each
  where
    each : (i : ℕ) → i < length u → get_or u i 0 ≡ get_or v i 0
    each i l =
        split (ltb i lo)
        (λ a. let h : i < lo = ltb-true i lo a in U.below i h ∙ sym (W.below i h))
        (λ a. split (ltb i hi)
        (λ b. f i (ltb-false i lo a) (ltb-true i hi b))
        (λ b. let h : hi ≤ i = ltb-false i hi b in U.above i h ∙ sym (W.above i h)))

pub length_upto : (c a : ℕ) → length (upto c a) ≡ c
length_upto zero a = refl
length_upto (suc c) a = ap suc (length_upto c (suc a))

pub kids_length : (k : List ℕ) (i e : ℕ) → length (kids_from k i e) ≡ e - i
unfolding kids_from
kids_length k i e = length-map (upto (e - i) i) (kid_at k) ∙ length_upto (e - i) i

abbrev head_of : List ℕ → ℕ
head_of [] = 0
head_of (x ∷ xs) = x

abbrev rest_of : List ℕ → List ℕ
rest_of [] = []
rest_of (x ∷ xs) = xs

pub map_one : (f h : ℕ → ℕ) (c a : ℕ) → map f (upto c a) ≡ map h (upto c a) → (i : ℕ) → a ≤ i → i < a + c → f i ≡ h i
map_one f h zero a q i l m = absurd (never l m)
  where
    never : a ≤ i → i < a + 0 → ⊥
    never l m = omega arith
map_one f h (suc c) a q i l m =
    split (eqb i a)
    (λ t. rw (eqb-true i a t) (ap head_of q))
    (λ t. map_one f h c (suc a) (ap rest_of q) i (omega (arith, eqb-false i a t)) (omega arith))

-- places that hold nodes are known from the kids that stand there
pub kids_one : (u v : List ℕ) (c e : ℕ) → kids_from u c e ≡ kids_from v c e → Nodes u c e → Nodes v c e → (i : ℕ) → c ≤ i → i < e → get_or u i 0 ≡ get_or v i 0
unfolding kids_from kid_at
kids_one u v c e q U W i l m =
    sym (mod-eq_of_lt (U i l m)) ∙ map_one (kid_at u) (kid_at v) (e - c) c q i l (omega arith) ∙ mod-eq_of_lt (W i l m)
