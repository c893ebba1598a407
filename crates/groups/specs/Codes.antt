-- Keys as numbers, codes, by which the code compares: an end is a byte, so that a key's code tells what the key does, in the same order.
use Rattle.std.specs.Prelude.{◌≡◌, ℕ, suc, ◌+◌, ◌*◌, ◌<◌, Bool, true, false, ◌&&◌, ◌||◌, leb, List, [], ◌∷◌, map, reverse, ◌==◌, nat_eq, nat_le, nat_lt, refl}
use Rattle.std.proofs.Common.{sym, ap, ◌∙◌, inl, inr, arith, eqb-true, eq-eqb, ne_eqb, leb-true, leb-false, le-leb, ltb-true, ltb-false}
use Rattle.std.proofs.Math.Option.{Option, none, some}
use Rattle.std.proofs.lemmas.Bool.{eqb-false, lt-leb}
use Rattle.basis.specs.Lists.{eq_list, filter}
use Rattle.basis.specs.Members.{In, All, split, in_filter, in_reverse}
use Rattle.store.specs.declared.Edge.{Edge}
use Rattle.store.specs.declared.Size.{Size}
use Rattle.store.specs.Graph.{Graph, out, into, try_requires}
use Rattle.store.specs.Words.{option_code, requirement_code}
use Rattle.store.specs.Table.{graph_in, source_byte, target_byte}
use Rattle.groups.specs.Groups.{key_le, insert, sort, same_key, same_keys, out_keys, in_keys}

-- a key as one number
abbrev pub key_code : Option ℕ × ℕ → ℕ
key_code x = option_code x.0 * 256 + x.1

abbrev pub out_code : Edge → ℕ
out_code e = requirement_code e.weight * 256 + e.target

abbrev pub in_code : Edge → ℕ
in_code e = requirement_code e.weight * 256 + e.source

-- the codes of a node's outgoing and incoming edges
unfoldable pub out_codes : Graph → ℕ → List ℕ
unfolding out
out_codes G n = map out_code (out G n)

unfoldable pub in_codes : Graph → ℕ → List ℕ
unfolding into
in_codes G n = map in_code (into G n)

-- sorted
abbrev pub insert_code : ℕ → List ℕ → List ℕ
insert_code x [] = x ∷ []
insert_code x (y ∷ ys) = elim (nat_le x y) [ true ↦ x ∷ y ∷ ys | false ↦ y ∷ insert_code x ys ]

abbrev pub sort_codes : List ℕ → List ℕ
sort_codes [] = []
sort_codes (x ∷ xs) = insert_code x (sort_codes xs)

-- ---- the code of each key

recode : {A : Type 0} (f : A → Option ℕ × ℕ) (h : A → ℕ) → ((x : A) → key_code (f x) ≡ h x) → (l : List A) → map key_code (map f l) ≡ map h l
recode f h q [] = refl
recode f h q (x ∷ l) = ap (λ (k : ℕ). k ∷ map key_code (map f l)) (q x) ∙ ap (λ (r : List ℕ). h x ∷ r) (recode f h q l)

module _ (G : Graph) (n : ℕ) where
  pub out_codes_lem : map key_code (out_keys G n) ≡ out_codes G n
  unfolding out_keys out_codes
  out_codes_lem = recode (λ e. (try_requires e.weight, e.target)) out_code (λ e. refl) (out G n)

  pub in_codes_lem : map key_code (in_keys G n) ≡ in_codes G n
  unfolding in_keys in_codes
  in_codes_lem = recode (λ e. (try_requires e.weight, e.source)) in_code (λ e. refl) (into G n)

-- ---- an end below 256: order and equality are those of the codes

-- a key whose end is a byte
abbrev pub Near : Option ℕ × ℕ → Type 0
Near x = x.1 < 256

agree : (a b : Bool) → (a ≡ true → b ≡ true) → (a ≡ false → b ≡ false) → a ≡ b
agree true b f g = sym (f refl)
agree false b f g = sym (g refl)

code_le : (x y : Option ℕ × ℕ) → Near x → Near y → key_le x y ≡ nat_le (key_code x) (key_code y)
code_le (none, a) (none, b) h k =
    agree (nat_le a b) (nat_le (0 * 256 + a) (0 * 256 + b))
    (λ t. le-leb (0 * 256 + a) (0 * 256 + b) (omega (arith, leb-true a b t)))
    (λ t. lt-leb (0 * 256 + a) (0 * 256 + b) (omega (arith, leb-false a b t)))
code_le (none, a) (some r, b) h k = sym (le-leb (0 * 256 + a) (suc r * 256 + b) (omega arith))
code_le (some q, a) (none, b) h k = sym (lt-leb (suc q * 256 + a) (0 * 256 + b) (omega arith))
code_le (some q, a) (some r, b) h k =
    split (nat_lt q r)
    (λ t. rw t (sym (le-leb (suc q * 256 + a) (suc r * 256 + b) (omega (arith, ltb-true q r t)))))
    (λ t. rw t
    (split (q == r)
    (λ u. let z : q ≡ r = eqb-true q r u in
    rw u
    (agree (nat_le a b) (nat_le (suc q * 256 + a) (suc r * 256 + b))
    (λ v. le-leb (suc q * 256 + a) (suc r * 256 + b) (omega (arith, leb-true a b v)))
    (λ v. lt-leb (suc q * 256 + a) (suc r * 256 + b) (omega (arith, leb-false a b v)))))
    (λ u. rw u (sym (lt-leb (suc q * 256 + a) (suc r * 256 + b) (omega (arith, ltb-false q r t, eqb-false q r u)))))))

code_same : (x y : Option ℕ × ℕ) → Near x → Near y → same_key x y ≡ (key_code x == key_code y)
code_same (none, a) (none, b) h k =
    agree (a == b) (0 * 256 + a == 0 * 256 + b)
    (λ t. eq-eqb (0 * 256 + a) (0 * 256 + b) (omega (arith, eqb-true a b t)))
    (λ t. ne_eqb (0 * 256 + a) (0 * 256 + b) (λ e. eqb-false a b t (omega arith)))
code_same (none, a) (some r, b) h k = sym (ne_eqb (0 * 256 + a) (suc r * 256 + b) (λ e. omega arith))
code_same (some q, a) (none, b) h k = sym (ne_eqb (suc q * 256 + a) (0 * 256 + b) (λ e. omega arith))
code_same (some q, a) (some r, b) h k =
    split (q == r)
    (λ u. let z : q ≡ r = eqb-true q r u in
    rw u
    (agree (a == b) (suc q * 256 + a == suc r * 256 + b)
    (λ v. eq-eqb (suc q * 256 + a) (suc r * 256 + b) (omega (arith, eqb-true a b v)))
    (λ v. ne_eqb (suc q * 256 + a) (suc r * 256 + b) (λ e. eqb-false a b v (omega arith)))))
    (λ u. rw u (sym (ne_eqb (suc q * 256 + a) (suc r * 256 + b) (λ e. eqb-false q r u (omega arith)))))

-- ---- sorted lists of keys, as sorted lists of codes

insert_near : (x : Option ℕ × ℕ) (l : List (Option ℕ × ℕ)) → Near x → All Near l → All Near (insert x l)
insert_near x [] h a = (h, tt)
insert_near x (y ∷ l) h a = split (key_le x y) (λ t. rw (t, insert) (h, a)) (λ t. rw (t, insert) (a.0, insert_near x l h a.1))

sort_near : (l : List (Option ℕ × ℕ)) → All Near l → All Near (sort l)
sort_near [] a = tt
sort_near (x ∷ l) a = insert_near x (sort l) a.0 (sort_near l a.1)

codes_insert : (x : Option ℕ × ℕ) (l : List (Option ℕ × ℕ)) → Near x → All Near l
    → map key_code (insert x l) ≡ insert_code (key_code x) (map key_code l)
codes_insert x [] h a = refl
codes_insert x (y ∷ l) h a =
    let q : leb (key_code x) (key_code y) ≡ key_le x y = sym (code_le x y h a.0) in
    split (key_le x y)
    (λ t. rw (t, insert, q ∙ t, insert_code))
    (λ t. rw (t, insert, q ∙ t, insert_code) (ap (λ (r : List ℕ). key_code y ∷ r) (codes_insert x l h a.1)))

codes_sort : (l : List (Option ℕ × ℕ)) → All Near l → map key_code (sort l) ≡ sort_codes (map key_code l)
codes_sort [] a = refl
codes_sort (x ∷ l) a = codes_insert x (sort l) a.0 (sort_near l a.1) ∙ ap (insert_code (key_code x)) (codes_sort l a.1)

codes_same : (l m : List (Option ℕ × ℕ)) → All Near l → All Near m → same_keys l m ≡ eq_list (map key_code l) (map key_code m)
codes_same [] [] a b = refl
codes_same [] (y ∷ m) a b = refl
codes_same (x ∷ l) [] a b = refl
codes_same (x ∷ l) (y ∷ m) a b =
    let q : nat_eq (key_code x) (key_code y) ≡ same_key x y = sym (code_same x y a.0 b.0) in
    split (same_key x y)
    (λ t. rw (t, q ∙ t, eq_list) (codes_same l m a.1 b.1))
    (λ t. rw (t, q ∙ t, eq_list))

pub sorted_codes : (l m : List (Option ℕ × ℕ)) → All Near l → All Near m
    → same_keys (sort l) (sort m) ≡ eq_list (sort_codes (map key_code l)) (sort_codes (map key_code m))
sorted_codes l m a b =
    codes_same (sort l) (sort m) (sort_near l a) (sort_near m b)
    ∙ ap (λ (k : List ℕ). eq_list k (map key_code (sort m))) (codes_sort l a)
    ∙ ap (eq_list (sort_codes (map key_code l))) (codes_sort m b)

-- ---- a graph whose ends are bytes, as those of a stored one are

pub record Ends (G : Graph) : Type 0 where
  pub source : (e : Edge) → In e G.edges → e.source < 256
  pub target : (e : Edge) → In e G.edges → e.target < 256

pub stored_ends : (g : List ℕ) (s : Size) → Ends (graph_in g s)
stored_ends g s = record { source = source_byte g s; target = target_byte g s }

near_all : (f : Edge → Option ℕ × ℕ) (l : List Edge) → ((e : Edge) → In e l → Near (f e)) → All Near (map f l)
near_all f [] h = tt
near_all f (e ∷ l) h = (h e (inl refl), near_all f l (λ d i. h d (inr i)))

module _ (G : Graph) (E : Ends G) where
  out_near : (n : ℕ) → All Near (out_keys G n)
  unfolding out_keys out
  out_near n =
      near_all (λ e. (try_requires e.weight, e.target)) (out G n)
      (λ e i. E.target e (in_reverse e G.edges (in_filter (λ d. nat_eq d.source n) e (reverse G.edges) i).1))

  in_near : (n : ℕ) → All Near (in_keys G n)
  unfolding in_keys into
  in_near n =
      near_all (λ e. (try_requires e.weight, e.source)) (into G n)
      (λ e i. E.source e (in_reverse e G.edges (in_filter (λ d. nat_eq d.target n) e (reverse G.edges) i).1))

  -- "as sorted lists .., are equal": the codes tell it
  pub out_same : (m n : ℕ)
      → same_keys (sort (out_keys G m)) (sort (out_keys G n)) ≡ eq_list (sort_codes (out_codes G m)) (sort_codes (out_codes G n))
  out_same m n = rw (← out_codes_lem G m, ← out_codes_lem G n) (sorted_codes (out_keys G m) (out_keys G n) (out_near m) (out_near n))

  pub in_same : (m n : ℕ)
      → same_keys (sort (in_keys G m)) (sort (in_keys G n)) ≡ eq_list (sort_codes (in_codes G m)) (sort_codes (in_codes G n))
  in_same m n = rw (← in_codes_lem G m, ← in_codes_lem G n) (sorted_codes (in_keys G m) (in_keys G n) (in_near m) (in_near n))
