-- The laws of the code that fills the index (src/lib.rt): for each function one law for each way out of it, in the order of the code.
-- The premises of a law are what the code has tested and what its callees answered on that way; its conclusion is the contract.
use Rattle.std.specs.Prelude.{◌≡◌, refl, true, false, List, [], ◌∷◌, length, get_or, set, drop, eqb, ltb}
use Rattle.std.proofs.Common.{sym, ap, ◌∙◌, add-one, sub-one, not-suc-le-zero, drop_of_length-le, drop-cons}
use Rattle.std.proofs.Math.Option.{Option}
use Prim.Native.Nat.{ℕ, zero, suc, ◌+◌, ◌-◌, ◌/◌, ◌≤◌, ◌<◌}
use native.Mathlib.Omega.{arith}
use borrow.Author.Tests.{lt-ltb, le-ltb, ltb-true, ltb-false, eq-eqb, ne_eqb}
use Rattle.basis.specs.Lists.{all}
use Rattle.basis.specs.Members.{split, clash, All}
use Rattle.basis.specs.Chains.{Layout, linked}
use Rattle.records.specs.declared.Shape.{Shape}
use Rattle.records.specs.Shapes.{Rec, records_of, shape_of, kinds}
use Rattle.records.specs.Tables.{at, no_rec}
use Rattle.records.specs.Cut.{length_cut}
use Rattle.index.specs.declared.Places.{Places}
use Rattle.index.specs.Steps.{table_no_of, no_kind}
use Rattle.index.specs.Index.{placed, record_no, base_of, assign, marked, passed_by, numbered, no_places, hung, key_in, candidate_lay}
use Rattle.index.specs.Index.{partner_lay, candidates_hung, partners_hung}

-- ---- `place`: inside the region what stands there, past it 0

pub place_in : (b l n r : ℕ) (ix : List ℕ) (x : ℕ) → n < l → x ≡ get_or ix (b + n) 0 → r ≡ x → r ≡ placed b l ix n
unfolding placed
place_in b l n r ix x h e q = rw (lt-ltb n l h) (q ∙ e)

pub place_past : (b l n : ℕ) (ix : List ℕ) → l ≤ n → 0 ≡ placed b l ix n
unfolding placed
place_past b l n ix h = rw (le-ltb n l h)

-- ---- `record_no`: m is what stands there, a record's number plus one, or 0 for none

pub record_none : (b l n m : ℕ) (ix : List ℕ) → m ≡ 0 → m ≡ placed b l ix n → 2048 ≡ record_no b l ix n
unfolding record_no
record_none b l n m ix z e = rw (← e, z)

pub record_some : (b l n m : ℕ) (ix : List ℕ) → (m ≡ 0 → ⊥) → m ≡ placed b l ix n → m - 1 ≡ record_no b l ix n
unfolding record_no
record_some b l n zero ix z e = absurd (z refl)
record_some b l n (suc m) ix z e = rw (← e) (sub-one (suc m))

-- ---- `base`: where the table of kind k begins

-- k is n, one of 1 to 8
pub base_at : (k n r : ℕ) → k ≡ n → r ≡ base_of n → r ≡ base_of k
base_at k n r e q = rw e q

-- k is a clause's
pub base_clause : (k : ℕ) → 15 < k → k < 26 → 4032 ≡ base_of k
unfolding base_of table_no_of shape_of
base_clause k h l =
    split (ltb k 17) (λ q. let z : k ≡ 16 = omega (arith, ltb-true k 17 q) in rw z) (λ q. let m16 : 17 ≤ k = ltb-false k 17 q in
    split (ltb k 18) (λ q. let z : k ≡ 17 = omega (arith, ltb-true k 18 q) in rw z) (λ q. let m17 : 18 ≤ k = ltb-false k 18 q in
    split (ltb k 19) (λ q. let z : k ≡ 18 = omega (arith, ltb-true k 19 q) in rw z) (λ q. let m18 : 19 ≤ k = ltb-false k 19 q in
    split (ltb k 20) (λ q. let z : k ≡ 19 = omega (arith, ltb-true k 20 q) in rw z) (λ q. let m19 : 20 ≤ k = ltb-false k 20 q in
    split (ltb k 21) (λ q. let z : k ≡ 20 = omega (arith, ltb-true k 21 q) in rw z) (λ q. let m20 : 21 ≤ k = ltb-false k 21 q in
    split (ltb k 22) (λ q. let z : k ≡ 21 = omega (arith, ltb-true k 22 q) in rw z) (λ q. let m21 : 22 ≤ k = ltb-false k 22 q in
    split (ltb k 23) (λ q. let z : k ≡ 22 = omega (arith, ltb-true k 23 q) in rw z) (λ q. let m22 : 23 ≤ k = ltb-false k 23 q in
    split (ltb k 24) (λ q. let z : k ≡ 23 = omega (arith, ltb-true k 24 q) in rw z) (λ q. let m23 : 24 ≤ k = ltb-false k 24 q in
    split (ltb k 25) (λ q. let z : k ≡ 24 = omega (arith, ltb-true k 25 q) in rw z) (λ q. let m24 : 25 ≤ k = ltb-false k 25 q in
    let z : k ≡ 25 = omega arith in rw z)))))))))

-- k is none of the kinds
base_unknown : (k : ℕ) → All (λ x. eqb k x.0 ≡ false) kinds → 10432 ≡ base_of k
unfolding base_of table_no_of
base_unknown k a = rw (no_kind k a, table_no_of)

-- rows whose kinds are all above k, and rows whose kinds are all below it
rows_above : (k : ℕ) (xs : List (ℕ × Option Shape)) → all (λ x. ltb 15 x.0) xs ≡ true → k ≤ 15 → All (λ x. eqb k x.0 ≡ false) xs
rows_above k [] e h = tt
rows_above k (x ∷ xs) e h =
    split (ltb 15 x.0)
    (λ q. (ne_eqb k x.0 (λ z. omega (arith, ltb-true 15 x.0 q)), rows_above k xs (rw (q, all) at e) h))
    (λ q. clash (cc (rw (q, all) at e)))

rows_below : (k : ℕ) (xs : List (ℕ × Option Shape)) → all (λ x. ltb x.0 26) xs ≡ true → 26 ≤ k → All (λ x. eqb k x.0 ≡ false) xs
rows_below k [] e h = tt
rows_below k (x ∷ xs) e h =
    split (ltb x.0 26)
    (λ q. (ne_eqb k x.0 (λ z. omega (arith, ltb-true x.0 26 q)), rows_below k xs (rw (q, all) at e) h))
    (λ q. clash (cc (rw (q, all) at e)))

-- k is below the clauses' and none of 1 to 8
pub base_none : (k : ℕ) → (k ≡ 1 → ⊥) → (k ≡ 2 → ⊥) → (k ≡ 3 → ⊥) → (k ≡ 4 → ⊥)
    → (k ≡ 5 → ⊥) → (k ≡ 6 → ⊥) → (k ≡ 7 → ⊥) → (k ≡ 8 → ⊥) → k ≤ 15 → 10432 ≡ base_of k
base_none k a b c d e f g i h =
    base_unknown k (
      ne_eqb k 1 a,
      (
        ne_eqb k 2 b,
        (
          ne_eqb k 3 c,
          (
            ne_eqb k 4 d,
            (ne_eqb k 5 e, (ne_eqb k 6 f, (ne_eqb k 7 g, (ne_eqb k 8 i, rows_above k (drop 8 kinds) refl h)))),
          ),
        ),
      ),
    )

-- k is above the clauses'
pub base_high : (k : ℕ) → 26 ≤ k → 10432 ≡ base_of k
base_high k h = base_unknown k (rows_below k kinds refl h)

-- ---- `assign_at`: the record r of kind 8, whose fields the code read as a and b; its clause is below the limit, or it is left out

module _ (r : Rec) (ix : List ℕ) (b b₁ : ℕ) (e : b₁ ≡ r.b) (f : b ≡ b₁) where
  pub assign_in : (a a₁ : ℕ) (iy : List ℕ) → b < 1024 → a₁ ≡ r.a → a ≡ a₁ → iy ≡ set ix (3008 + a) (b + 1) → iy ≡ assign r ix
  unfolding assign
  assign_in a a₁ iy h p q s = rw (← e, ← f, lt-ltb b 1024 h, ← p, ← q) s

  pub assign_out : 1024 ≤ b → ix ≡ assign r ix
  unfolding assign
  assign_out h = rw (← e, ← f, le-ltb b 1024 h)

-- ---- `mark`: record r, number i, whose table begins at b; the index goes from ix to iy

module _ (b i : ℕ) (r : Rec) (c : Places) (ix iy : List ℕ) where
  pub mark_candidate : b ≡ 896 → iy ≡ set ix (896 + c.candidates) (i + 1) → iy ≡ marked b r i c ix
  unfolding marked
  mark_candidate h q = rw (eq-eqb b 896 h) q

  pub mark_clause : (b ≡ 896 → ⊥) → b ≡ 4032 → iy ≡ set ix (4032 + c.clauses) (i + 1) → iy ≡ marked b r i c ix
  unfolding marked
  mark_clause n h q = rw (ne_eqb b 896 n, eq-eqb b 4032 h) q

  pub mark_assigned : (b ≡ 896 → ⊥) → (b ≡ 4032 → ⊥) → b ≡ 3008 → iy ≡ assign r ix → iy ≡ marked b r i c ix
  unfolding marked
  mark_assigned n m h q = rw (ne_eqb b 896 n, ne_eqb b 4032 m, eq-eqb b 3008 h) q

  -- any other table: by the record's own number, which the code read as a
  pub mark_own : (a a₁ : ℕ) → (b ≡ 896 → ⊥) → (b ≡ 4032 → ⊥) → (b ≡ 3008 → ⊥)
      → a₁ ≡ r.a → a ≡ a₁ → iy ≡ set ix (b + a) (i + 1) → iy ≡ marked b r i c ix
  unfolding marked
  mark_own a a₁ n m h p q s = rw (ne_eqb b 896 n, ne_eqb b 4032 m, ne_eqb b 3008 h, ← p, ← q) s

-- ---- `passed`: one candidate more, one clause more, or the places as they were

module _ (b : ℕ) (c : Places) where
  pub pass_candidate : b ≡ 896 → record { candidates = c.candidates + 1; clauses = c.clauses } ≡ passed_by b c
  unfolding passed_by
  pass_candidate h = rw (eq-eqb b 896 h)

  pub pass_clause : (b ≡ 896 → ⊥) → b ≡ 4032 → record { candidates = c.candidates; clauses = c.clauses + 1 } ≡ passed_by b c
  unfolding passed_by
  pass_clause n h = rw (ne_eqb b 896 n, eq-eqb b 4032 h)

  pub pass_other : (b ≡ 896 → ⊥) → (b ≡ 4032 → ⊥) → c ≡ passed_by b c
  unfolding passed_by
  pass_other n m = rw (ne_eqb b 896 n, ne_eqb b 4032 m)

-- ---- `number`: at record i, with the places c and the index ix, what is left to do makes the whole, which is w

unfoldable pub numbers_left : List ℕ → ℕ → Places → List ℕ → List ℕ
unfolding numbered
numbers_left file i c ix = numbered (drop i (records_of file)) i c ix

-- before the first record
pub numbers_start : (file ix : List ℕ)
    → numbers_left file 0 (record { candidates = 0; clauses = 0 }) ix ≡ numbered (records_of file) 0 no_places ix
unfolding numbers_left
numbers_start file ix = refl

-- behind record i: its kind is k, its table begins at b, the places are then d and the index iy
pub numbers_next : (file : List ℕ) (i k b : ℕ) (c d : Places) (ix iy w : List ℕ) → numbers_left file i c ix ≡ w → i < length file / 32
    → k ≡ (at (records_of file) i).kind → b ≡ base_of k → iy ≡ marked b (at (records_of file) i) i c ix → d ≡ passed_by b c
    → numbers_left file (i + 1) d iy ≡ w
unfolding numbers_left numbered
numbers_next file i k b c d ix iy w q h e f g p = rw (add-one, g, p, f, e) (sym one ∙ q)
  where
    r : Rec
    r = at (records_of file) i

    inside : i < length (records_of file)
    inside = rw (length_cut (length file / 32) file) h

    one : numbered (drop i (records_of file)) i c ix
        ≡ numbered (drop (suc i) (records_of file)) (suc i) (passed_by (base_of r.kind) c) (marked (base_of r.kind) r i c ix)
    one = rw (drop-cons (records_of file) i no_rec inside)

-- behind the last
pub numbers_end : (file : List ℕ) (i : ℕ) (c : Places) (ix w : List ℕ) → numbers_left file i c ix ≡ w → length file / 32 ≤ i → ix ≡ w
unfolding numbers_left numbered
numbers_end file i c ix w q h =
    let l : length (records_of file) ≤ i = rw (length_cut (length file / 32) file) h in
    sym (ap (λ (rs : List Rec). numbered rs i c ix) (drop_of_length-le (records_of file) {i = i} l)) ∙ q

-- ---- `key_at`: the record r, whose byte 1 is f and whose kind is k; x is its field a or b as the code read it

module _ (r : Rec) (f k : ℕ) (c : f ≡ r.first) where
  -- not in the core
  pub key_out : (f ≡ 1 → ⊥) → 3072 ≡ key_in r
  unfolding key_in
  key_out h = rw (← c, ne_eqb f 1 h)

  -- AnyOf, by its gate
  pub key_any : (x a : ℕ) → f ≡ 1 → k ≡ r.kind → k ≡ 25 → a ≡ r.a → x ≡ a → x ≡ key_in r
  unfolding key_in
  key_any x a h e q p s = rw (← c, eq-eqb f 1 h, ← e, eq-eqb k 25 q) (s ∙ p)

  -- clauses 23 and 24, by their auxiliary, and those that nobody looks for
  module _ (x b : ℕ) (h : f ≡ 1) (e : k ≡ r.kind) (n : k ≡ 25 → ⊥) (p : b ≡ r.b) (s : x ≡ b) where
    pub key_parent : k ≡ 23 → 1024 + x ≡ key_in r
    unfolding key_in
    key_parent q = rw (← c, eq-eqb f 1 h, ← e, ne_eqb k 25 n, eq-eqb k 23 q, s, p)

    pub key_excluded : (k ≡ 23 → ⊥) → k ≡ 24 → 2048 + x ≡ key_in r
    unfolding key_in
    key_excluded m q = rw (← c, eq-eqb f 1 h, ← e, ne_eqb k 25 n, ne_eqb k 23 m, eq-eqb k 24 q, s, p)

    pub key_other : (k ≡ 23 → ⊥) → (k ≡ 24 → ⊥) → 3072 ≡ key_in r
    unfolding key_in
    key_other m q = rw (← c, eq-eqb f 1 h, ← e, ne_eqb k 25 n, ne_eqb k 23 m, ne_eqb k 24 q)

-- ---- `hang_candidate`, `hang_partner`: item k, whose key is n, goes into the chain of its key, or stays out if there is none

hang_in : (L : Layout) (n : ℕ) (ix iy : List ℕ) (k : ℕ) → n < L.keys → iy ≡ linked L ix k n → iy ≡ hung L n ix k
unfolding hung
hang_in L n ix iy k h e = rw (lt-ltb n L.keys h) e

hang_out : (L : Layout) (n : ℕ) (ix : List ℕ) (k : ℕ) → L.keys ≤ n → ix ≡ hung L n ix k
unfolding hung
hang_out L n ix k h = rw (le-ltb n L.keys h)

-- the requirement of candidate k, and the key of clause k, as the index has them
abbrev requirement_at : List ℕ → List ℕ → ℕ → ℕ
requirement_at file ix k = (at (records_of file) (record_no 896 1024 ix k)).a

abbrev key_of_clause : List ℕ → List ℕ → ℕ → ℕ
key_of_clause file ix k = key_in (at (records_of file) (record_no 4032 1024 ix k))

module _ (file ix : List ℕ) (k i a n : ℕ) (p : i ≡ record_no 896 1024 ix k) (q : a ≡ (at (records_of file) i).a) (e : n ≡ a) where
  is_a : n ≡ requirement_at file ix k
  is_a = e ∙ q ∙ ap (λ (j : ℕ). (at (records_of file) j).a) p

  pub candidate_in_lem : (iy : List ℕ) → n < 256 → iy ≡ linked candidate_lay ix k n → iy ≡ hung candidate_lay (requirement_at file ix k) ix k
  candidate_in_lem iy h s = rw (← is_a) (hang_in candidate_lay n ix iy k h s)

  pub candidate_out : 256 ≤ n → ix ≡ hung candidate_lay (requirement_at file ix k) ix k
  candidate_out h = rw (← is_a) (hang_out candidate_lay n ix k h)

module _ (file ix : List ℕ) (k i n : ℕ) (p : i ≡ record_no 4032 1024 ix k) (q : n ≡ key_in (at (records_of file) i)) where
  is_key : n ≡ key_of_clause file ix k
  is_key = q ∙ ap (λ (j : ℕ). key_in (at (records_of file) j)) p

  pub partner_in : (iy : List ℕ) → n < 3072 → iy ≡ linked partner_lay ix k n → iy ≡ hung partner_lay (key_of_clause file ix k) ix k
  partner_in iy h s = rw (← is_key) (hang_in partner_lay n ix iy k h s)

  pub partner_out : 3072 ≤ n → ix ≡ hung partner_lay (key_of_clause file ix k) ix k
  partner_out h = rw (← is_key) (hang_out partner_lay n ix k h)

-- ---- `hang_candidates`, `hang_partners`: they go down from the last; with j items left, what is left to do makes the whole, w

module _ (file : List ℕ) (j : ℕ) (ix iy w : List ℕ) where
  pub candidates_next : candidates_hung file j ix ≡ w → 0 < j → iy ≡ hung candidate_lay (requirement_at file ix (j - 1)) ix (j - 1)
      → candidates_hung file (j - 1) iy ≡ w
  unfolding candidates_hung
  candidates_next q h e = rw e (sym (down j h) ∙ q)
    where
      down : (j : ℕ) → 0 < j
          → candidates_hung file j ix ≡ candidates_hung file (j - 1) (hung candidate_lay (requirement_at file ix (j - 1)) ix (j - 1))
      down zero h = absurd (not-suc-le-zero h)
      down (suc k) h = rw (sub-one (suc k))

  pub partners_next : partners_hung file j ix ≡ w → 0 < j → iy ≡ hung partner_lay (key_of_clause file ix (j - 1)) ix (j - 1)
      → partners_hung file (j - 1) iy ≡ w
  unfolding partners_hung
  partners_next q h e = rw e (sym (down j h) ∙ q)
    where
      down : (j : ℕ) → 0 < j
          → partners_hung file j ix ≡ partners_hung file (j - 1) (hung partner_lay (key_of_clause file ix (j - 1)) ix (j - 1))
      down zero h = absurd (not-suc-le-zero h)
      down (suc k) h = rw (sub-one (suc k))

  pub candidates_end : candidates_hung file j ix ≡ w → j ≤ 0 → ix ≡ w
  unfolding candidates_hung
  candidates_end q h = let z : j ≡ 0 = omega arith in rw z at q

  pub partners_end : partners_hung file j ix ≡ w → j ≤ 0 → ix ≡ w
  unfolding partners_hung
  partners_end q h = let z : j ≡ 0 = omega arith in rw z at q

-- ---- `fill`: the three behind one another, by way of i0 and i1

pub fill_all : (file ix i0 i1 i2 : List ℕ) (m n : ℕ)
    → i2 ≡ partners_hung file n i1 → i1 ≡ candidates_hung file m i0 → i0 ≡ numbered (records_of file) 0 no_places ix
    → i2 ≡ partners_hung file n (candidates_hung file m (numbered (records_of file) 0 no_places ix))
fill_all file ix i0 i1 i2 m n p q s = rw (← s, ← q) p
