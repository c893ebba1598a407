-- What a repair that ends tells: each record stays and passes over the tables of the repaired ones before it, or the blank clause
-- stands for it.
use Rattle.std.specs.Prelude.{◌≡◌, Bool, ◌&&◌, not, List, [], ◌∷◌, map, ℕ, zero, suc, ◌+◌, ◌≤◌, ◌<◌, length, get_or, eqb}
use Rattle.std.proofs.Math.Path.{refl}
use Rattle.std.proofs.Common.{ap, ◌∙◌, eqb-true, inl, inr}
use Rattle.std.proofs.Math.Bool.{true, false, cond}
use Rattle.std.proofs.Math.Option.{Option, none, some}
use native.Mathlib.Omega.{arith}
use Rattle.std.proofs.Math.Dec.{ltb}
use Rattle.basis.specs.Members.{split, clash, no_both, In, All}
use Rattle.records.specs.declared.Table.{Table}
use Rattle.records.specs.declared.Table.TheVariants.{Names, Solvables, VersionSets, Requirements, Candidates, Reasons, Variables, Assigned, Clauses}
use Rattle.records.specs.declared.Shape.{Shape}
use Rattle.records.specs.declared.First.TheVariants as F
use Rattle.records.specs.declared.Slot.TheVariants as S
use Rattle.records.specs.Shapes.{Rec, rec_of, shape_of, limit}
use Rattle.records.specs.Tables.{Tables, put}
use Rattle.records.specs.Read.{good, read_from, refusal_in}
use Rattle.records.specs.Steps.{Passed, passed, read_next}
use Rattle.index.specs.Steps.{Steps, table_no_of, is_in}
use Rattle.salvage.specs.Salvage.{blank, core_learnt, is_clauses, on_clause, on_other, on_known, verdict_of}
use Rattle.salvage.specs.Salvage.{Mended, mended, halted, with_kept, with_blank, mend_from}
use Rattle.salvage.specs.Salvage.{Verdict, Stays, Replaced, Stops}
use Rattle.reader.specs.Laws.Pieces.{PiecesWhole}

-- ---- one record

-- the record r stays, in table t
pub record Remains (T : Tables) (r : Rec) (t : Table) : Type 0 where
  pub shape : Shape
  pub known : shape_of r.kind ≡ some shape
  pub passes : refusal_in T shape r ≡ 0
  pub unlearnt : core_learnt r ≡ false
  pub place : shape.table ≡ t

-- the record r gives way to the blank clause: it is a clause, and there is room for one
pub record Yields (T : Tables) (r : Rec) : Type 0 where
  pub room : ltb (length T.clauses) (limit Clauses) ≡ true
  pub mine : is_in Clauses r ≡ true

-- the kinds whose table is not that of the clauses are no Learnt
no_learnt : (k : ℕ) (s : Shape) → shape_of k ≡ some s → is_clauses s.table ≡ false → eqb k 18 ≡ false
unfolding shape_of
no_learnt k s e h = split (eqb k 18) (λ q. absurd (bad_18 (eqb-true k 18 q))) (λ q. q)
  where
    of_18 : (s : Shape) → shape_of 18 ≡ some s → is_clauses s.table ≡ true
    of_18 s e = let z : s.table ≡ Clauses = cc in rw z refl

    bad_18 : k ≡ 18 → ⊥
    bad_18 q = no_both (is_clauses s.table) (of_18 s (rw q at e)) h

pub clause_table : (t : Table) → is_clauses t ≡ true → t ≡ Clauses
clause_table Names e = clash (cc)
clause_table Solvables e = clash (cc)
clause_table VersionSets e = clash (cc)
clause_table Requirements e = clash (cc)
clause_table Candidates e = clash (cc)
clause_table Reasons e = clash (cc)
clause_table Variables e = clash (cc)
clause_table Assigned e = clash (cc)
clause_table Clauses e = refl

clause_stays : (a b d : Bool) (t : Table) → cond a (cond (b && not d) (Stays Clauses) Replaced) (Stops 6) ≡ Stays t → (b ≡ true) × (d ≡ false) × (Clauses ≡ t)
clause_stays true true false t e = (refl, refl, cc)
clause_stays true true true t e = clash (cc)
clause_stays true false d t e = clash (cc)
clause_stays false b d t e = clash (cc)

clause_replaced : (a b : Bool) → cond a (cond b (Stays Clauses) Replaced) (Stops 6) ≡ Replaced → a ≡ true
clause_replaced true b e = refl
clause_replaced false b e = clash (cc)

other_stays : (n : ℕ) (u t : Table) → on_other n u ≡ Stays t → (n ≡ 0) × (u ≡ t)
other_stays zero u t e = (refl, cc)
other_stays (suc n) u t e = clash (cc)

other_replaced : (n : ℕ) (u : Table) → on_other n u ≡ Replaced → ⊥
other_replaced zero u e = clash (cc)
other_replaced (suc n) u e = clash (cc)

unlearnt_other : (k : ℕ) (b : Bool) → eqb k 18 ≡ false → (eqb k 18 && b) ≡ false
unlearnt_other k b e = rw e refl

module _ (T : Tables) (r : Rec) where
  known_stays : (s : Shape) → shape_of r.kind ≡ some s → (t : Table) → on_known T s r ≡ Stays t → Remains T r t
  known_stays s k t e = go (is_clauses s.table) refl e
    where
      go : (c : Bool) → is_clauses s.table ≡ c → cond c (on_clause T s r) (on_other (refusal_in T s r) s.table) ≡ Stays t → Remains T r t
      go true q h =
          let p = clause_stays (ltb (length T.clauses) (limit Clauses)) (eqb (refusal_in T s r) 0) (core_learnt r) t h in
          record { shape = s; known = k; passes = eqb-true (refusal_in T s r) 0 p.0; unlearnt = p.1; place = clause_table s.table q ∙ p.2 }
      go false q h =
          let p = other_stays (refusal_in T s r) s.table t h in
          record { shape = s; known = k; passes = p.0; unlearnt = unlearnt_other r.kind (eqb r.first 1) (no_learnt r.kind s k q); place = p.1 }

  is_clause : (s : Shape) → shape_of r.kind ≡ some s → s.table ≡ Clauses → is_in Clauses r ≡ true
  unfolding table_no_of
  is_clause s k q = rw (k, table_no_of) (rw q refl)

  known_replaced : (s : Shape) → shape_of r.kind ≡ some s → on_known T s r ≡ Replaced → Yields T r
  known_replaced s k e = go (is_clauses s.table) refl e
    where
      go : (c : Bool) → is_clauses s.table ≡ c → cond c (on_clause T s r) (on_other (refusal_in T s r) s.table) ≡ Replaced → Yields T r
      go true q h =
          record {
            room = clause_replaced (ltb (length T.clauses) (limit Clauses)) (eqb (refusal_in T s r) 0 && not (core_learnt r)) h;
            mine = is_clause s k (clause_table s.table q);
          }
      go false q h = absurd (other_replaced (refusal_in T s r) s.table h)

  pub it_stays : (t : Table) → verdict_of T r ≡ Stays t → Remains T r t
  unfolding verdict_of
  it_stays t e = go (shape_of r.kind) refl e
    where
      go : (o : Option Shape) → shape_of r.kind ≡ o → elim o as (λ _. Verdict) [ none ↦ Stops 2 | some s ↦ on_known T s r ] ≡ Stays t
          → Remains T r t
      go none k h = clash (cc)
      go (some s) k h = known_stays s k t h

  pub it_is_replaced : verdict_of T r ≡ Replaced → Yields T r
  unfolding verdict_of
  it_is_replaced e = go (shape_of r.kind) refl e
    where
      go : (o : Option Shape) → shape_of r.kind ≡ o → elim o as (λ _. Verdict) [ none ↦ Stops 2 | some s ↦ on_known T s r ] ≡ Replaced → Yields T r
      go none k h = clash (cc)
      go (some s) k h = known_replaced s k h

  pub it_stops : (n : ℕ) → verdict_of T r ≡ Stops n → 1 ≤ n
  unfolding verdict_of
  it_stops n e = go (shape_of r.kind) e
    where
      by_clause : (a b : Bool) → cond a (cond b (Stays Clauses) Replaced) (Stops 6) ≡ Stops n → 1 ≤ n
      by_clause true true h = clash (cc)
      by_clause true false h = clash (cc)
      by_clause false b h = let z : 6 ≡ n = cc in omega arith

      by_other : (k : ℕ) (u : Table) → on_other k u ≡ Stops n → 1 ≤ n
      by_other zero u h = clash (cc)
      by_other (suc k) u h = let z : suc k ≡ n = cc in omega arith

      by_table : (s : Shape) (c : Bool) → cond c (on_clause T s r) (on_other (refusal_in T s r) s.table) ≡ Stops n → 1 ≤ n
      by_table s true h = by_clause (ltb (length T.clauses) (limit Clauses)) (eqb (refusal_in T s r) 0 && not (core_learnt r)) h
      by_table s false h = by_other (refusal_in T s r) s.table h

      go : (o : Option Shape) → elim o as (λ _. Verdict) [ none ↦ Stops 2 | some s ↦ on_known T s r ] ≡ Stops n → 1 ≤ n
      go none h = let z : 2 ≡ n = cc in omega arith
      go (some s) h = by_table s (is_clauses s.table) h

  -- and the other way: a record that passes and is no Learnt in the core stays
  pub stays_by : (s : Shape) → shape_of r.kind ≡ some s → refusal_in T s r ≡ 0 → core_learnt r ≡ false → verdict_of T r ≡ Stays s.table
  unfolding verdict_of
  stays_by s k q l = rw (k, verdict_of) (go (is_clauses s.table) refl)
    where
      room : is_clauses s.table ≡ true → ltb (length T.clauses) (limit Clauses) ≡ true
      room z = rw (clause_table s.table z) at (passed T r s k q).room

      go : (c : Bool) → is_clauses s.table ≡ c → cond c (on_clause T s r) (on_other (refusal_in T s r) s.table) ≡ Stays s.table
      go true z = rw (room z, q, l, clause_table s.table z)
      go false z = rw q

-- ---- all records

-- the repair of the records xs, from number i and the tables T on: the repaired records ys, of which the numbers ls are blank
pub data Mends : Tables → ℕ → List (List ℕ) → List (List ℕ) → List ℕ → Type 0 where
  ends : {T : Tables} {i : ℕ} → Mends T i [] [] []
  keeps : {T : Tables} {i : ℕ} {x : List ℕ} {xs ys : List (List ℕ)} {ls : List ℕ} (t : Table)
      → Remains T (rec_of x) t → Mends (put t (rec_of x) T) (suc i) xs ys ls → Mends T i (x ∷ xs) (x ∷ ys) ls
  blanks : {T : Tables} {i : ℕ} {x : List ℕ} {xs ys : List (List ℕ)} {ls : List ℕ}
      → Yields T (rec_of x) → Mends (put Clauses (rec_of blank) T) (suc i) xs ys ls → Mends T i (x ∷ xs) (blank ∷ ys) (i ∷ ls)

kept_in_lem : (x : List ℕ) (m : Mended) (ys : List (List ℕ)) (ls : List ℕ) → with_kept x m ≡ mended ys ls
    → (zs : List (List ℕ)) × (m ≡ mended zs ls) × (x ∷ zs ≡ ys)
kept_in_lem x (mended zs ks) ys ls e = (zs, cc, cc)
kept_in_lem x (halted n i) ys ls e = clash (cc)

blank_in : (i : ℕ) (m : Mended) (ys : List (List ℕ)) (ls : List ℕ) → with_blank i m ≡ mended ys ls
    → (zs : List (List ℕ)) × (ks : List ℕ) × (m ≡ mended zs ks) × (blank ∷ zs ≡ ys) × (i ∷ ks ≡ ls)
blank_in i (mended zs ks) ys ls e = (zs, ks, refl, cc, cc)
blank_in i (halted n j) ys ls e = clash (cc)

module _ (x : List ℕ) (xs : List (List ℕ)) (i : ℕ) (T : Tables) (ys : List (List ℕ)) (ls : List ℕ)
    (rest : (U : Tables) (zs : List (List ℕ)) (ks : List ℕ) → mend_from xs (suc i) U ≡ mended zs ks → Mends U (suc i) xs zs ks) where
  as_listed : (zs : List (List ℕ)) (ks : List ℕ) → blank ∷ zs ≡ ys → i ∷ ks ≡ ls → Mends T i (x ∷ xs) (blank ∷ zs) (i ∷ ks) → Mends T i (x ∷ xs) ys ls
  as_listed zs ks p q m = rw (p, q) at m

  mends_by : (v : Verdict) → verdict_of T (rec_of x) ≡ v
      → elim v as (λ _. Mended) [
        | Stays t ↦ with_kept x (mend_from xs (suc i) (put t (rec_of x) T))
        | Replaced ↦ with_blank i (mend_from xs (suc i) (put Clauses (rec_of blank) T))
        | Stops n ↦ halted n i
      ] ≡ mended ys ls
      → Mends T i (x ∷ xs) ys ls
  mends_by (Stays t) q e =
      let p = kept_in_lem x (mend_from xs (suc i) (put t (rec_of x) T)) ys ls e in
      rw (← p.2) (keeps t (it_stays T (rec_of x) t q) (rest (put t (rec_of x) T) p.0 ls p.1))
  mends_by Replaced q e =
      let p = blank_in i (mend_from xs (suc i) (put Clauses (rec_of blank) T)) ys ls e in
      as_listed p.0 p.1 p.3 p.4 (blanks (it_is_replaced T (rec_of x) q) (rest (put Clauses (rec_of blank) T) p.0 p.1 p.2))
  mends_by (Stops n) q e = clash (cc)

pub mends : (xs : List (List ℕ)) (i : ℕ) (T : Tables) (ys : List (List ℕ)) (ls : List ℕ) → mend_from xs i T ≡ mended ys ls → Mends T i xs ys ls
unfolding mend_from
mends [] i T ys ls e = let p : [] ≡ ys = cc in let q : [] ≡ ls = cc in rw (← p, ← q) ends
mends (x ∷ xs) i T ys ls e = mends_by x xs i T ys ls (λ U zs ks h. mends xs (suc i) U zs ks h) (verdict_of T (rec_of x)) refl e

-- a repair that stops has a number
module _ (x : List ℕ) (xs : List (List ℕ)) (i : ℕ) (T : Tables) (n p : ℕ) (rest : (U : Tables) → mend_from xs (suc i) U ≡ halted n p → 1 ≤ n) where
  under_kept : (m : Mended) → with_kept x m ≡ halted n p → m ≡ halted n p
  under_kept (mended ys ls) e = clash (cc)
  under_kept (halted k j) e = e

  under_blank : (m : Mended) → with_blank i m ≡ halted n p → m ≡ halted n p
  under_blank (mended ys ls) e = clash (cc)
  under_blank (halted k j) e = e

  halts_by : (v : Verdict) → verdict_of T (rec_of x) ≡ v
      → elim v as (λ _. Mended) [
        | Stays t ↦ with_kept x (mend_from xs (suc i) (put t (rec_of x) T))
        | Replaced ↦ with_blank i (mend_from xs (suc i) (put Clauses (rec_of blank) T))
        | Stops n ↦ halted n i
      ] ≡ halted n p
      → 1 ≤ n
  halts_by (Stays t) q e = rest (put t (rec_of x) T) (under_kept (mend_from xs (suc i) (put t (rec_of x) T)) e)
  halts_by Replaced q e = rest (put Clauses (rec_of blank) T) (under_blank (mend_from xs (suc i) (put Clauses (rec_of blank) T)) e)
  halts_by (Stops k) q e = let z : k ≡ n = cc in it_stops T (rec_of x) n (rw z at q)

pub halts : (xs : List (List ℕ)) (i : ℕ) (T : Tables) (n p : ℕ) → mend_from xs i T ≡ halted n p → 1 ≤ n
unfolding mend_from
halts [] i T n p e = clash (cc)
halts (x ∷ xs) i T n p e = halts_by x xs i T n p (λ U h. halts xs (suc i) U n p h) (verdict_of T (rec_of x)) refl e

-- ---- the repaired records pass, and no Learnt is in the core

abbrev pub blank_shape : Shape
blank_shape = record { table = Clauses; first = F.Flag; a = S.Unused; b = S.Unused; c = S.Unused }

pub blank_known : shape_of (rec_of blank).kind ≡ some blank_shape
unfolding shape_of
blank_known = refl

pub blank_passes : (T : Tables) → ltb (length T.clauses) (limit Clauses) ≡ true → refusal_in T blank_shape (rec_of blank) ≡ 0
blank_passes T h = rw h

pub mends_read : {T : Tables} {i : ℕ} {xs ys : List (List ℕ)} {ls : List ℕ} → Mends T i xs ys ls → (U : Tables) × (read_from (map rec_of ys) i T ≡ good U)
unfolding read_from
mends_read {T} ends = (T, refl)
mends_read {T} {i} (keeps {x = x} {ys = ys} t s m) =
    let r = mends_read m in
    let e : read_from (map rec_of ys) (suc i) (put s.shape.table (rec_of x) T) ≡ good r.0 = rw s.place r.1 in
    (r.0, read_next (rec_of x) (map rec_of ys) i T s.shape s.known s.passes ∙ e)
mends_read {T} {i} (blanks {ys = ys} h m) =
    let r = mends_read m in
    (r.0, read_next (rec_of blank) (map rec_of ys) i T blank_shape blank_known (blank_passes T h.room) ∙ r.1)

pub mends_unlearnt : {T : Tables} {i : ℕ} {xs ys : List (List ℕ)} {ls : List ℕ} → Mends T i xs ys ls → All (λ r. core_learnt r ≡ false) (map rec_of ys)
mends_unlearnt ends = tt
mends_unlearnt (keeps t s m) = (s.unlearnt, mends_unlearnt m)
mends_unlearnt (blanks h m) = (refl, mends_unlearnt m)

-- ---- the bytes

pub mends_whole : {T : Tables} {i : ℕ} {xs ys : List (List ℕ)} {ls : List ℕ} → Mends T i xs ys ls → PiecesWhole xs → PiecesWhole ys
mends_whole ends w = tt
mends_whole (keeps t s m) w = (w.0, mends_whole m w.1)
mends_whole (blanks h m) w = (refl, mends_whole m w.1)

pub mends_length : {T : Tables} {i : ℕ} {xs ys : List (List ℕ)} {ls : List ℕ} → Mends T i xs ys ls → length ys ≡ length xs
mends_length ends = refl
mends_length (keeps t s m) = ap suc (mends_length m)
mends_length (blanks h m) = ap suc (mends_length m)

-- a clause stands where one stood, and nowhere else
blank_mine : is_in Clauses (rec_of blank) ≡ true
unfolding table_no_of shape_of
blank_mine = refl

both_mine : (a b : Bool) (ks ls : List Bool) → a ≡ true → b ≡ true → ks ≡ ls → a ∷ ks ≡ b ∷ ls
both_mine a b ks ls p q r = rw (p, q, r)

pub mends_clauses : {T : Tables} {i : ℕ} {xs ys : List (List ℕ)} {ls : List ℕ} → Mends T i xs ys ls
    → map (is_in Clauses) (map rec_of ys) ≡ map (is_in Clauses) (map rec_of xs)
mends_clauses ends = refl
mends_clauses (keeps {x = x} t s m) = ap (λ (l : List Bool). is_in Clauses (rec_of x) ∷ l) (mends_clauses m)
mends_clauses (blanks {x = x} h m) = both_mine (is_in Clauses (rec_of blank)) (is_in Clauses (rec_of x)) _ _ blank_mine h.mine (mends_clauses m)

-- numbers from i on and below n, each above the one before
abbrev pub Rising : ℕ → ℕ → List ℕ → Type 0
Rising i n [] = Unit {0}
Rising i n (k ∷ ks) = (i ≤ k) × (k < n) × Rising (suc k) n ks

rising_on : (i n : ℕ) (ls : List ℕ) → Rising (suc i) n ls → Rising i n ls
rising_on i n [] r = tt
rising_on i n (k ∷ ks) r = (omega (arith, r.0), r.1, r.2)

rising_above : (i n k : ℕ) (ls : List ℕ) → Rising i n ls → In k ls → i ≤ k
rising_above i n k [] r h = absurd h
rising_above i n k (l ∷ ls) r (inl e) = omega (arith, r.0)
rising_above i n k (l ∷ ls) r (inr h) = let q : suc l ≤ k = rising_above (suc l) n k ls r.2 h in omega (arith, r.0)

-- "lists the replaced record numbers in order"
pub mends_rising : {T : Tables} {i : ℕ} {xs ys : List (List ℕ)} {ls : List ℕ} → Mends T i xs ys ls → (n : ℕ) → n ≡ i + length xs → Rising i n ls
mends_rising ends n e = tt
mends_rising {i = i} (keeps {xs = xs} {ls = ls} t s m) n e = rising_on i n ls (mends_rising m n (let d : n ≡ i + suc (length xs) = e in omega arith))
mends_rising {i = i} (blanks {xs = xs} {ls = ls} h m) n e = let d : n ≡ i + suc (length xs) = e in (omega arith, omega arith, mends_rising m n (omega arith))

-- a record that is not listed is as it was
pub mends_same : {T : Tables} {i : ℕ} {xs ys : List (List ℕ)} {ls : List ℕ} → Mends T i xs ys ls
    → (j k : ℕ) → k ≡ i + j → (In k ls → ⊥) → get_or ys j [] ≡ get_or xs j []
mends_same ends j k e h = refl
mends_same (keeps t s m) zero k e h = refl
mends_same (keeps t s m) (suc j) k e h = mends_same m j k (omega arith) h
mends_same (blanks l m) zero k e h = absurd (h (inl (omega arith)))
mends_same (blanks l m) (suc j) k e h = mends_same m j k (omega arith) (λ q. h (inr q))

-- and one that is listed is the blank clause
pub mends_blank : {T : Tables} {i : ℕ} {xs ys : List (List ℕ)} {ls : List ℕ} → Mends T i xs ys ls → (j k : ℕ) → k ≡ i + j → In k ls → get_or ys j [] ≡ blank
mends_blank ends j k e h = absurd h
mends_blank {i = i} (keeps {xs = xs} {ls = ls} t s m) zero k e h =
    let q : suc i ≤ k = rising_above (suc i) (suc i + length xs) k ls (mends_rising m (suc i + length xs) refl) h in
    let f : ⊥ = omega arith in absurd f
mends_blank (keeps t s m) (suc j) k e h = mends_blank m j k (omega arith) h
mends_blank (blanks l m) zero k e h = refl
mends_blank (blanks l m) (suc j) k e (inl q) = let f : ⊥ = omega arith in absurd f
mends_blank (blanks l m) (suc j) k e (inr q) = mends_blank m j k (omega arith) q

-- ---- a sound file

no_refusal : (T : Tables) (r : Rec) (s : Shape) → Passed T r s → refusal_in T s r ≡ 0
no_refusal T r s p = rw (p.shaped, p.room, p.numbered, p.allowed)

mend_stays : (x : List ℕ) (xs : List (List ℕ)) (i : ℕ) (T : Tables) (t : Table) → verdict_of T (rec_of x) ≡ Stays t
    → mend_from (x ∷ xs) i T ≡ with_kept x (mend_from xs (suc i) (put t (rec_of x) T))
unfolding mend_from
mend_stays x xs i T t e = rw (e, mend_from)

pub sound_stays : (xs : List (List ℕ)) (i : ℕ) (T U : Tables) → Steps T (map rec_of xs) U
    → All (λ r. core_learnt r ≡ false) (map rec_of xs) → mend_from xs i T ≡ mended xs []
unfolding mend_from
sound_stays [] i T U p l = refl
sound_stays (x ∷ xs) i T U p l =
    mend_stays x xs i T p.0.table (stays_by T (rec_of x) p.0 p.1.known (no_refusal T (rec_of x) p.0 p.1) l.0)
    ∙ ap (with_kept x) (sound_stays xs (suc i) (put p.0.table (rec_of x) T) U p.2 l.1)
