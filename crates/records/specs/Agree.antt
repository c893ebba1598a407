-- The pass over counts and marks says what `read_from` says over the tables.
use Rattle.std.specs.Prelude.{◌≡◌, Bool, true, false, cond, Result, Ok, Err, ◌&&◌, ◌||◌, not, List, [], ◌∷◌, length, get_or, set, replicate, ltb, eqb}
use Rattle.std.proofs.Math.Path.{refl, ap}
use Rattle.std.proofs.Common.{sym, ◌∙◌, subst, arith, length-append, length-set, get_or-set_same, get_or-set_other}
use Rattle.std.proofs.Math.Bool.{and-false, or-true, or-false}
use Rattle.std.proofs.Math.Option.{Option, none, some}
use Prim.Native.Nat.{ℕ, zero, suc, ◌+◌, ◌%◌, ◌≤◌, ◌<◌}
use Rattle.std.proofs.lemmas.List.{length-replicate}
use Rattle.std.proofs.Math.Seq.{get_or-append_seam}
use borrow.Author.Tests.{lt-ltb, le-ltb, le-leb, lt-leb, eq-eqb, ne_eqb, ltb-true, leb-true, eqb-true, eqb-false}
use Rattle.basis.specs.Lists.{any, snoc}
use Rattle.basis.specs.Members.{split, All}
use Rattle.basis.specs.Guard.{guard}
use Rattle.records.specs.declared.Counts.{Counts}
use Rattle.records.specs.declared.Refusal.{Refusal}
use Rattle.records.specs.declared.Refusal.TheVariants.{UnknownKind, BadShape, BadNumber, BadOrigin, TableFull}
use Rattle.records.specs.declared.Refused.{Refused}
use Rattle.records.specs.declared.Table.{Table}
use Rattle.records.specs.declared.Table.TheVariants.{Names, Solvables, VersionSets, Requirements, Candidates, Reasons, Variables, Assigned, Clauses}
use Rattle.records.specs.declared.Slot.{Slot}
use Rattle.records.specs.declared.Slot.TheVariants as S
use Rattle.records.specs.declared.Shape.{Shape}
use Rattle.records.specs.Shapes.{Rec, records_of, limit, shape_of, kinds, row_at}
use Rattle.records.specs.Tables.{Tables, no_tables, table_of, put, counts_of, no_rec, at}
use Rattle.records.specs.Read.{read_from, read_of, answer_of, first_good, field_good, shape_good, number_good, numbers_good, origin_good, origins_good, allows}
use Rattle.records.specs.Read.{refusal_in}
use Rattle.records.specs.Steps.{both_left, both_right, Passed, passed, read_unknown, read_next, read_stop}
use Rattle.records.specs.Text.{guard_and, first_pass, first_is_good}
use Rattle.records.specs.Pass.{found_at, found_of, number_of, count_pass, limit_pass, with_pass, is_next, is_before, has_room, more_of, field_pass, shape_pass, named_pass}
use Rattle.records.specs.Pass.{free_pass, number_pass, numbers_pass, allows_pass, mark_origin, origin_pass, origins_pass, admit_pass, check_at, check_pass, noted}
use Rattle.records.specs.Pass.{turn_pass, marks_pass, pass_from, no_counts}

-- ---- counts

pub count_is : (t : Table) (T : Tables) → count_pass t (counts_of T) ≡ length (table_of t T)
unfolding count_pass
count_is Names T = refl
count_is Solvables T = refl
count_is VersionSets T = refl
count_is Requirements T = refl
count_is Candidates T = refl
count_is Reasons T = refl
count_is Variables T = refl
count_is Assigned T = refl
count_is Clauses T = refl

limit_small : (t : Table) → limit t ≤ 1024
limit_small Names = omega arith
limit_small Solvables = omega arith
limit_small VersionSets = omega arith
limit_small Requirements = omega arith
limit_small Candidates = omega arith
limit_small Reasons = omega arith
limit_small Variables = omega arith
limit_small Assigned = omega arith
limit_small Clauses = omega arith

next_is_good : (t : Table) (T : Tables) (x : ℕ) → is_next t (counts_of T) x ≡ eqb x (length (table_of t T))
unfolding is_next
next_is_good t T x = ap (eqb x) (count_is t T)

before_is_good : (t : Table) (T : Tables) (x : ℕ) → is_before t (counts_of T) x ≡ ltb x (length (table_of t T))
unfolding is_before
before_is_good t T x = ap (ltb x) (count_is t T)

pub room_is_good : (t : Table) (T : Tables) → has_room t (counts_of T) ≡ ltb (length (table_of t T)) (limit t)
unfolding has_room limit_pass
room_is_good t T = ap (λ (n : ℕ). ltb n (limit t)) (count_is t T)

length_snoc : (xs : List Rec) (r : Rec) → length xs + 1 ≡ length (snoc xs r)
length_snoc xs r = sym (length-append xs (r ∷ []))

with_is_good : (t : Table) (T : Tables) (r : Rec) → with_pass t (counts_of T) (length (table_of t T) + 1) ≡ counts_of (put t r T)
unfolding with_pass
with_is_good Names T r = rw (length_snoc T.names r)
with_is_good Solvables T r = rw (length_snoc T.solvables r)
with_is_good VersionSets T r = rw (length_snoc T.version_sets r)
with_is_good Requirements T r = rw (length_snoc T.requirements r)
with_is_good Candidates T r = rw (length_snoc T.candidates r)
with_is_good Reasons T r = rw (length_snoc T.reasons r)
with_is_good Variables T r = rw (length_snoc T.variables r)
with_is_good Assigned T r = rw (length_snoc T.assigned r)
with_is_good Clauses T r = rw (length_snoc T.clauses r)

pub more_is_good : (t : Table) (T : Tables) (r : Rec) → ltb (length (table_of t T)) (limit t) ≡ true → more_of t (counts_of T) ≡ counts_of (put t r T)
unfolding more_of guard
more_is_good t T r h =
    let l : length (table_of t T) < limit t = ltb-true _ _ h in
    let s : limit t ≤ 1024 = limit_small t in
    let z : ltb (length (table_of t T)) 1024 ≡ true = lt-ltb (length (table_of t T)) 1024 (omega arith) in
    rw (count_is t T, z) (with_is_good t T r)

-- ---- marks

-- a record 8 names variable v
abbrev pub taken : Tables → ℕ → Bool
taken T v = any (λ g. eqb g.a v) T.assigned

-- the marks m are those of the tables T
pub record Marked (T : Tables) (m : List ℕ) : Type 0 where
  pub mark : (v : ℕ) → get_or m v 0 ≡ (at T.variables v).b + cond (taken T v) 8 0
  pub low : (v : ℕ) → (at T.variables v).b < 8
  pub past : (v : ℕ) → length T.variables ≤ v → taken T v ≡ false
  pub few : length T.variables ≤ 1024
  pub size : length m ≡ 1024

free_by : (b : Bool) (g o : ℕ) → g ≡ o + cond b 8 0 → o < 8 → ltb g 8 ≡ not b
free_by true g o e h = le-ltb g 8 (omega arith)
free_by false g o e h = lt-ltb g 8 (omega arith)

origin_by_lem : (b : Bool) (g o : ℕ) → g ≡ o + cond b 8 0 → o < 8 → g % 8 ≡ o
origin_by_lem true g o e h = omega arith
origin_by_lem false g o e h = omega arith

guard_all : (b d x y : Bool) → b ≡ d → x ≡ y → guard b false x ≡ (d && y)
guard_all b d x y e q = rw e (guard_and d x y q)

shape_is_good : (s : Shape) (r : Rec) → shape_pass s r ≡ shape_good s r
unfolding shape_pass field_pass
shape_is_good s r =
    guard_all (first_pass s.first r) _ _ _ (first_is_good s.first r)
    (guard_and (field_good s.a r r.a) _ _ (guard_and (field_good s.b r r.b) _ _ refl))

module _ (T : Tables) (m : List ℕ) (h : Marked T m) where
  free_is_good : (x : ℕ) → ltb (get_or m x 0) 8 ≡ not (taken T x)
  free_is_good x = free_by (taken T x) (get_or m x 0) (at T.variables x).b (h.mark x) (h.low x)

  origin_is : (x : ℕ) → mark_origin m x ≡ (at T.variables x).b
  unfolding mark_origin
  origin_is x = origin_by_lem (taken T x) (get_or m x 0) (at T.variables x).b (h.mark x) (h.low x)

  number_is_good : (t : Table) (s : Slot) (r : Rec) (x : ℕ) → number_pass (counts_of T) m t s r.b x ≡ number_good T t s r x
  unfolding number_pass named_pass free_pass
  number_is_good t S.Unused r x = refl
  number_is_good t S.Own r x = next_is_good t T x
  number_is_good t (S.Names u) r x = before_is_good u T x
  number_is_good t (S.Variable o) r x = before_is_good Variables T x
  number_is_good t S.Origin r x = refl
  number_is_good t S.Named r x = simp (before_is_good Solvables T x, before_is_good Names T x)
  number_is_good t S.Unassigned r x = guard_all _ _ _ _ (before_is_good Variables T x) (free_is_good x)

  origin_is_good : (s : Slot) (x : ℕ) → origin_pass m s x ≡ origin_good T s x
  unfolding origin_pass allows_pass
  origin_is_good S.Unused x = refl
  origin_is_good S.Own x = refl
  origin_is_good (S.Names u) x = refl
  origin_is_good (S.Variable o) x = ap (allows o) (origin_is x)
  origin_is_good S.Origin x = refl
  origin_is_good S.Named x = refl
  origin_is_good S.Unassigned x = refl

  numbers_are_good : (s : Shape) (r : Rec) → numbers_pass (counts_of T) m s r ≡ numbers_good T s r
  unfolding numbers_pass
  numbers_are_good s r =
      guard_all _ _ _ _ (number_is_good s.table s.a r r.a)
      (guard_all _ _ _ _ (number_is_good s.table s.b r r.b) (number_is_good s.table s.c r r.c))

  origins_are_good : (s : Shape) (r : Rec) → origins_pass m s r ≡ origins_good T s r
  unfolding origins_pass
  origins_are_good s r =
      guard_all _ _ _ _ (origin_is_good s.a r.a)
      (guard_all _ _ _ _ (origin_is_good s.b r.b) (origin_is_good s.c r.c))

-- ---- one record

-- the refusal of a number of document 01 from 2 to 6
abbrev pub refusal_by : ℕ → Refusal
refusal_by n = cond (eqb n 2) UnknownKind (cond (eqb n 3) BadShape (cond (eqb n 4) BadNumber (cond (eqb n 5) BadOrigin TableFull)))

abbrev pub step_of : ℕ → Table → Result Table Refusal
step_of zero t = Ok t
step_of (suc n) t = Err (refusal_by (suc n))

-- a number that `refusal_in` gives is that of its refusal
number_chain : (b d e f : Bool) (n : ℕ) → cond b (cond d (cond e (cond f 0 5) 4) 6) 3 ≡ suc n → suc n ≡ number_of (refusal_by (suc n))
number_chain true true true true n q = let z : 0 ≡ suc n = q in absurd (omega arith)
number_chain true true true false n q = rw (← q)
number_chain true true false f n q = rw (← q)
number_chain true false e f n q = rw (← q)
number_chain false d e f n q = rw (← q)

pub refusal_number : (T : Tables) (s : Shape) (r : Rec) (n : ℕ) → refusal_in T s r ≡ suc n → suc n ≡ number_of (refusal_by (suc n))
refusal_number T s r n q =
    number_chain (shape_good s r) (ltb (length (table_of s.table T)) (limit s.table)) (numbers_good T s r) (origins_good T s r) n q

guard_step : (b d : Bool) (k n : ℕ) (y : Refusal) (t : Table) (x : Result Table Refusal) → b ≡ d → step_of k t ≡ Err y → x ≡ step_of n t
    → guard b (Err y) x ≡ step_of (cond d n k) t
unfolding guard
guard_step b true k n y t x e f q = rw e q
guard_step b false k n y t x e f q = rw e (sym f)

admit_is_good : (T : Tables) (m : List ℕ) → Marked T m → (s : Shape) (r : Rec) → admit_pass (counts_of T) m s r ≡ step_of (refusal_in T s r) s.table
unfolding admit_pass
admit_is_good T m h s r =
    guard_step _ (shape_good s r) 3 _ BadShape s.table _ (shape_is_good s r) refl
    (guard_step _ (ltb (length (table_of s.table T)) (limit s.table)) 6 _ TableFull s.table _ (room_is_good s.table T) refl
    (guard_step _ (numbers_good T s r) 4 _ BadNumber s.table _ (numbers_are_good T m h s r) refl
    (guard_step _ (origins_good T s r) 5 0 BadOrigin s.table _ (origins_are_good T m h s r) refl refl)))

-- ---- the marks after a record

-- what the pass leans on in the table of kinds: fields a and b of a variable, field a of a record 8
abbrev Fit : Table → Slot → Slot → Type 0
Fit Names a b = Unit {0}
Fit Solvables a b = Unit {0}
Fit VersionSets a b = Unit {0}
Fit Requirements a b = Unit {0}
Fit Candidates a b = Unit {0}
Fit Reasons a b = Unit {0}
Fit Variables a b = (a ≡ S.Own) × (b ≡ S.Origin)
Fit Assigned a b = a ≡ S.Unassigned
Fit Clauses a b = Unit {0}

abbrev FitRow : Option Shape → Type 0
FitRow none = Unit {0}
FitRow (some s) = Fit s.table s.a s.b

row_fit : (k : ℕ) (rows : List (ℕ × Option Shape)) (o : Option Shape) → All (λ x. FitRow x.1) rows → row_at k rows ≡ o → FitRow o
row_fit k [] o h e = subst FitRow e tt
row_fit k (x ∷ xs) o h e =
    split (eqb k x.0) (λ q. subst FitRow (rw (q, row_at) at e) h.0) (λ q. row_fit k xs o h.1 (rw (q, row_at) at e))

kinds_fit : All (λ x. FitRow x.1) kinds
kinds_fit = (tt, (tt, (tt, (tt, (tt, (tt, ((refl, refl), (refl, (tt, (tt, (tt, (tt, (tt, (tt, (tt, (tt, (tt, (tt, tt))))))))))))))))))

shape_fit : (k : ℕ) (s : Shape) → shape_of k ≡ some s → Fit s.table s.a s.b
unfolding shape_of
shape_fit k s e = row_fit k kinds (some s) kinds_fit e

snoc_other : (xs : List Rec) (r d : Rec) (v : ℕ) → (v ≡ length xs → ⊥) → get_or (snoc xs r) v d ≡ get_or xs v d
snoc_other [] r d zero h = absurd (h refl)
snoc_other [] r d (suc v) h = refl
snoc_other (x ∷ xs) r d zero h = refl
snoc_other (x ∷ xs) r d (suc v) h = snoc_other xs r d v (λ e. h (ap suc e))

any_snoc : (p : Rec → Bool) (xs : List Rec) (r : Rec) → any p (snoc xs r) ≡ (any p xs || p r)
any_snoc p [] r = split (p r) (λ q. rw (q, any)) (λ q. rw (q, any))
any_snoc p (x ∷ xs) r = split (p x) (λ q. rw (q, any)) (λ q. rw (q, any) (any_snoc p xs r))

module _ (T : Tables) (m : List ℕ) (h : Marked T m) (r : Rec) where
  variable_marked : r.a ≡ length T.variables → r.b ≤ 5 → length T.variables < 1024 → Marked (put Variables r T) (set m r.a r.b)
  variable_marked e l f =
      record {
        mark = λ v. split (eqb v (length T.variables)) (λ q. mark_new v (eqb-true _ _ q)) (λ q. mark_old v (eqb-false _ _ q));
        low = λ v. split (eqb v (length T.variables)) (λ q. low_new v (eqb-true _ _ q)) (λ q. low_old v (eqb-false _ _ q));
        past = λ v g. h.past v (past_of v g);
        few = few_of_lem;
        size = length-set m r.a r.b ∙ h.size;
      }
    where
      newest : (v : ℕ) → v ≡ length T.variables → at (snoc T.variables r) v ≡ r
      newest v q = rw q (get_or-append_seam T.variables r [] no_rec)

      older : (v : ℕ) → (v ≡ length T.variables → ⊥) → at (snoc T.variables r) v ≡ at T.variables v
      older v q = snoc_other T.variables r no_rec v q

      mark_new : (v : ℕ) → v ≡ length T.variables → get_or (set m r.a r.b) v 0 ≡ (at (snoc T.variables r) v).b + cond (taken T v) 8 0
      mark_new v q =
          let z : v ≡ r.a = q ∙ sym e in
          let n : taken T v ≡ false = h.past v (omega arith) in
          let s : length m ≡ 1024 = h.size in
          let w : get_or (set m r.a r.b) r.a 0 ≡ r.b = get_or-set_same m r.a r.b 0 (omega arith) in
          let g : r.b + 0 ≡ r.b = omega arith in
          rw (newest v q, n, g, z) w

      mark_old : (v : ℕ) → (v ≡ length T.variables → ⊥) → get_or (set m r.a r.b) v 0 ≡ (at (snoc T.variables r) v).b + cond (taken T v) 8 0
      mark_old v q = get_or-set_other m r.a v r.b 0 (λ z. q (z ∙ e)) ∙ rw (older v q) (h.mark v)

      low_new : (v : ℕ) → v ≡ length T.variables → (at (snoc T.variables r) v).b < 8
      low_new v q = rw (newest v q) (omega arith)

      low_old : (v : ℕ) → (v ≡ length T.variables → ⊥) → (at (snoc T.variables r) v).b < 8
      low_old v q = rw (older v q) (h.low v)

      past_of : (v : ℕ) → length (snoc T.variables r) ≤ v → length T.variables ≤ v
      past_of v g = let k : length T.variables + 1 ≡ length (snoc T.variables r) = length_snoc T.variables r in omega arith

      few_of_lem : length (snoc T.variables r) ≤ 1024
      few_of_lem = let k : length T.variables + 1 ≡ length (snoc T.variables r) = length_snoc T.variables r in omega arith

  assigned_marked : r.a < length T.variables → Marked (put Assigned r T) (set m r.a (mark_origin m r.a + 8))
  assigned_marked l =
      record {
        mark = λ v. split (eqb r.a v) (λ q. mark_new v q) (λ q. mark_old v q);
        low = h.low;
        past = λ v g. past_of v g;
        few = h.few;
        size = length-set m r.a (mark_origin m r.a + 8) ∙ h.size;
      }
    where
      now_taken : (v : ℕ) → taken (put Assigned r T) v ≡ (taken T v || eqb r.a v)
      now_taken v = any_snoc (λ g. eqb g.a v) T.assigned r

      mark_new : (v : ℕ) → eqb r.a v ≡ true → get_or (set m r.a (mark_origin m r.a + 8)) v 0 ≡ (at T.variables v).b
          + cond (taken (put Assigned r T) v) 8 0
      mark_new v q =
          let z : r.a ≡ v = eqb-true _ _ q in
          let s : length m ≡ 1024 = h.size in
          let f : length T.variables ≤ 1024 = h.few in
          let w : get_or (set m r.a (mark_origin m r.a + 8)) r.a 0 ≡ mark_origin m r.a + 8 =
          get_or-set_same m r.a (mark_origin m r.a + 8) 0 (omega arith) in
          let t : taken (put Assigned r T) v ≡ true = now_taken v ∙ (ap (λ (b : Bool). taken T v || b) q ∙ or-true (taken T v)) in
          rw (t, ← z) (w ∙ ap (λ (o : ℕ). o + 8) (origin_is T m h r.a))

      mark_old : (v : ℕ) → eqb r.a v ≡ false → get_or (set m r.a (mark_origin m r.a + 8)) v 0 ≡ (at T.variables v).b
          + cond (taken (put Assigned r T) v) 8 0
      mark_old v q =
          let t : taken (put Assigned r T) v ≡ taken T v = now_taken v ∙ (ap (λ (b : Bool). taken T v || b) q ∙ or-false (taken T v)) in
          rw t (get_or-set_other m r.a v (mark_origin m r.a + 8) 0 (λ z. eqb-false _ _ q (sym z)) ∙ h.mark v)

      past_of : (v : ℕ) → length T.variables ≤ v → taken (put Assigned r T) v ≡ false
      past_of v g =
          let n : eqb r.a v ≡ false = ne_eqb r.a v (λ z. let y : r.a ≡ v = z in omega arith) in
          now_taken v ∙ (ap (λ (b : Bool). b || eqb r.a v) (h.past v g) ∙ n)

-- a record that is not refused leaves the marks of the tables with it
module _ (T : Tables) (m : List ℕ) (h : Marked T m) (r : Rec) (a b : Slot) where
  noted_marked : (t : Table) → Fit t a b → ltb (length (table_of t T)) (limit t) ≡ true → field_good b r r.b ≡ true → number_good T t a r r.a ≡ true
      → Marked (put t r T) (noted t r m)
  unfolding noted
  noted_marked Names w l f n = record { mark = h.mark; low = h.low; past = h.past; few = h.few; size = h.size }
  noted_marked Solvables w l f n = record { mark = h.mark; low = h.low; past = h.past; few = h.few; size = h.size }
  noted_marked VersionSets w l f n = record { mark = h.mark; low = h.low; past = h.past; few = h.few; size = h.size }
  noted_marked Requirements w l f n = record { mark = h.mark; low = h.low; past = h.past; few = h.few; size = h.size }
  noted_marked Candidates w l f n = record { mark = h.mark; low = h.low; past = h.past; few = h.few; size = h.size }
  noted_marked Reasons w l f n = record { mark = h.mark; low = h.low; past = h.past; few = h.few; size = h.size }
  noted_marked Variables w l f n =
      variable_marked T m h r
      (eqb-true r.a (length T.variables) (subst (λ (x : Slot). number_good T Variables x r r.a ≡ true) w.0 n))
      (leb-true r.b 5 (subst (λ (x : Slot). field_good x r r.b ≡ true) w.1 f))
      (ltb-true _ _ l)
  noted_marked Assigned w l f n =
      assigned_marked T m h r (ltb-true r.a (length T.variables) (both_left _ _ (subst (λ (x : Slot). number_good T Assigned x r r.a ≡ true) w n)))
  noted_marked Clauses w l f n = record { mark = h.mark; low = h.low; past = h.past; few = h.few; size = h.size }

-- ---- all records

module _ (T : Tables) (m : List ℕ) (h : Marked T m) (r : Rec) where
  pub check_none : shape_of r.kind ≡ none → check_pass (counts_of T) m r ≡ Err UnknownKind
  unfolding check_pass found_at
  check_none e = rw e

  pub check_some : (s : Shape) → shape_of r.kind ≡ some s → check_pass (counts_of T) m r ≡ step_of (refusal_in T s r) s.table
  unfolding check_pass found_at
  check_some s e = ap (λ (o : Option Shape). check_at (counts_of T) m r (found_of o)) e ∙ admit_is_good T m h s r

  pub next_marked : (s : Shape) → Passed T r s → Marked (put s.table r T) (noted s.table r m)
  next_marked s p =
      noted_marked T m h r s.a s.b s.table (shape_fit r.kind s p.known) p.room
      (both_left (field_good s.b r r.b) _ (both_right (field_good s.a r r.a) _ (both_right (first_good s.first r) _ p.shaped)))
      (both_left (number_good T s.table s.a r r.a) _ p.numbered)

-- one record, where the rest is known to agree
module _ (r : Rec) (rs : List Rec) (i : ℕ) (T : Tables) (m : List ℕ) (h : Marked T m)
    (rest : (U : Tables) (u : List ℕ) → Marked U u → pass_from rs (suc i) (counts_of U) u ≡ answer_of (read_from rs (suc i) U)) where
  by_refusal : (s : Shape) → shape_of r.kind ≡ some s → (n : ℕ) → refusal_in T s r ≡ n → pass_from (r ∷ rs) i (counts_of T) m ≡ answer_of (read_from (r ∷ rs) i T)
  unfolding pass_from turn_pass marks_pass
  by_refusal s e zero q =
      let c : check_pass (counts_of T) m r ≡ Ok s.table = check_some T m h r s e ∙ ap (λ (k : ℕ). step_of k s.table) q in
      let p : Passed T r s = passed T r s e q in
      rw (c, read_next r rs i T s e q, more_is_good s.table T r p.room) (rest (put s.table r T) (noted s.table r m) (next_marked T m h r s p))
  by_refusal s e (suc n) q =
      let c : check_pass (counts_of T) m r ≡ Err (refusal_by (suc n)) = check_some T m h r s e ∙ ap (λ (k : ℕ). step_of k s.table) q in
      rw (c, read_stop r rs i T s e n q, ← refusal_number T s r n q)

  by_shape : (o : Option Shape) → shape_of r.kind ≡ o → pass_from (r ∷ rs) i (counts_of T) m ≡ answer_of (read_from (r ∷ rs) i T)
  unfolding pass_from turn_pass marks_pass
  by_shape none e = rw (check_none T m h r e, read_unknown r rs i T e)
  by_shape (some s) e = by_refusal s e (refusal_in T s r) refl

pub pass_is_read : (rs : List Rec) (i : ℕ) (T : Tables) (m : List ℕ) → Marked T m → pass_from rs i (counts_of T) m ≡ answer_of (read_from rs i T)
unfolding pass_from read_from
pass_is_read [] i T m h = refl
pass_is_read (r ∷ rs) i T m h = by_shape r rs i T m h (λ U u g. pass_is_read rs (suc i) U u g) (shape_of r.kind) refl

-- ---- the whole file

fresh : (n v : ℕ) → ◌≡◌ {A = ℕ} (get_or (replicate n 0) v 0) 0
fresh zero v = refl
fresh (suc n) zero = refl
fresh (suc n) (suc v) = fresh n v

pub none_marked : Marked no_tables (replicate 1024 0)
none_marked =
    record { mark = λ v. fresh 1024 v; low = λ v. omega arith; past = λ v g. refl; few = omega arith; size = length-replicate {A = ℕ} 1024 0 }

module _ (file : List ℕ) where
  pub read_long : 65536 < length file → Err (record { number = 1; place = 0 }) ≡ answer_of (read_of file)
  unfolding read_of
  read_long h = rw (lt-leb (length file) 65536 h, and-false)

  pub read_odd : (length file % 32 ≡ 0 → ⊥) → Err (record { number = 1; place = 0 }) ≡ answer_of (read_of file)
  unfolding read_of
  read_odd h = rw (ne_eqb (length file % 32) 0 h)

  pub read_run : (x : Result Counts Refused) → length file ≤ 65536 → length file % 32 ≡ 0 → x ≡ pass_from (records_of file) 0 no_counts (replicate 1024 0)
      → x ≡ answer_of (read_of file)
  unfolding read_of
  read_run x h l q =
      rw (le-leb (length file) 65536 h, eq-eqb (length file % 32) 0 l) (q ∙ pass_is_read (records_of file) 0 no_tables (replicate 1024 0) none_marked)
