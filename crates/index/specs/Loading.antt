-- Why the index that `number` fills, record by record, is the one that `Based` describes. The theorem is `numbers_hold`, at the end.
-- It goes by what is known behind some of the records (`Behind`): the tables are theirs, the places are counted, and each region holds
-- what `wanted` says (`Filled`). One record more keeps all that (`behind_more`): it is stored at one place of its own region (`stored`),
-- where it is now wanted (`wanted_here`), and nothing else is (`wanted_else`, `wanted_other`); no other region has that place (`apart`).
use Rattle.std.specs.Prelude.{◌≡◌, Bool, true, false, cond, not, ◌||◌, length, get_or, eqb}
use Rattle.std.proofs.Math.Path.{refl, ap}
use Rattle.std.proofs.Common.{sym, ◌∙◌, arith, add-one, length-append, length-set, get_or-set_same, get_or-set_other, lt-ltb, eqb-true, ltb-true, eq-eqb}
use mathlib.Core.List.{List, [], ◌∷◌, ◌++◌, append_assoc, append-nil}
use Rattle.std.proofs.Math.Option.{some}
use Prim.Native.Nat.{ℕ, suc, ◌+◌, ◌/◌, ◌≤◌, ◌<◌}
use Rattle.std.proofs.Math.ListN.{set, get_or-eq_default}
use Rattle.std.proofs.lemmas.Bool.{eqb-false}
use Rattle.basis.specs.Lists.{snoc, any, filter}
use Rattle.basis.specs.Members.{split, clash, All}
use Rattle.records.specs.declared.Table.{Table}
use Rattle.records.specs.declared.Table.TheVariants.{Names, Solvables, VersionSets, Requirements, Candidates, Reasons, Variables, Assigned}
use Rattle.records.specs.declared.Table.TheVariants.{Clauses}
use Rattle.records.specs.declared.Slot.{Slot}
use Rattle.records.specs.declared.Slot.TheVariants as S
use Rattle.records.specs.declared.Shape.{Shape}
use Rattle.records.specs.Shapes.{Rec, records_of, limit, shape_of}
use Rattle.records.specs.Tables.{Tables, no_tables, table_of, put}
use Rattle.records.specs.Read.{read_of, good, tables_of}
use Rattle.records.specs.Steps.{Passed}
use Rattle.index.specs.declared.Places.{Places}
use Rattle.index.specs.Steps.{Steps, table_no, table_no_of, is_in, each_table, table_known, its_table, table_put, read_accepted}
use Rattle.index.specs.Steps.{shape_has}
use Rattle.index.specs.Promise.{Valid, Sound, sound_new, sound_assigned, unseen, valid_more, valid_none, all_whole}
use Rattle.index.specs.Index.{base, wanted, marks_by, mark_in, base_of, assign, marked, passed_by, numbered, no_places, Blank, Based}
use Rattle.index.specs.Found.{mark_none}
use Rattle.index.specs.Regions.{apart, below_chains}
use Rattle.index.specs.More.{filter_more, filter_less, marks_long, marks_more, marks_same, last_at_lem, last_else, mark_at_lem, mark_else}

-- ---- what is known behind the records pre

-- each region holds what is wanted of them, and the part from lo on is blank
pub record Filled (lo : ℕ) (pre : List Rec) (ix : List ℕ) : Type 0 where
  pub wide : length ix ≡ 10432
  pub own : (t : Table) (k : ℕ) → k < limit t → get_or ix (base t + k) 0 ≡ wanted t pre k
  pub free : (a : ℕ) → lo ≤ a → get_or ix a 0 ≡ 0

-- the candidates and the clauses are counted
abbrev Counted : Tables → Places → Type 0
Counted T c = (c.candidates ≡ length T.candidates) × (c.clauses ≡ length T.clauses)

-- the tables T are made of them
abbrev pub HeldIn : List Rec → Tables → Type 0
HeldIn pre T = (t : Table) → table_of t T ≡ filter (is_in t) pre

record Behind (pre : List Rec) (T : Tables) (c : Places) (ix : List ℕ) : Type 0 where
  valid : Valid T
  held : HeldIn pre T
  counts : Counted T c
  filled : Filled 5056 pre ix

-- ---- where a record goes, and what is stored there

-- the records of a table stand in the order in which they come; those of kind 8 by their variables
abbrev pub is_listed : Table → Bool
is_listed t = not (eqb (table_no t) 7)

-- what holds of the tables in order and of the records 8 holds of every table
by_listing : (P : Table → Type 0) → ((t : Table) → is_listed t ≡ true → P t) → P Assigned → (t : Table) → P t
by_listing P f a =
    each_table P
    (f Names refl) (f Solvables refl) (f VersionSets refl) (f Requirements refl) (f Candidates refl) (f Reasons refl) (f Variables refl)
    a (f Clauses refl)

-- the place in its region of the record r that comes to the tables T
abbrev pub key_for : Table → Rec → Tables → ℕ
key_for t r T = cond (is_listed t) (length (table_of t T)) r.a

-- what is stored for it, if it is record j: its number plus one; of a record 8 its clause plus one
abbrev pub value_for : Table → Rec → ℕ → ℕ
value_for t r j = cond (is_listed t) (j + 1) (r.b + 1)

-- the tables whose records bring their numbers along: all but candidates, records 8 and clauses
abbrev pub is_own : Table → Bool
is_own Names = true
is_own Solvables = true
is_own VersionSets = true
is_own Requirements = true
is_own Candidates = false
is_own Reasons = true
is_own Variables = true
is_own Assigned = false
is_own Clauses = false

abbrev is_own_slot : Slot → Bool
is_own_slot S.Unused = false
is_own_slot S.Own = true
is_own_slot (S.Names t) = false
is_own_slot (S.Variable o) = false
is_own_slot S.Origin = false
is_own_slot S.Named = false
is_own_slot S.Unassigned = false

-- in these tables field a is the own number
own_slot : (k : ℕ) (s : Shape) → shape_of k ≡ some s → is_own s.table ≡ true → s.a ≡ S.Own
own_slot k s e o = is_own_lem s.a (rw o at (shape_has (λ x. not (is_own x.table) || is_own_slot x.a) refl k s e))
  where
    is_own_lem : (x : Slot) → is_own_slot x ≡ true → x ≡ S.Own
    is_own_lem S.Unused h = clash (cc)
    is_own_lem S.Own h = refl
    is_own_lem (S.Names t) h = clash (cc)
    is_own_lem (S.Variable o) h = clash (cc)
    is_own_lem S.Origin h = clash (cc)
    is_own_lem S.Named h = clash (cc)
    is_own_lem S.Unassigned h = clash (cc)

-- the base that the code finds by the kind is that of the shape's table
base_known : (k : ℕ) (s : Shape) → shape_of k ≡ some s → base_of k ≡ base s.table
unfolding base_of
base_known k s e = rw (table_known k s e) (by_table s.table)
  where
    by_table : (t : Table) → get_or (0 ∷ 128 ∷ 384 ∷ 640 ∷ 896 ∷ 1920 ∷ 1984 ∷ 3008 ∷ 4032 ∷ []) (table_no t) 10432 ≡ base t
    by_table = each_table _ refl refl refl refl refl refl refl refl refl

-- a record r that passes at the tables T, whole and valid, of shape s
module _ (T : Tables) (v : Valid T) (r : Rec) (w : length r.text ≡ 24) (s : Shape) (p : Passed T r s) where
  sound_in : (u : Table) → s.table ≡ u → Sound T u (length (table_of u T)) r
  sound_in u z = rw z at (sound_new T r s w p)

  pub own_number : (u : Table) → s.table ≡ u → is_own u ≡ true → r.a ≡ length (table_of u T)
  own_number u z o =
      let h : Sound T u (length (table_of u T)) r = sound_in u z in
      let y : h.shape.a ≡ S.Own = own_slot r.kind h.shape h.known (rw h.mine o) in
      rw y at h.right_a

  pub assigned_small : s.table ≡ Assigned → (r.a < 1024) × (r.b < 1024)
  assigned_small z = sound_assigned T (length T.assigned) r v (sound_in Assigned z)

  -- its place is in its region
  pub key_small : (u : Table) → s.table ≡ u → key_for u r T < limit u
  key_small =
      by_listing (λ u. s.table ≡ u → key_for u r T < limit u)
      (λ u l z. rw l (ltb-true (length (table_of u T)) (limit u) (rw z at p.room)))
      (λ z. (assigned_small z).0)

  -- the code stores that value at that place
  stored : (c : Places) (ix : List ℕ) (j : ℕ) → Counted T c
      → (u : Table) → s.table ≡ u → marked (base u) r j c ix ≡ set ix (base u + key_for u r T) (value_for u r j)
  unfolding marked assign
  stored c ix j n =
      each_table (λ u. s.table ≡ u → marked (base u) r j c ix ≡ set ix (base u + key_for u r T) (value_for u r j))
      (λ z. ap (at_base 0) (own_number Names z refl))
      (λ z. ap (at_base 128) (own_number Solvables z refl))
      (λ z. ap (at_base 384) (own_number VersionSets z refl))
      (λ z. ap (at_base 640) (own_number Requirements z refl))
      (λ z. ap (at_base 896) n.0)
      (λ z. ap (at_base 1920) (own_number Reasons z refl))
      (λ z. ap (at_base 1984) (own_number Variables z refl))
      (λ z. rw (lt-ltb r.b 1024 (assigned_small z).1))
      (λ z. ap (at_base 4032) n.1)
    where
      at_base : ℕ → ℕ → List ℕ
      at_base b a = set ix (b + a) (j + 1)

-- ---- what is wanted behind one record more

wanted_listed : (t : Table) → is_listed t ≡ true → (rs : List Rec) (k : ℕ) → wanted t rs k ≡ get_or (marks_by (is_in t) rs 0) k 0
wanted_listed =
    each_table (λ t. is_listed t ≡ true → (rs : List Rec) (k : ℕ) → wanted t rs k ≡ get_or (marks_by (is_in t) rs 0) k 0)
    (λ l rs k. refl) (λ l rs k. refl) (λ l rs k. refl) (λ l rs k. refl) (λ l rs k. refl) (λ l rs k. refl) (λ l rs k. refl)
    (λ l rs k. clash (cc)) (λ l rs k. refl)

module _ (pre : List Rec) (T : Tables) (held : HeldIn pre T) (r : Rec) where
  -- as many marks as the table has records
  long : (t : Table) → length (table_of t T) ≡ length (marks_by (is_in t) pre 0)
  long t = ap length (held t) ∙ sym (marks_long (is_in t) pre 0)

  -- a record of table t: at its place its value
  wanted_here : (t : Table) (k : ℕ) → is_in t r ≡ true → (t ≡ Assigned → any (λ g. eqb g.a r.a) T.assigned ≡ false)
      → k ≡ key_for t r T → wanted t (snoc pre r) k ≡ value_for t r (length pre)
  wanted_here =
      by_listing (λ t. (k : ℕ) → is_in t r ≡ true → (t ≡ Assigned → any (λ g. eqb g.a r.a) T.assigned ≡ false)
      → k ≡ key_for t r T → wanted t (snoc pre r) k ≡ value_for t r (length pre))
      (λ t l k e n q. wanted_listed t l (snoc pre r) k ∙ rw l (listed t k e (rw l at q)))
      (λ k e n q.
      rw (filter_more (is_in Assigned) pre r e, add-one r.b)
      (mark_at_lem (filter (is_in Assigned) pre) r k (rw (held Assigned) at (n refl)) q))
    where
      listed : (t : Table) (k : ℕ) → is_in t r ≡ true → k ≡ length (table_of t T)
          → get_or (marks_by (is_in t) (snoc pre r) 0) k 0 ≡ length pre + 1
      listed t k e q =
          let z : suc (0 + length pre) ≡ length pre + 1 = omega arith in
          rw (marks_more (is_in t) pre r 0 e, ← z) (last_at_lem (marks_by (is_in t) pre 0) (suc (0 + length pre)) k (q ∙ long t))

  -- and elsewhere in its region what was wanted before
  wanted_else : (t : Table) (k : ℕ) → is_in t r ≡ true → (k ≡ key_for t r T → ⊥) → wanted t (snoc pre r) k ≡ wanted t pre k
  wanted_else =
      by_listing (λ t. (k : ℕ) → is_in t r ≡ true → (k ≡ key_for t r T → ⊥) → wanted t (snoc pre r) k ≡ wanted t pre k)
      (λ t l k e d. wanted_listed t l (snoc pre r) k ∙ listed t k e (rw l at d) ∙ sym (wanted_listed t l pre k))
      (λ k e d. rw (filter_more (is_in Assigned) pre r e) (mark_else (filter (is_in Assigned) pre) r k d))
    where
      listed : (t : Table) (k : ℕ) → is_in t r ≡ true → (k ≡ length (table_of t T) → ⊥)
          → get_or (marks_by (is_in t) (snoc pre r) 0) k 0 ≡ get_or (marks_by (is_in t) pre 0) k 0
      listed t k e d =
          rw (marks_more (is_in t) pre r 0 e)
          (last_else (marks_by (is_in t) pre 0) (suc (0 + length pre)) k (λ z. d (z ∙ sym (long t))))

  -- a record of another table: what was wanted before
  wanted_other : (t : Table) (k : ℕ) → is_in t r ≡ false → wanted t (snoc pre r) k ≡ wanted t pre k
  wanted_other =
      by_listing (λ t. (k : ℕ) → is_in t r ≡ false → wanted t (snoc pre r) k ≡ wanted t pre k)
      (λ t l k e.
      wanted_listed t l (snoc pre r) k
      ∙ ap (λ (m : List ℕ). get_or m k 0) (marks_same (is_in t) pre r 0 e)
      ∙ sym (wanted_listed t l pre k))
      (λ k e. ap (λ (gs : List Rec). mark_in gs k) (filter_less (is_in Assigned) pre r e))

-- ---- one record more

module _ (pre : List Rec) (T : Tables) (held : HeldIn pre T) (valid : Valid T)
    (r : Rec) (w : length r.text ≡ 24) (s : Shape) (p : Passed T r s) where
  pub held_more : HeldIn (snoc pre r) (put s.table r T)
  held_more t =
      split (is_in t r)
      (λ e. rw (table_put t r s T p.known, e, filter_more (is_in t) pre r e, ← held t))
      (λ e. rw (table_put t r s T p.known, e, filter_less (is_in t) pre r e, ← held t))

  -- it is stored at its place
  pub filled_set : (lo : ℕ) (ix : List ℕ) → 5056 ≤ lo → Filled lo pre ix
      → Filled lo (snoc pre r) (set ix (base s.table + key_for s.table r T) (value_for s.table r (length pre)))
  filled_set lo ix bound N = record { wide = length-set ix place value ∙ N.wide; own = own_more; free = free_more }
    where
      key : ℕ
      key = key_for s.table r T

      place : ℕ
      place = base s.table + key

      value : ℕ
      value = value_for s.table r (length pre)

      small : key < limit s.table
      small = key_small T valid r w s p s.table refl

      inside : place < 5056
      inside = omega (arith, below_chains s.table, small)

      free_more : (a : ℕ) → lo ≤ a → get_or (set ix place value) a 0 ≡ 0
      free_more a h = get_or-set_other ix place a value 0 (λ z. omega (arith, inside)) ∙ N.free a h

      mine : is_in s.table r ≡ true
      mine = eq-eqb (table_no_of r.kind) (table_no s.table) (table_known r.kind s p.known)

      -- the place where it was stored
      here : (t : Table) (k : ℕ) → k < limit t → base t + k ≡ place → get_or (set ix place value) (base t + k) 0 ≡ wanted t (snoc pre r) k
      here t k h e =
          let z : s.table ≡ t = sym (apart t s.table k key h small e) in
          let f : base t + k ≡ base t + key_for t r T = rw z at e in
          let q : k ≡ key_for t r T = omega arith in
          let g : get_or (set ix place value) (base t + k) 0 ≡ value =
          rw e (get_or-set_same ix place value 0 (omega (arith, N.wide, inside))) in
          let y : value ≡ value_for t r (length pre) = ap (λ (u : Table). value_for u r (length pre)) z in
          g ∙ y ∙ sym (wanted_here pre T (held) r t k (rw z at mine) (λ x. unseen T r s p (z ∙ x)) q)

      -- any other place
      other : (t : Table) (k : ℕ) → k < limit t → (base t + k ≡ place → ⊥)
          → get_or (set ix place value) (base t + k) 0 ≡ wanted t (snoc pre r) k
      other t k h d =
          get_or-set_other ix place (base t + k) value 0 d ∙ N.own t k h
          ∙ split (is_in t r)
          (λ e. let z : s.table ≡ t = its_table t r s p.known e in sym (wanted_else pre T (held) r t k e (λ q. d (rw (z, q)))))
          (λ e. sym (wanted_other pre T (held) r t k e))

      own_more : (t : Table) (k : ℕ) → k < limit t → get_or (set ix place value) (base t + k) 0 ≡ wanted t (snoc pre r) k
      own_more t k h =
          split (eqb (base t + k) place)
          (λ e. here t k h (eqb-true (base t + k) place e))
          (λ e. other t k h (eqb-false (base t + k) place e))

module _ (pre : List Rec) (T : Tables) (c : Places) (ix : List ℕ) (B : Behind pre T c ix)
    (r : Rec) (w : length r.text ≡ 24) (s : Shape) (p : Passed T r s) where
  counted_more : (u : Table) → Counted (put u r T) (passed_by (base u) c)
  unfolding passed_by
  counted_more =
      let n : Counted T c = B.counts in
      each_table (λ u. Counted (put u r T) (passed_by (base u) c))
      n n n n (rw (n.0, length-append) refl, n.1) n n n (n.0, rw (n.1, length-append) refl)

  filled_more : Filled 5056 (snoc pre r) (marked (base s.table) r (length pre) c ix)
  filled_more =
      rw (stored T B.valid r w s p c ix (length pre) B.counts s.table refl)
      (filled_set pre T B.held B.valid r w s p 5056 ix (omega arith) B.filled)

  behind_more : Behind (snoc pre r) (put s.table r T) (passed_by (base s.table) c) (marked (base s.table) r (length pre) c ix)
  behind_more =
      record { valid = valid_more T r s p w B.valid; held = held_more pre T B.held B.valid r w s p; counts = counted_more s.table; filled = filled_more }

-- ---- every record

filled_all : (rs pre : List Rec) (T U : Tables) (c : Places) (ix : List ℕ) → Steps T rs U → All (λ r. length r.text ≡ 24) rs
    → Behind pre T c ix → Filled 5056 (pre ++ rs) (numbered rs (length pre) c ix)
unfolding numbered
filled_all [] pre T U c ix p w B = rw (append-nil pre) B.filled
filled_all (r ∷ rs) pre T U c ix p w B =
    let s : Shape = p.0 in
    let b : base_of r.kind ≡ base s.table = base_known r.kind s p.1.known in
    let l : length (snoc pre r) ≡ suc (length pre) = length-append pre (r ∷ []) ∙ add-one (length pre) in
    let more = behind_more pre T c ix B r w.0 s p.1 in
    rw (b, ← append_assoc pre (r ∷ []) rs, ← l) (filled_all rs (snoc pre r) _ U _ _ p.2 w.1 more)

-- before the first
pub filled_none : (lo : ℕ) (ix : List ℕ) → Blank ix → Filled lo [] ix
unfolding marks_by
filled_none lo ix b = record { wide = b.wide; own = λ t k h. b.zeros (base t + k) ∙ sym (nothing t k); free = λ a h. b.zeros a }
  where
    nothing : (t : Table) (k : ℕ) → wanted t [] k ≡ 0
    nothing =
        by_listing (λ t. (k : ℕ) → wanted t [] k ≡ 0)
        (λ t l k. wanted_listed t l [] k ∙ get_or-eq_default [] 0 {n = k} (omega arith))
        mark_none

behind_none : (ix : List ℕ) → Blank ix → Behind [] no_tables no_places ix
behind_none ix b =
    record {
      valid = valid_none;
      held = each_table (λ t. table_of t no_tables ≡ []) refl refl refl refl refl refl refl refl refl;
      counts = (refl, refl);
      filled = filled_none 5056 ix b;
    }

-- the records of an accepted file, numbered into a blank index: its regions are those of the file, and the part of the chains is blank
pub numbers_hold : (file ix : List ℕ) → read_of file ≡ good (tables_of file) → Blank ix
    → Based file (numbered (records_of file) 0 no_places ix) × ((a : ℕ) → 5056 ≤ a → get_or (numbered (records_of file) 0 no_places ix) a 0 ≡ 0)
numbers_hold file ix e b =
    let a = read_accepted file (tables_of file) e in
    let w = all_whole (length file / 32) file (omega arith) in
    let N : Filled 5056 (records_of file) (numbered (records_of file) 0 no_places ix) =
    filled_all (records_of file) [] no_tables (tables_of file) no_places ix a.steps w (behind_none ix b) in
    (record { accepted = e; wide = N.wide; own = N.own }, N.free)
