-- The promise: what holds of the tables of every accepted file. The crates above cite this, and nothing else of how a file is
-- read (document 01, "The graph part sees only what the reader promises about its tables").
use Rattle.std.specs.Prelude.{◌≡◌, refl, Bool, true, false, ◌&&◌, ◌||◌, not, ◌⊎◌, List, [], ◌∷◌, map, ℕ, zero, suc, ◌*◌, ◌/◌, ◌≤◌, ◌<◌, length, drop, leb, ltb, eqb}
use Rattle.std.proofs.Common.{sym, ap, inl, inr, ⊎_elim, arith, not-suc-le-zero, length-take, length-drop, length-append, eqb-true, leb-true, ltb-true, ltb-false, eq-eqb, ne_eqb}
use Rattle.std.proofs.Math.Option.{some}
use Rattle.std.proofs.Math.ListN.{get_or-append}
use Rattle.std.proofs.Math.Seq.{get_or-append_seam}
use Rattle.std.proofs.lemmas.Bool.{not-true}
use Rattle.basis.specs.Lists.{snoc, any, all}
use Rattle.basis.specs.Members.{split, clash, In, All, Distinct, either, no_both, in_append, and_true}
use Rattle.basis.specs.Limit.{grow}
use Rattle.records.specs.declared.Table.{Table}
use Rattle.records.specs.declared.Table.TheVariants.{Names, Solvables, Variables, Assigned, Clauses}
use Rattle.records.specs.declared.First.{First}
use Rattle.records.specs.declared.First.TheVariants as F
use Rattle.records.specs.declared.Slot.{Slot}
use Rattle.records.specs.declared.Slot.TheVariants as S
use Rattle.records.specs.declared.Shape.{Shape}
use Rattle.records.specs.Shapes.{Rec, cut, records_of, limit, shape_of}
use Rattle.records.specs.Tables.{Tables, no_tables, table_of, put, at, no_rec}
use Rattle.records.specs.Read.{rec_text, zeros, first_good, field_good, named_good, number_good, allows, origin_good, good, read_of}
use Rattle.records.specs.Steps.{Passed}
use Rattle.index.specs.Steps.{Steps, read_accepted, is_in, table_put, its_table, each_table, each_kind}

-- ---- the promise

-- field x of the record r, number i of its table, holds what its slot says
abbrev pub Right : Tables → ℕ → Slot → Rec → ℕ → Type 0
Right T i S.Unused r x = x ≡ 0
Right T i S.Own r x = x ≡ i
Right T i (S.Names t) r x = x < length (table_of t T)
Right T i (S.Variable o) r x = (x < length T.variables) × (allows o (at T.variables x).b ≡ true)
Right T i S.Origin r x = x ≤ 5
Right T i S.Named r x = (r.b ≡ 1 → x < length T.solvables) × (r.b ≡ 2 → x < length T.names) × ((r.b ≡ 1 → ⊥) → (r.b ≡ 2 → ⊥) → x ≡ 0)
Right T i S.Unassigned r x = x < length T.variables

-- byte 1 and the text: "Text is 1 to 24 bytes, each from 32 to 126"
abbrev pub RightFirst : First → Rec → Type 0
RightFirst F.Length r = (1 ≤ length (rec_text r)) × (length (rec_text r) ≤ 24) × (all (λ x. leb 32 x && leb x 126) (rec_text r) ≡ true)
RightFirst F.Flag r = r.first ≤ 1
RightFirst F.Unused r = r.first ≡ 0

-- record i of table t
pub record Sound (T : Tables) (t : Table) (i : ℕ) (r : Rec) : Type 0 where
  pub shape : Shape
  pub known : shape_of r.kind ≡ some shape
  pub mine : shape.table ≡ t
  pub right_first : RightFirst shape.first r
  pub right_a : Right T i shape.a r r.a
  pub right_b : Right T i shape.b r r.b
  pub right_c : Right T i shape.c r r.c

pub record Valid (T : Tables) : Type 0 where
  -- "Tables (limit)"
  pub within : (t : Table) → length (table_of t T) ≤ limit t
  -- "A record names only earlier records", own numbers "count up from 0", "Origins allowed"
  pub sound : (t : Table) (i : ℕ) → i < length (table_of t T) → Sound T t i (at (table_of t T) i)
  -- "A variable has at most one record 8"
  pub once : Distinct (map (λ r. r.a) T.assigned)

-- ---- tables that grow keep it

record Grown (T U : Tables) : Type 0 where
  pub longer : (t : Table) → length (table_of t T) ≤ length (table_of t U)
  pub kept : (x : ℕ) → x < length T.variables → at U.variables x ≡ at T.variables x

right_grown : (T U : Tables) → Grown T U → (i : ℕ) (s : Slot) (r : Rec) (x : ℕ) → Right T i s r x → Right U i s r x
right_grown T U g i S.Unused r x h = h
right_grown T U g i S.Own r x h = h
right_grown T U g i (S.Names t) r x h = omega (arith, g.longer t)
right_grown T U g i (S.Variable o) r x h = (omega (arith, g.longer Variables, h.0), rw (g.kept x h.0) h.1)
right_grown T U g i S.Origin r x h = h
right_grown T U g i S.Named r x h = (λ e. omega (arith, g.longer Solvables, h.0 e), λ e. omega (arith, g.longer Names, h.1 e), h.2)
right_grown T U g i S.Unassigned r x h = omega (arith, g.longer Variables)

sound_grown : (T U : Tables) → Grown T U → (t : Table) (i : ℕ) (r : Rec) → Sound T t i r → Sound U t i r
sound_grown T U g t i r h =
    record {
      shape = h.shape;
      known = h.known;
      mine = h.mine;
      right_first = h.right_first;
      right_a = right_grown T U g i h.shape.a r r.a h.right_a;
      right_b = right_grown T U g i h.shape.b r r.b h.right_b;
      right_c = right_grown T U g i h.shape.c r r.c h.right_c;
    }

-- ---- a record that passes

no_first : (a b : Bool) → a || b ≡ true → a ≡ false → b ≡ true
no_first true b e f = clash (cc)
no_first false b e f = e

-- what a variable names, by its origin
named : (T : Tables) (o x : ℕ) → named_good T o x ≡ true → (o ≡ 1 → x < length T.solvables) × (o ≡ 2 → x < length T.names)
named T o x h = (one, two)
  where
    one : o ≡ 1 → x < length T.solvables
    one e = ltb-true x (length T.solvables) (rw e at h)

    two : o ≡ 2 → x < length T.names
    two e = ltb-true x (length T.names) (rw e at h)

right_new : (T : Tables) (t : Table) (s : Slot) (r : Rec) (x : ℕ) → field_good s r x ≡ true → number_good T t s r x ≡ true → origin_good T s x ≡ true
    → Right T (length (table_of t T)) s r x
right_new T t S.Unused r x f n o = eqb-true x 0 f
right_new T t S.Own r x f n o = eqb-true x (length (table_of t T)) n
right_new T t (S.Names u) r x f n o = ltb-true x (length (table_of u T)) n
right_new T t (S.Variable w) r x f n o = (ltb-true x (length T.variables) n, o)
right_new T t S.Origin r x f n o = leb-true x 5 f
right_new T t S.Named r x f n o = ((named T r.b x n).0, (named T r.b x n).1, none_named)
  where
    none_named : (r.b ≡ 1 → ⊥) → (r.b ≡ 2 → ⊥) → x ≡ 0
    none_named p q =
        eqb-true x 0 (no_first (eqb r.b 2) (eqb x 0) (no_first (eqb r.b 1) (eqb r.b 2 || eqb x 0) f (ne_eqb r.b 1 p)) (ne_eqb r.b 2 q))
right_new T t S.Unassigned r x f n o =
    ltb-true x (length T.variables) (and_true (ltb x (length T.variables)) (not (any (λ g. eqb g.a x) T.assigned)) n).0

first_new : (k : First) (r : Rec) → length r.text ≡ 24 → first_good k r ≡ true → RightFirst k r
first_new F.Length r w e =
    let p = and_true (leb 1 r.first) (leb r.first 24 && (all (λ x. leb 32 x && leb x 126) (rec_text r) && zeros (drop r.first r.text))) e in
    let q = and_true (leb r.first 24) (all (λ x. leb 32 x && leb x 126) (rec_text r) && zeros (drop r.first r.text)) p.1 in
    let a : 1 ≤ r.first = leb-true 1 r.first p.0 in
    let b : r.first ≤ 24 = leb-true r.first 24 q.0 in (
      simp length-take (omega arith),
      simp length-take (omega arith),
      (and_true (all (λ x. leb 32 x && leb x 126) (rec_text r)) (zeros (drop r.first r.text)) q.1).0,
    )
first_new F.Flag r w e = leb-true r.first 1 (and_true (leb r.first 1) (zeros r.text) e).0
first_new F.Unused r w e = eqb-true r.first 0 (and_true (eqb r.first 0) (zeros r.text) e).0

pub sound_new : (T : Tables) (r : Rec) (s : Shape) → length r.text ≡ 24 → Passed T r s → Sound T s.table (length (table_of s.table T)) r
sound_new T r s w p =
    let f = and_true (first_good s.first r) (field_good s.a r r.a && (field_good s.b r r.b && field_good s.c r r.c)) p.shaped in
    let g = and_true (field_good s.a r r.a) (field_good s.b r r.b && field_good s.c r r.c) f.1 in
    let h = and_true (field_good s.b r r.b) (field_good s.c r r.c) g.1 in
    let n = and_true (number_good T s.table s.a r r.a) (number_good T s.table s.b r r.b
    && number_good T s.table s.c r r.c) p.numbered in
    let m = and_true (number_good T s.table s.b r r.b) (number_good T s.table s.c r r.c) n.1 in
    let o = and_true (origin_good T s.a r.a) (origin_good T s.b r.b && origin_good T s.c r.c) p.allowed in
    let q = and_true (origin_good T s.b r.b) (origin_good T s.c r.c) o.1 in
    record {
      shape = s;
      known = p.known;
      mine = refl;
      right_first = first_new s.first r w f.0;
      right_a = right_new T s.table s.a r r.a g.0 n.0 o.0;
      right_b = right_new T s.table s.b r r.b h.0 m.0 q.0;
      right_c = right_new T s.table s.c r r.c h.1 m.1 q.1;
    }

-- the records of kind 8 are those of their table
assigned_slots : (k : ℕ) (s : Shape) → shape_of k ≡ some s → s.table ≡ Assigned → (s.a ≡ S.Unassigned) × (s.b ≡ S.Names Clauses)
assigned_slots =
    each_kind (λ o. (s : Shape) → o ≡ some s → s.table ≡ Assigned → (s.a ≡ S.Unassigned) × (s.b ≡ S.Names Clauses)) (
      λ s e h. (cc, cc),
      (
        λ s e h. (cc, cc),
        (
          λ s e h. (cc, cc),
          (
            λ s e h. (cc, cc),
            (
              λ s e h. (cc, cc),
              (
                λ s e h. (cc, cc),
                (
                  λ s e h. (cc, cc),
                  (
                    λ s e h. (cc, cc),
                    (
                      λ s e h. (cc, cc),
                      (
                        λ s e h. (cc, cc),
                        (
                          λ s e h. (cc, cc),
                          (
                            λ s e h. (cc, cc),
                            (λ s e h. (cc, cc), (λ s e h. (cc, cc), (λ s e h. (cc, cc), (λ s e h. (cc, cc), (λ s e h. (cc, cc), (λ s e h. (cc, cc), tt)))))),
                          ),
                        ),
                      ),
                    ),
                  ),
                ),
              ),
            ),
          ),
        ),
      ),
    )
    (λ s e h. (cc, cc))

pub sound_assigned : (T : Tables) (i : ℕ) (r : Rec) → Valid T → Sound T Assigned i r → (r.a < 1024) × (r.b < 1024)
sound_assigned T i r v h =
    let y = assigned_slots r.kind h.shape h.known h.mine in
    let a : r.a < length T.variables = rw y.0 at h.right_a in
    let b : r.b < length T.clauses = rw y.1 at h.right_b in
    (omega (arith, v.within Variables), omega (arith, v.within Clauses))

-- ---- one record more

length_snoc : {A : Type 0} (l : List A) (a : A) → length (snoc l a) ≡ suc (length l)
length_snoc l a = rw length-append (omega arith)

map_snoc : {A B : Type 0} (f : A → B) (l : List A) (a : A) → map f (snoc l a) ≡ snoc (map f l) (f a)
map_snoc f [] a = refl
map_snoc f (x ∷ xs) a = ap (λ (m : List _). f x ∷ m) (map_snoc f xs a)

distinct_snoc : {A : Type 0} (l : List A) (a : A) → Distinct l → (In a l → ⊥) → Distinct (snoc l a)
distinct_snoc [] a d h = (λ i. i, tt)
distinct_snoc (x ∷ xs) a d h =
    (λ i. either (in_append x xs (a ∷ []) i) d.0 (λ j. either j (λ e. h (inl (sym e))) (λ z. z)), distinct_snoc xs a d.1 (λ i. h (inr i)))

any_map : (l : List Rec) (x : ℕ) → In x (map (λ g. g.a) l) → any (λ g. eqb g.a x) l ≡ true
any_map [] x i = absurd i
any_map (g ∷ l) x (inl e) = rw (eq-eqb g.a x (sym e), any)
any_map (g ∷ l) x (inr i) = split (eqb g.a x) (λ q. rw (q, any)) (λ q. rw (q, any) (any_map l x i))

module _ (T : Tables) (r : Rec) (s : Shape) (p : Passed T r s) where
  abbrev pub more : Tables
  more = put s.table r T

  longer : (u : Table) → length (table_of u T) ≤ length (table_of u more)
  longer u =
      split (is_in u r)
      (λ e. rw (table_put u r s T p.known, e) (rw (length_snoc (table_of u T) r) (omega arith)))
      (λ e. rw (table_put u r s T p.known, e) (omega arith))

  stays : (u : Table) (i : ℕ) → i < length (table_of u T) → at (table_of u more) i ≡ at (table_of u T) i
  stays u i h =
      split (is_in u r)
      (λ e. rw (table_put u r s T p.known, e) (get_or-append (table_of u T) (r ∷ []) no_rec i h))
      (λ e. rw (table_put u r s T p.known, e))

  grown : Grown T more
  grown = record { longer = longer; kept = stays Variables }

  within_more : Valid T → (u : Table) → length (table_of u more) ≤ limit u
  within_more v u =
      split (is_in u r)
      (λ e. let z : s.table ≡ u = its_table u r s p.known e in
      rw (table_put u r s T p.known, e) (rw (length_snoc (table_of u T) r) (omega (arith, grow (limit u) (length (table_of u T)) (rw z at p.room)))))
      (λ e. rw (table_put u r s T p.known, e) (v.within u))

  sound_more : length r.text ≡ 24 → Valid T → (u : Table) (i : ℕ) → i < length (table_of u more) → Sound more u i (at (table_of u more) i)
  sound_more w v u i h =
      ⊎_elim old (λ l. fresh (split (is_in u r) (λ e. e) (λ e. absurd (never e l))) l) (near (length (table_of u T)) i)
    where
      near : (m i : ℕ) → (i < m) ⊎ (m ≤ i)
      near m i = split (ltb i m) (λ e. inl (ltb-true i m e)) (λ e. inr (ltb-false i m e))

      old : i < length (table_of u T) → Sound more u i (at (table_of u more) i)
      old l = rw (stays u i l) (sound_grown T more grown u i (at (table_of u T) i) (v.sound u i l))

      never : is_in u r ≡ false → length (table_of u T) ≤ i → ⊥
      never e l = let k : i < length (table_of u T) = rw (table_put u r s T p.known, e) at h in omega arith

      fresh : is_in u r ≡ true → length (table_of u T) ≤ i → Sound more u i (at (table_of u more) i)
      fresh e l =
          let z : s.table ≡ u = its_table u r s p.known e in
          let k : i < suc (length (table_of u T)) = rw (length_snoc (table_of u T) r) at (rw (table_put u r s T p.known, e) at h) in
          let j : length (table_of u T) ≡ i = omega arith in
          let q : at (table_of u more) i ≡ r = rw (table_put u r s T p.known, e, ← j) (get_or-append_seam (table_of u T) r [] no_rec) in
          rw q (rw j at (sound_grown T more grown u (length (table_of u T)) r (rw z at (sound_new T r s w p))))

  pub unseen : s.table ≡ Assigned → any (λ g. eqb g.a r.a) T.assigned ≡ false
  unseen z =
      let y : s.a ≡ S.Unassigned = (assigned_slots r.kind s p.known z).0 in
      let n = (and_true (number_good T s.table s.a r r.a) (number_good T s.table s.b r r.b
      && number_good T s.table s.c r r.c) p.numbered).0 in
      not-true _ (and_true (ltb r.a (length T.variables)) (not (any (λ g. eqb g.a r.a) T.assigned)) (rw y at n)).1

  once_more : Valid T → Distinct (map (λ g. g.a) more.assigned)
  once_more v =
      split (is_in Assigned r)
      (λ e. rw (table_put Assigned r s T p.known, e, map_snoc (λ g. g.a) T.assigned r)
      (distinct_snoc (map (λ g. g.a) T.assigned) r.a v.once
      (λ i. no_both (any (λ g. eqb g.a r.a) T.assigned) (any_map T.assigned r.a i) (unseen (its_table Assigned r s p.known e)))))
      (λ e. rw (table_put Assigned r s T p.known, e) v.once)

  pub valid_more : length r.text ≡ 24 → Valid T → Valid more
  valid_more w v = record { within = within_more v; sound = sound_more w v; once = once_more v }

-- ---- the theorem

pub valid_none : Valid no_tables
valid_none =
    record {
      within = each_table (λ t. length (table_of t no_tables) ≤ limit t) (omega arith) (omega arith) (omega arith) (omega arith) (omega arith)
          (omega arith) (omega arith) (omega arith) (omega arith);
      sound = λ t i h. absurd (empty t i h);
      once = tt;
    }
  where
    empty : (t : Table) (i : ℕ) → i < length (table_of t no_tables) → ⊥
    empty =
        each_table (λ t. (i : ℕ) → i < length (table_of t no_tables) → ⊥) (λ i h. not-suc-le-zero h) (λ i h. not-suc-le-zero h) (λ i h. not-suc-le-zero h) (λ i h.
        not-suc-le-zero h) (λ i h. not-suc-le-zero h) (λ i h. not-suc-le-zero h) (λ i h. not-suc-le-zero h) (λ i h. not-suc-le-zero h) (λ i h.
        not-suc-le-zero h)

valid_steps : (rs : List Rec) (T U : Tables) → All (λ r. length r.text ≡ 24) rs → Steps T rs U → Valid T → Valid U
valid_steps [] T U w e v = rw (← e) v
valid_steps (r ∷ rs) T U w p v = valid_steps rs (put p.0.table r T) U w.1 p.2 (valid_more T r p.0 p.1 w.0 v)

-- a record's 24 bytes of text
pub all_whole : (n : ℕ) (l : List ℕ) → 32 * n ≤ length l → All (λ r. length r.text ≡ 24) (cut n l)
unfolding cut
all_whole zero l h = tt
all_whole (suc n) l h = (simp (length-take, length-drop, length-take) (omega arith), all_whole n (drop 32 l) (simp length-drop (omega arith)))

pub promise : (file : List ℕ) (T : Tables) → read_of file ≡ good T → Valid T
promise file T e =
    let a = read_accepted file T e in
    valid_steps (records_of file) no_tables T (all_whole (length file / 32) file (omega arith)) a.steps valid_none
