-- The pass over the records as the code makes it: nine counts and a mark for each variable stand for the tables so far.
-- The mark of a variable is its origin, and 8 more once a record 8 names it. Laws: one for each way out of a function.
use Rattle.std.specs.Prelude.{◌≡◌, refl, Bool, true, false, cond, Option, Some, None, Result, Ok, Err, ◌||◌, List, [], ◌∷◌, ℕ, suc, ◌+◌, ◌%◌, ◌/◌, ◌≤◌, ◌<◌, get_or, set, drop, ltb, eqb}
use Rattle.std.proofs.Common.{sym, ◌∙◌, add-one, drop_of_length-le, drop-cons}
use Rattle.std.proofs.Math.Path.{ap}
use Rattle.std.proofs.Math.Option as maybe
use Rattle.std.proofs.Math.Option.{none, some}
use native.Mathlib.Omega.{arith}
use Rattle.std.proofs.Math.ListN.{length}
use borrow.Author.Tests.{eq-eqb, ne_eqb, le-leb, lt-leb}
use Rattle.basis.specs.Guard.{guard}
use Rattle.basis.specs.Members.{All}
use Rattle.records.specs.declared.Refusal.{Refusal}
use Rattle.records.specs.declared.Refusal.TheVariants.{UnknownKind, BadShape, BadNumber, BadOrigin, TableFull}
use Rattle.records.specs.declared.Refused.{Refused}
use Rattle.records.specs.declared.Counts.{Counts}
use Rattle.records.specs.declared.Table.{Table}
use Rattle.records.specs.declared.Table.TheVariants.{Names, Solvables, VersionSets, Requirements, Candidates, Reasons, Variables, Assigned, Clauses}
use Rattle.records.specs.declared.Allowed.{Allowed}
use Rattle.records.specs.declared.Allowed.TheVariants as A
use Rattle.records.specs.declared.Slot.{Slot}
use Rattle.records.specs.declared.Slot.TheVariants as S
use Rattle.records.specs.declared.Shape.{Shape}
use Rattle.records.specs.Shapes.{Rec, records_of, limit, shape_of, kinds, row_at}
use Rattle.records.specs.Tables.{no_rec, at}
use Rattle.records.specs.Read.{field_good, allows}
use Rattle.records.specs.Cut.{length_cut}
use Rattle.records.specs.Text.{first_pass}

-- ---- the shape of a kind

-- the same as a value of the code
abbrev pub found_of : maybe.Option Shape → Option Shape
found_of none = None
found_of (some s) = Some s

unfoldable pub found_at : ℕ → Option Shape
found_at k = found_of (shape_of k)

pub at_kind : (k n : ℕ) (x : Option Shape) → k ≡ n → x ≡ found_of (shape_of n) → x ≡ found_at k
unfolding found_at
at_kind k n x e q = rw e q

row_none : (k : ℕ) (rows : List (ℕ × maybe.Option Shape)) → All (λ x. k ≡ x.0 → ⊥) rows → row_at k rows ≡ none
row_none k [] h = refl
row_none k (x ∷ xs) h = rw (ne_eqb k x.0 h.0, row_at) (row_none k xs h.1)

pub at_none : (k : ℕ)
    → (k ≡ 1 → ⊥)
    → (k ≡ 2 → ⊥)
    → (k ≡ 3 → ⊥)
    → (k ≡ 4 → ⊥)
    → (k ≡ 5 → ⊥)
    → (k ≡ 6 → ⊥)
    → (k ≡ 7 → ⊥)
    → (k ≡ 8 → ⊥)
    → (k ≡ 16 → ⊥)
    → (k ≡ 17 → ⊥)
    → (k ≡ 18 → ⊥)
    → (k ≡ 19 → ⊥)
    → (k ≡ 20 → ⊥)
    → (k ≡ 21 → ⊥)
    → (k ≡ 22 → ⊥)
    → (k ≡ 23 → ⊥)
    → (k ≡ 24 → ⊥)
    → (k ≡ 25 → ⊥)
    → None ≡ found_at k
unfolding found_at shape_of
at_none k h1 h2 h3 h4 h5 h6 h7 h8 h16 h17 h18 h19 h20 h21 h22 h23 h24 h25 =
    ap found_of (sym (row_none k kinds (h1, (h2, (h3, (h4, (h5, (h6, (h7, (h8, (h16, (h17, (h18, (h19, (h20, (h21, (h22, (h23, (h24, (h25, tt))))))))))))))))))))

-- ---- counts

abbrev pub count_of : Table → Counts → ℕ
count_of Names c = c.names
count_of Solvables c = c.solvables
count_of VersionSets c = c.sets
count_of Requirements c = c.requirements
count_of Candidates c = c.candidates
count_of Reasons c = c.reasons
count_of Variables c = c.variables
count_of Assigned c = c.assigned
count_of Clauses c = c.clauses

abbrev pub with_count : Table → Counts → ℕ → Counts
with_count Names c n =
    record {
      names = n;
      solvables = c.solvables;
      sets = c.sets;
      requirements = c.requirements;
      candidates = c.candidates;
      reasons = c.reasons;
      variables = c.variables;
      assigned = c.assigned;
      clauses = c.clauses;
    }
with_count Solvables c n =
    record {
      names = c.names;
      solvables = n;
      sets = c.sets;
      requirements = c.requirements;
      candidates = c.candidates;
      reasons = c.reasons;
      variables = c.variables;
      assigned = c.assigned;
      clauses = c.clauses;
    }
with_count VersionSets c n =
    record {
      names = c.names;
      solvables = c.solvables;
      sets = n;
      requirements = c.requirements;
      candidates = c.candidates;
      reasons = c.reasons;
      variables = c.variables;
      assigned = c.assigned;
      clauses = c.clauses;
    }
with_count Requirements c n =
    record {
      names = c.names;
      solvables = c.solvables;
      sets = c.sets;
      requirements = n;
      candidates = c.candidates;
      reasons = c.reasons;
      variables = c.variables;
      assigned = c.assigned;
      clauses = c.clauses;
    }
with_count Candidates c n =
    record {
      names = c.names;
      solvables = c.solvables;
      sets = c.sets;
      requirements = c.requirements;
      candidates = n;
      reasons = c.reasons;
      variables = c.variables;
      assigned = c.assigned;
      clauses = c.clauses;
    }
with_count Reasons c n =
    record {
      names = c.names;
      solvables = c.solvables;
      sets = c.sets;
      requirements = c.requirements;
      candidates = c.candidates;
      reasons = n;
      variables = c.variables;
      assigned = c.assigned;
      clauses = c.clauses;
    }
with_count Variables c n =
    record {
      names = c.names;
      solvables = c.solvables;
      sets = c.sets;
      requirements = c.requirements;
      candidates = c.candidates;
      reasons = c.reasons;
      variables = n;
      assigned = c.assigned;
      clauses = c.clauses;
    }
with_count Assigned c n =
    record {
      names = c.names;
      solvables = c.solvables;
      sets = c.sets;
      requirements = c.requirements;
      candidates = c.candidates;
      reasons = c.reasons;
      variables = c.variables;
      assigned = n;
      clauses = c.clauses;
    }
with_count Clauses c n =
    record {
      names = c.names;
      solvables = c.solvables;
      sets = c.sets;
      requirements = c.requirements;
      candidates = c.candidates;
      reasons = c.reasons;
      variables = c.variables;
      assigned = c.assigned;
      clauses = n;
    }

abbrev pub no_counts : Counts
no_counts = record { names = 0; solvables = 0; sets = 0; requirements = 0; candidates = 0; reasons = 0; variables = 0; assigned = 0; clauses = 0 }

unfoldable pub count_pass : Table → Counts → ℕ
count_pass t c = count_of t c

unfoldable pub limit_pass : Table → ℕ
limit_pass t = limit t

unfoldable pub with_pass : Table → Counts → ℕ → Counts
with_pass t c n = with_count t c n

module _ (t u : Table) (e : t ≡ u) where
  pub count_at : (c : Counts) (x : ℕ) → x ≡ count_of u c → x ≡ count_pass t c
  unfolding count_pass
  count_at c x q = rw e q

  pub limit_at : (x : ℕ) → x ≡ limit u → x ≡ limit_pass t
  unfolding limit_pass
  limit_at x q = rw e q

  pub with_at : (c : Counts) (n : ℕ) (x : Counts) → x ≡ with_count u c n → x ≡ with_pass t c n
  unfolding with_pass
  with_at c n x q = rw e q

-- "own number not the next", "undefined reference", "the record's table is full"
unfoldable pub is_next : Table → Counts → ℕ → Bool
is_next t c x = eqb x (count_pass t c)

unfoldable pub is_before : Table → Counts → ℕ → Bool
is_before t c x = ltb x (count_pass t c)

unfoldable pub has_room : Table → Counts → Bool
has_room t c = ltb (count_pass t c) (limit_pass t)

-- one record more in a table; the code's test keeps the sum from wrapping, and no table that has room fails it
unfoldable pub more_of : Table → Counts → Counts
more_of t c = guard (ltb (count_pass t c) 1024) c (with_pass t c (count_pass t c + 1))

pub next_is : (t : Table) (c : Counts) (w x n : ℕ) → n ≡ count_pass t c → w ≡ x → eqb w n ≡ is_next t c x
unfolding is_next
next_is t c w x n e q = rw (e, q)

pub before_is : (t : Table) (c : Counts) (w x n : ℕ) → n ≡ count_pass t c → w ≡ x → ltb w n ≡ is_before t c x
unfolding is_before
before_is t c w x n e q = rw (e, q)

pub room_is : (t : Table) (c : Counts) (n l : ℕ) → n ≡ count_pass t c → l ≡ limit_pass t → ltb n l ≡ has_room t c
unfolding has_room
room_is t c n l e q = rw (e, q)

pub with_via : (t : Table) (c d : Counts) (n a : ℕ) → n ≡ a → d ≡ with_pass t c (n + 1) → d ≡ with_pass t c (a + 1)
with_via t c d n a e q = rw e at q

-- ---- fields

unfoldable pub field_pass : Slot → Rec → ℕ → Bool
field_pass s r x = field_good s r x

pub field_at : (s u : Slot) (r : Rec) (x : ℕ) (t : Bool) → s ≡ u → t ≡ field_good u r x → t ≡ field_pass s r x
unfolding field_pass
field_at s u r x t e q = rw e q

pub field_via : (s : Slot) (r : Rec) (x y : ℕ) (t : Bool) → t ≡ field_pass s r x → x ≡ y → t ≡ field_pass s r y
field_via s r x y t q e = rw e at q

-- "c is 0 for 0, 3, 4, 5"
unfoldable pub named_zero : ℕ → ℕ → Bool
named_zero b x = eqb b 1 || (eqb b 2 || eqb x 0)

module _ (b x : ℕ) where
  pub zero_solvable : b ≡ 1 → true ≡ named_zero b x
  unfolding named_zero
  zero_solvable h = rw (eq-eqb b 1 h)

  pub zero_name : b ≡ 2 → (b ≡ 1 → ⊥) → true ≡ named_zero b x
  unfolding named_zero
  zero_name h l = rw (ne_eqb b 1 l, eq-eqb b 2 h)

  pub zero_other : (b ≡ 1 → ⊥) → (b ≡ 2 → ⊥) → eqb x 0 ≡ named_zero b x
  unfolding named_zero
  zero_other h l = rw (ne_eqb b 1 h, ne_eqb b 2 l)

pub field_named : (s : Slot) (r : Rec) (b x : ℕ) (t : Bool) → s ≡ S.Named → t ≡ named_zero b x → b ≡ r.b → t ≡ field_pass s r x
unfolding field_pass named_zero
field_named s r b x t e q h = rw e (rw h at q)

unfoldable pub shape_pass : Shape → Rec → Bool
shape_pass s r =
    guard (first_pass s.first r) false
    (guard (field_pass s.a r r.a) false
    (guard (field_pass s.b r r.b) false
    (field_pass s.c r r.c)))

-- ---- numbers

unfoldable pub named_pass : Counts → ℕ → ℕ → Bool
named_pass c o x = cond (eqb o 1) (is_before Solvables c x) (cond (eqb o 2) (is_before Names c x) true)

pub named_solvable : (c : Counts) (o x : ℕ) (t : Bool) → o ≡ 1 → t ≡ is_before Solvables c x → t ≡ named_pass c o x
unfolding named_pass
named_solvable c o x t e q = rw e q

pub named_name : (c : Counts) (o x : ℕ) (t : Bool) → o ≡ 2 → t ≡ is_before Names c x → t ≡ named_pass c o x
unfolding named_pass
named_name c o x t e q = rw e q

pub named_none : (c : Counts) (o x : ℕ) → (o ≡ 1 → ⊥) → (o ≡ 2 → ⊥) → true ≡ named_pass c o x
unfolding named_pass
named_none c o x h l = simp (ne_eqb o 1 h, ne_eqb o 2 l)

unfoldable pub free_pass : Counts → List ℕ → ℕ → Bool
free_pass c m x = guard (is_before Variables c x) false (ltb (get_or m x 0) 8)

pub free_is : (m : List ℕ) (w x n k : ℕ) → n ≡ get_or m w 0 → w ≡ x → ltb n k ≡ ltb (get_or m x 0) k
free_is m w x n k q e = rw (q, e)

abbrev pub number_at : Counts → List ℕ → Table → Slot → ℕ → ℕ → Bool
number_at c m t S.Unused b x = true
number_at c m t S.Own b x = is_next t c x
number_at c m t (S.Names u) b x = is_before u c x
number_at c m t (S.Variable o) b x = is_before Variables c x
number_at c m t S.Origin b x = true
number_at c m t S.Named b x = named_pass c b x
number_at c m t S.Unassigned b x = free_pass c m x

unfoldable pub number_pass : Counts → List ℕ → Table → Slot → ℕ → ℕ → Bool
number_pass c m t s b x = number_at c m t s b x

pub number_at_lem : (c : Counts) (m : List ℕ) (t : Table) (s u : Slot) (b x : ℕ) (y : Bool) → s ≡ u → y ≡ number_at c m t u b x → y ≡ number_pass c m t s b x
unfolding number_pass
number_at_lem c m t s u b x y e q = rw e q

pub number_via : (c : Counts) (m : List ℕ) (t : Table) (s : Slot) (b x d z : ℕ) (y : Bool) → y ≡ number_pass c m t s b x → b ≡ d → x ≡ z
    → y ≡ number_pass c m t s d z
number_via c m t s b x d z y q e f = rw (e, f) at q

unfoldable pub numbers_pass : Counts → List ℕ → Shape → Rec → Bool
numbers_pass c m s r =
    guard (number_pass c m s.table s.a r.b r.a) false
    (guard (number_pass c m s.table s.b r.b r.b) false
    (number_pass c m s.table s.c r.b r.c))

-- ---- origins

unfoldable pub allows_pass : Allowed → ℕ → Bool
allows_pass o v = allows o v

pub allows_at : (o u : Allowed) (v : ℕ) (t : Bool) → o ≡ u → t ≡ allows u v → t ≡ allows_pass o v
unfolding allows_pass
allows_at o u v t e q = rw e q

-- "these or a gate"
pub allows_low : (o : Allowed) (v : ℕ) → o ≡ A.Requirer → v ≤ 1 → true ≡ allows_pass o v
unfolding allows_pass
allows_low o v e h = rw (e, le-leb v 1 h)

pub allows_gate : (o : Allowed) (v : ℕ) → o ≡ A.Requirer → 1 < v → eqb v 3 ≡ allows_pass o v
unfolding allows_pass
allows_gate o v e h = rw (e, lt-leb v 1 h)

-- the origin in a variable's mark
unfoldable pub mark_origin : List ℕ → ℕ → ℕ
mark_origin m x = get_or m x 0 % 8

pub mark_origin_is : (m : List ℕ) (w x n : ℕ) → n ≡ get_or m w 0 → w ≡ x → n % 8 ≡ mark_origin m x
unfolding mark_origin
mark_origin_is m w x n q e = rw (q, e)

pub allows_via : (o : Allowed) (v w : ℕ) (t : Bool) → t ≡ allows_pass o v → v ≡ w → t ≡ allows_pass o w
allows_via o v w t q e = rw e at q

abbrev pub origin_at : List ℕ → Slot → ℕ → Bool
origin_at m S.Unused x = true
origin_at m S.Own x = true
origin_at m (S.Names u) x = true
origin_at m (S.Variable o) x = allows_pass o (mark_origin m x)
origin_at m S.Origin x = true
origin_at m S.Named x = true
origin_at m S.Unassigned x = true

unfoldable pub origin_pass : List ℕ → Slot → ℕ → Bool
origin_pass m s x = origin_at m s x

pub origin_at_lem : (m : List ℕ) (s u : Slot) (x : ℕ) (y : Bool) → s ≡ u → y ≡ origin_at m u x → y ≡ origin_pass m s x
unfolding origin_pass
origin_at_lem m s u x y e q = rw e q

pub origin_via : (m : List ℕ) (s : Slot) (x z : ℕ) (y : Bool) → y ≡ origin_pass m s x → x ≡ z → y ≡ origin_pass m s z
origin_via m s x z y q e = rw e at q

unfoldable pub origins_pass : List ℕ → Shape → Rec → Bool
origins_pass m s r =
    guard (origin_pass m s.a r.a) false
    (guard (origin_pass m s.b r.b) false
    (origin_pass m s.c r.c))

-- ---- one record

-- the number of a refusal in document 01
abbrev pub number_of : Refusal → ℕ
number_of UnknownKind = 2
number_of BadShape = 3
number_of BadNumber = 4
number_of BadOrigin = 5
number_of TableFull = 6

-- in the order 3, 6, 4, 5
unfoldable pub admit_pass : Counts → List ℕ → Shape → Rec → Result Table Refusal
admit_pass c m s r =
    guard (shape_pass s r) (Err BadShape)
    (guard (has_room s.table c) (Err TableFull)
    (guard (numbers_pass c m s r) (Err BadNumber)
    (guard (origins_pass m s r) (Err BadOrigin)
    (Ok s.table))))

abbrev pub check_at : Counts → List ℕ → Rec → Option Shape → Result Table Refusal
check_at c m r None = Err UnknownKind
check_at c m r (Some s) = admit_pass c m s r

unfoldable pub check_pass : Counts → List ℕ → Rec → Result Table Refusal
check_pass c m r = check_at c m r (found_at r.kind)

module _ (c : Counts) (m : List ℕ) (r : Rec) (k : ℕ) (f : Option Shape) (is : f ≡ found_at k) (e : k ≡ r.kind) where
  pub check_at_lem : (g : Option Shape) (x : Result Table Refusal) → f ≡ g → x ≡ check_at c m r g → x ≡ check_pass c m r
  unfolding check_pass
  check_at_lem g x p q = q ∙ ap (λ (h : Option Shape). check_at c m r h) (sym p ∙ (is ∙ ap found_at e))

-- what the record does to the marks
abbrev pub noted_at : Table → Rec → List ℕ → List ℕ
noted_at Names r m = m
noted_at Solvables r m = m
noted_at VersionSets r m = m
noted_at Requirements r m = m
noted_at Candidates r m = m
noted_at Reasons r m = m
noted_at Variables r m = set m r.a r.b
noted_at Assigned r m = set m r.a (mark_origin m r.a + 8)
noted_at Clauses r m = m

unfoldable pub noted : Table → Rec → List ℕ → List ℕ
noted t r m = noted_at t r m

pub noted_at_lem : (t u : Table) (r : Rec) (m x : List ℕ) → t ≡ u → x ≡ noted_at u r m → x ≡ noted t r m
unfolding noted
noted_at_lem t u r m x e q = rw e q

pub noted_none : (t : Table) (r : Rec) (m : List ℕ) → (t ≡ Variables → ⊥) → (t ≡ Assigned → ⊥) → m ≡ noted t r m
unfolding noted
noted_none Names r m h l = refl
noted_none Solvables r m h l = refl
noted_none VersionSets r m h l = refl
noted_none Requirements r m h l = refl
noted_none Candidates r m h l = refl
noted_none Reasons r m h l = refl
noted_none Variables r m h l = absurd (h refl)
noted_none Assigned r m h l = absurd (l refl)
noted_none Clauses r m h l = refl

pub set_via : (m u : List ℕ) (w v a b x : ℕ) → u ≡ set m w b → w ≡ v → v ≡ a → b ≡ x → u ≡ set m a x
set_via m u w v a b x q e f g = q ∙ rw (e, f, g)

pub set_mark_via : (m u : List ℕ) (w v a o : ℕ) → u ≡ set m w (o + 8) → w ≡ v → v ≡ a → o ≡ mark_origin m v → u ≡ set m a (mark_origin m a + 8)
set_mark_via m u w v a o q e f g = q ∙ rw (g, e, f)

abbrev pub turned : Result Table Refusal → Counts → ℕ → Result Counts Refused
turned (Ok t) c i = Ok (more_of t c)
turned (Err k) c i = Err (record { number = number_of k; place = i })

abbrev pub marked : Result Table Refusal → Rec → List ℕ → List ℕ
marked (Ok t) r m = noted t r m
marked (Err k) r m = m

-- record r, number i, with the counts c and the marks m of those before: the next counts and marks, or the refusal
unfoldable pub turn_pass : Counts → List ℕ → Rec → ℕ → Result Counts Refused
turn_pass c m r i = turned (check_pass c m r) c i

unfoldable pub marks_pass : Counts → List ℕ → Rec → List ℕ
marks_pass c m r = marked (check_pass c m r) r m

module _ (c : Counts) (m : List ℕ) (r : Rec) (s : Result Table Refusal) (is : s ≡ check_pass c m r) where
  pub turn_no : (i n : ℕ) (k : Refusal) → s ≡ Err k → n ≡ number_of k → Err (record { number = n; place = i }) ≡ turn_pass c m r i
  unfolding turn_pass
  turn_no i n k e q = rw (← is, e, q)

  pub turn_on : (i : ℕ) (t : Table) (d : Counts) → s ≡ Ok t → d ≡ more_of t c → Ok d ≡ turn_pass c m r i
  unfolding turn_pass
  turn_on i t d e q = rw (← is, e, q)

  pub marks_no : (k : Refusal) → s ≡ Err k → m ≡ marks_pass c m r
  unfolding marks_pass
  marks_no k e = rw (← is, e)

  pub marks_on : (t : Table) (u : List ℕ) → s ≡ Ok t → u ≡ noted t r m → u ≡ marks_pass c m r
  unfolding marks_pass
  marks_on t u e q = rw (← is, e) q

-- ---- all records

abbrev pub after : Result Counts Refused → (Counts → Result Counts Refused) → Result Counts Refused
after (Ok d) rest = rest d
after (Err e) rest = Err e

unfoldable pub pass_from : List Rec → ℕ → Counts → List ℕ → Result Counts Refused
pass_from [] i c m = Ok c
pass_from (r ∷ rs) i c m = after (turn_pass c m r i) (λ d. pass_from rs (suc i) d (marks_pass c m r))

-- what is left to read from record i on
unfoldable pub left_pass : List ℕ → ℕ → Counts → List ℕ → Result Counts Refused
left_pass file i c m = pass_from (drop i (records_of file)) i c m

left_one : (file : List ℕ) (i : ℕ) (c : Counts) (m : List ℕ) → i < length file / 32
    → left_pass file i c m ≡ after (turn_pass c m (at (records_of file) i) i) (λ d. left_pass file (i + 1) d (marks_pass c m (at (records_of file) i)))
unfolding left_pass pass_from
left_one file i c m h =
    let l : length (records_of file) ≡ length file / 32 = length_cut (length file / 32) file in
    rw (add-one, drop-cons (records_of file) i no_rec (omega arith))

module _ (file : List ℕ) (i : ℕ) (c : Counts) (m : List ℕ) (w : Result Counts Refused) (inv : left_pass file i c m ≡ w) where
  pub left_end : length file / 32 ≤ i → Ok c ≡ w
  unfolding left_pass pass_from
  left_end h =
      let l : length (records_of file) ≡ length file / 32 = length_cut (length file / 32) file in
      let g : length (records_of file) ≤ i = omega arith in
      rw (drop_of_length-le (records_of file) g) at inv

  module _ (s : Result Counts Refused) (h : i < length file / 32) (is : s ≡ turn_pass c m (at (records_of file) i) i) where
    on : after s (λ d. left_pass file (i + 1) d (marks_pass c m (at (records_of file) i))) ≡ w
    on = rw is (sym (left_one file i c m h) ∙ inv)

    pub left_next : (d : Counts) (u : List ℕ) → s ≡ Ok d → u ≡ marks_pass c m (at (records_of file) i) → left_pass file (i + 1) d u ≡ w
    left_next d u e q = rw q (rw e at on)

    pub left_stop : (k : Refused) → s ≡ Err k → Err k ≡ w
    left_stop k e = rw e at on

pub left_start : (file : List ℕ) (c : Counts) (m : List ℕ) → left_pass file 0 c m ≡ pass_from (records_of file) 0 c m
unfolding left_pass
left_start file c m = refl
