-- Reading: records go into the tables one by one, in file order, or one of them is refused (document 01, "Refusal numbers").
use Rattle.std.specs.Prelude.{Bool, true, cond, Result, Ok, Err, ◌&&◌, ◌||◌, not, List, [], ◌∷◌, ℕ, zero, suc, ◌%◌, length, take, drop, leb, ltb, eqb}
use Rattle.std.proofs.Math.Option.{none, some}
use Rattle.basis.specs.Lists.{any, all}
use Rattle.records.specs.declared.Counts.{Counts}
use Rattle.records.specs.declared.Refused.{Refused}
use Rattle.records.specs.declared.Table.{Table}
use Rattle.records.specs.declared.First.{First}
use Rattle.records.specs.declared.First.TheVariants as F
use Rattle.records.specs.declared.Allowed.{Allowed}
use Rattle.records.specs.declared.Allowed.TheVariants as A
use Rattle.records.specs.declared.Slot.{Slot}
use Rattle.records.specs.declared.Slot.TheVariants as S
use Rattle.records.specs.declared.Shape.{Shape}
use Rattle.records.specs.Shapes.{Rec, records_of, limit, shape_of}
use Rattle.records.specs.Tables.{Tables, no_tables, table_of, put, counts_of, at}

-- ---- 3: "bad length, flag, text byte, origin number, or nonzero unused byte"

-- "zero beyond its length", "Unused fields are 0"
abbrev pub zeros : List ℕ → Bool
zeros s = all (eqb 0) s

-- the text of a record: the first bytes, as many as byte 1 says ("byte 1 text length or flag")
abbrev pub rec_text : Rec → List ℕ
rec_text r = take r.first r.text

-- "Text is 1 to 24 bytes, each from 32 to 126", "zero beyond its length"
abbrev pub text_good : Rec → Bool
text_good r = leb 1 r.first && (leb r.first 24 && (all (λ x. leb 32 x && leb x 126) (rec_text r) && zeros (drop r.first r.text)))

-- byte 1 and the text, by what the kind has there: 3 for a "bad length, flag, text byte .. or nonzero unused byte"
abbrev pub first_good : First → Rec → Bool
first_good F.Length r = text_good r
first_good F.Flag r = leb r.first 1 && zeros r.text
first_good F.Unused r = eqb r.first 0 && zeros r.text

-- the field x of the record r by itself: "Unused fields are 0", origins are 0 to 5, "c is 0 for 0, 3, 4, 5"
abbrev pub field_good : Slot → Rec → ℕ → Bool
field_good S.Unused r x = eqb x 0
field_good S.Own r x = true
field_good (S.Names t) r x = true
field_good (S.Variable o) r x = true
field_good S.Origin r x = leb x 5
field_good S.Named r x = eqb r.b 1 || (eqb r.b 2 || eqb x 0)
field_good S.Unassigned r x = true

-- else 3: "bad length, flag, text byte, origin number, or nonzero unused byte"
abbrev pub shape_good : Shape → Rec → Bool
shape_good s r = first_good s.first r && (field_good s.a r r.a && (field_good s.b r r.b && field_good s.c r r.c))

-- ---- 4: "own number not the next, undefined reference, second record 8"

-- what a variable names: a solvable for origin 1, a name for origin 2 ("7 variable, a own, b origin, c what it names")
abbrev pub named_good : Tables → ℕ → ℕ → Bool
named_good T o x = cond (eqb o 1) (ltb x (length T.solvables)) (cond (eqb o 2) (ltb x (length T.names)) true)

-- the field x of the record r: else 4, "own number not the next, undefined reference, second record 8"
abbrev pub number_good : Tables → Table → Slot → Rec → ℕ → Bool
number_good T t S.Unused r x = true
number_good T t S.Own r x = eqb x (length (table_of t T))
number_good T t (S.Names u) r x = ltb x (length (table_of u T))
number_good T t (S.Variable o) r x = ltb x (length T.variables)
number_good T t S.Origin r x = true
number_good T t S.Named r x = named_good T r.b x
number_good T t S.Unassigned r x = ltb x (length T.variables) && not (any (λ g. eqb g.a x) T.assigned)

-- 4 for one of the three fields; "A record names only earlier records."
abbrev pub numbers_good : Tables → Shape → Rec → Bool
numbers_good T s r =
    number_good T s.table s.a r r.a && (number_good T s.table s.b r r.b && number_good T s.table s.c r r.c)

-- ---- 5: "origin not allowed in its slot"

-- "origin 0 root, 1 solvable, 2 forbid-multiple (a name), 3 requires gate, 4 constrains auxiliary, 5 other"; the slots are those of `kinds`
abbrev pub allows : Allowed → ℕ → Bool
allows A.Solvable o = eqb o 1
allows A.SolvableOrRoot o = leb o 1
allows A.Requirer o = leb o 1 || eqb o 3
allows A.ForbidMultiple o = eqb o 2
allows A.Auxiliary o = eqb o 4
allows A.Any o = true

-- the field x: else 5, "origin not allowed in its slot"
abbrev pub origin_good : Tables → Slot → ℕ → Bool
origin_good T S.Unused x = true
origin_good T S.Own x = true
origin_good T (S.Names u) x = true
origin_good T (S.Variable o) x = allows o (at T.variables x).b
origin_good T S.Origin x = true
origin_good T S.Named x = true
origin_good T S.Unassigned x = true

-- 5 for one of the three fields: "origin not allowed in its slot"
abbrev pub origins_good : Tables → Shape → Rec → Bool
origins_good T s r = origin_good T s.a r.a && (origin_good T s.b r.b && origin_good T s.c r.c)

-- ---- one record: the first refusal that fits, or 0

-- "record by record in the table's order": 3, 6 ("the record's table is full"), 4, 5; 0 for a good record
abbrev pub refusal_in : Tables → Shape → Rec → ℕ
refusal_in T s r =
    cond (shape_good s r)
    (cond (ltb (length (table_of s.table T)) (limit s.table))
    (cond (numbers_good T s r)
    (cond (origins_good T s r) 0 5) 4) 6) 3

-- ---- the whole file

-- what `read_of` gives: the tables, or the number and the place of a refusal
pub data Reading : Type 0 where
  good : Tables → Reading
  bad : ℕ → ℕ → Reading

-- the records from number i on, over the tables of those before: "record by record in the table's order"; 2 is "unknown kind"
unfoldable pub read_from : List Rec → ℕ → Tables → Reading
read_from [] i T = good T
read_from (r ∷ rs) i T =
    elim (shape_of r.kind) [
      | none ↦ bad 2 i
      | some s ↦ elim (refusal_in T s r) [ zero ↦ read_from rs (suc i) (put s.table r T) | suc n ↦ bad (suc n) i ]
    ]

-- 1: "length no multiple of 32, or above 65,536"
unfoldable pub read_of : List ℕ → Reading
read_of file = cond (eqb (length file % 32) 0 && leb (length file) 65536) (read_from (records_of file) 0 no_tables) (bad 1 0)

-- the number and the values of document 01 for each case of the answer
abbrev pub answer_of : Reading → Result Counts Refused
answer_of (good T) = Ok (counts_of T)
answer_of (bad k i) = Err (record { number = k; place = i })

-- the tables of an accepted file, and none of a refused one
abbrev pub tables_in : Reading → Tables
tables_in (good T) = T
tables_in (bad k i) = no_tables

unfoldable pub tables_of : List ℕ → Tables
tables_of file = tables_in (read_of file)
