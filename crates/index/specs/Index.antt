-- The index over an accepted file: one table of 10,432 numbers, each region at a fixed base. A number of a record, a clause or a
-- candidate is stored plus one, and 0 stands for none.
use Rattle.std.specs.Prelude.{◌≡◌, Bool, true, false, cond, Result, Ok, Err, List, [], ◌∷◌, ℕ, zero, suc, ◌+◌, ◌≤◌, ◌<◌, length, get_or, set, replicate, eqb, ltb}
use Rattle.std.proofs.Math.Option.{Option, none, some}
use Rattle.std.proofs.lemmas.List.{length-replicate, get_or-replicate}
use Rattle.std.proofs.Math.ListN.{get_or-eq_default}
use Rattle.std.proofs.Common.{ltb-true, ltb-false}
use Rattle.basis.specs.Lists.{filter, first}
use Rattle.basis.specs.Members.{split}
use Rattle.basis.specs.Chains.{Layout, linked, oldest}
use Rattle.records.specs.declared.Table.{Table}
use Rattle.records.specs.declared.Table.TheVariants.{Names, Solvables, VersionSets, Requirements, Candidates, Reasons, Variables, Assigned, Clauses}
use Rattle.records.specs.declared.Counts.{Counts}
use Rattle.records.specs.declared.Refused.{Refused}
use Rattle.records.specs.Shapes.{Rec, records_of, limit}
use Rattle.records.specs.Tables.{Tables, at}
use Rattle.records.specs.Read.{read_of, good, tables_of}
use Rattle.records.specs.Views.{in_core}
use Rattle.index.specs.declared.Places.{Places}
use Rattle.index.specs.Steps.{table_no_of, is_in}

-- ---- the regions

-- where the numbers of a table begin ("Own numbers, and records as places, count up from 0"); a record 8 stands by its variable
abbrev pub base : Table → ℕ
base Names = 0
base Solvables = 128
base VersionSets = 384
base Requirements = 640
base Candidates = 896
base Reasons = 1920
base Variables = 1984
base Assigned = 3008
base Clauses = 4032

-- the candidates of a requirement, "in table order", and the partners of a gate or an auxiliary in the core, "in file order"
abbrev pub candidate_lay : Layout
candidate_lay = record { links = 5312; items = 1024; heads = 5056; keys = 256; size = 10432 }

abbrev pub partner_lay : Layout
partner_lay = record { links = 9408; items = 1024; heads = 6336; keys = 3072; size = 10432 }

-- the variable by which a clause of the core is looked for: "the core's AnyOf clauses whose a is the gate", clauses 23 and 24 by
-- their auxiliary b. 1,024 keys each; 3072 for a clause that nobody looks for
unfoldable pub key_in : Rec → ℕ
key_in r =
    cond (in_core r)
    (cond (eqb r.kind 25) r.a
    (cond (eqb r.kind 23) (1024 + r.b)
    (cond (eqb r.kind 24) (2048 + r.b) 3072))) 3072

abbrev pub candidate_key : Tables → ℕ → ℕ
candidate_key T k = (at T.candidates k).a

abbrev pub partner_key : Tables → ℕ → ℕ
partner_key T i = key_in (at T.clauses i)

-- ---- what the regions hold

-- the numbers, plus one, of the records that pass, where the list's own first has the given number
unfoldable pub marks_by : (Rec → Bool) → List Rec → ℕ → List ℕ
marks_by p [] j = []
marks_by p (r ∷ rs) j = elim (p r) [ true ↦ suc j ∷ marks_by p rs (suc j) | false ↦ marks_by p rs (suc j) ]

-- "8 assigned-by, a variable, b clause number": the clause, plus one, of the first record 8 of a variable
abbrev pub found_mark : Option Rec → ℕ
found_mark none = 0
found_mark (some g) = suc g.b

unfoldable pub mark_in : List Rec → ℕ → ℕ
mark_in gs v = found_mark (first (λ g. eqb g.a v) gs)

-- place k of a table's region, for the records rs
abbrev pub wanted : Table → List Rec → ℕ → ℕ
wanted Names rs k = get_or (marks_by (is_in Names) rs 0) k 0
wanted Solvables rs k = get_or (marks_by (is_in Solvables) rs 0) k 0
wanted VersionSets rs k = get_or (marks_by (is_in VersionSets) rs 0) k 0
wanted Requirements rs k = get_or (marks_by (is_in Requirements) rs 0) k 0
wanted Candidates rs k = get_or (marks_by (is_in Candidates) rs 0) k 0
wanted Reasons rs k = get_or (marks_by (is_in Reasons) rs 0) k 0
wanted Variables rs k = get_or (marks_by (is_in Variables) rs 0) k 0
wanted Assigned rs v = mark_in (filter (is_in Assigned) rs) v
wanted Clauses rs k = get_or (marks_by (is_in Clauses) rs 0) k 0

-- the link of item k among m items: the next item of its key; none where its key is in no chain
unfoldable pub link_of : (ℕ → ℕ) → ℕ → ℕ → ℕ → ℕ
link_of key keys m k = cond (ltb (key k) keys) (oldest key (suc k) m (key k)) 0

-- items in order, so that a chain runs in table order, which is file order
pub record Hangs (L : Layout) (key : ℕ → ℕ) (m : ℕ) (ix : List ℕ) : Type 0 where
  pub head : (n : ℕ) → n < L.keys → get_or ix (L.heads + n) 0 ≡ oldest key 0 m n
  pub link : (k : ℕ) → k < L.items → get_or ix (L.links + k) 0 ≡ link_of key L.keys m k

-- the regions of the tables, for an accepted file
pub record Based (file ix : List ℕ) : Type 0 where
  pub accepted : read_of file ≡ good (tables_of file)
  pub wide : length ix ≡ 10432
  pub own : (t : Table) (k : ℕ) → k < limit t → get_or ix (base t + k) 0 ≡ wanted t (records_of file) k

-- every slot of the index of an accepted file
pub record Loaded (file ix : List ℕ) : Type 0 where
  pub based : Based file ix
  pub candidates : Hangs candidate_lay (candidate_key (tables_of file)) (length (tables_of file).candidates) ix
  pub partners : Hangs partner_lay (partner_key (tables_of file)) (length (tables_of file).clauses) ix

-- all zeros, as `[0; 10432]` is
pub record Blank (ix : List ℕ) : Type 0 where
  pub wide : length ix ≡ 10432
  pub zeros : (s : ℕ) → get_or ix s 0 ≡ 0

-- what `load` leaves in the index
abbrev pub Held : Result Counts Refused → List ℕ → List ℕ → List ℕ → Type 0
Held (Ok c) file ix₀ ix₁ = Loaded file ix₁
Held (Err e) file ix₀ ix₁ = ix₁ ≡ ix₀

-- ---- how it is filled: the records upwards, then both kinds of chains downwards

-- where the numbers of a kind's table begin; past the index for an unknown kind
unfoldable pub base_of : ℕ → ℕ
unfolding table_no_of
base_of k = get_or (0 ∷ 128 ∷ 384 ∷ 640 ∷ 896 ∷ 1920 ∷ 1984 ∷ 3008 ∷ 4032 ∷ []) (table_no_of k) 10432

-- a record 8 by its variable; its clause is below the limit of 1,024
unfoldable pub assign : Rec → List ℕ → List ℕ
assign r ix = cond (ltb r.b 1024) (set ix (3008 + r.a) (r.b + 1)) ix

-- record i, whose table has base b: candidates and clauses by their places, the others by their own numbers
unfoldable pub marked : ℕ → Rec → ℕ → Places → List ℕ → List ℕ
unfolding assign
marked b r i c ix =
    cond (eqb b 896) (set ix (896 + c.candidates) (i + 1))
    (cond (eqb b 4032) (set ix (4032 + c.clauses) (i + 1))
    (cond (eqb b 3008) (assign r ix) (set ix (b + r.a) (i + 1))))

unfoldable pub passed_by : ℕ → Places → Places
passed_by b c =
    cond (eqb b 896) (record { candidates = c.candidates + 1; clauses = c.clauses })
    (cond (eqb b 4032) (record { candidates = c.candidates; clauses = c.clauses + 1 }) c)

unfoldable pub numbered : List Rec → ℕ → Places → List ℕ → List ℕ
unfolding marked passed_by base_of
numbered [] i c ix = ix
numbered (r ∷ rs) i c ix = numbered rs (suc i) (passed_by (base_of r.kind) c) (marked (base_of r.kind) r i c ix)

-- what stands at place n of the region at b, which has l places
unfoldable pub placed : ℕ → ℕ → List ℕ → ℕ → ℕ
placed b l ix n = cond (ltb n l) (get_or ix (b + n) 0) 0

-- the record of a stored value; 2048, past every record, for none
abbrev pub before : ℕ → ℕ
before zero = 2048
before (suc i) = i

unfoldable pub record_no : ℕ → ℕ → List ℕ → ℕ → ℕ
unfolding placed
record_no b l ix n = before (placed b l ix n)

-- item k goes to the head of the chain of its key, if it has one
unfoldable pub hung : Layout → ℕ → List ℕ → ℕ → List ℕ
hung L n ix k = cond (ltb n L.keys) (linked L ix k n) ix

unfoldable pub candidates_hung : List ℕ → ℕ → List ℕ → List ℕ
unfolding record_no hung
candidates_hung file zero ix = ix
candidates_hung file (suc k) ix = candidates_hung file k (hung candidate_lay (at (records_of file) (record_no 896 1024 ix k)).a ix k)

unfoldable pub partners_hung : List ℕ → ℕ → List ℕ → List ℕ
unfolding record_no hung key_in
partners_hung file zero ix = ix
partners_hung file (suc k) ix = partners_hung file k (hung partner_lay (key_in (at (records_of file) (record_no 4032 1024 ix k))) ix k)

abbrev pub no_places : Places
no_places = record { candidates = 0; clauses = 0 }

-- m candidates and n clauses
unfoldable pub index_of : List ℕ → ℕ → ℕ → List ℕ → List ℕ
unfolding numbered candidates_hung partners_hung
index_of file m n ix = partners_hung file n (candidates_hung file m (numbered (records_of file) 0 no_places ix))

-- ---- a fresh table is blank

pub blank_fresh : Blank (replicate 10432 0)
blank_fresh = record { wide = length-replicate {A = ℕ} 10432 0; zeros = all_zero_lem 10432 }
  where
    past : (n s : ℕ) → n ≤ s → ◌≡◌ {A = ℕ} (get_or (replicate n 0) s 0) 0
    past n s h = get_or-eq_default (replicate n 0) 0 {n = s} (rw length-replicate h)

    all_zero_lem : (n s : ℕ) → ◌≡◌ {A = ℕ} (get_or (replicate n 0) s 0) 0
    all_zero_lem n s =
        split (ltb s n)
        (λ q. get_or-replicate n s 0 0 (ltb-true s n q))
        (λ q. let h : n ≤ s = ltb-false s n q in past n s h)
