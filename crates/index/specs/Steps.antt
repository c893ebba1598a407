-- What an accepted file tells: each record passed its tests against the tables of the records before it, and a table is the
-- list of the records of its kinds.
use Rattle.std.specs.Prelude.{◌≡◌, refl, Bool, true, false, cond, ◌&&◌, List, [], ◌∷◌, ◌++◌, ℕ, zero, suc, ◌%◌, ◌≤◌, length, eqb, leb}
use Rattle.std.proofs.Common.{sym, ap, ◌∙◌, append_assoc, append-nil, eqb-true, leb-true}
use Rattle.std.proofs.Math.Option.{Option, none, some}
use Rattle.basis.specs.Lists.{snoc, filter, all}
use Rattle.basis.specs.Members.{split, clash, All}
use Rattle.records.specs.declared.Table.{Table}
use Rattle.records.specs.declared.Table.TheVariants.{Names, Solvables, VersionSets, Requirements, Candidates, Reasons, Variables, Assigned}
use Rattle.records.specs.declared.Table.TheVariants.{Clauses}
use Rattle.records.specs.declared.Shape.{Shape}
use Rattle.records.specs.Shapes.{Rec, records_of, kinds, row_at, shape_of}
use Rattle.records.specs.Tables.{Tables, no_tables, table_of, put}
use Rattle.records.specs.Read.{refusal_in, Reading, good, bad, read_from, read_of}
use Rattle.records.specs.Steps.{Passed, passed}

-- the tables by number, and one proof for each of them
abbrev pub table_no : Table → ℕ
table_no Names = 0
table_no Solvables = 1
table_no VersionSets = 2
table_no Requirements = 3
table_no Candidates = 4
table_no Reasons = 5
table_no Variables = 6
table_no Assigned = 7
table_no Clauses = 8

pub each_table {ℓ} : (P : Table → Type ℓ) → P Names → P Solvables → P VersionSets → P Requirements → P Candidates
    → P Reasons → P Variables → P Assigned → P Clauses → (t : Table) → P t
each_table P a b c d e f g h i Names = a
each_table P a b c d e f g h i Solvables = b
each_table P a b c d e f g h i VersionSets = c
each_table P a b c d e f g h i Requirements = d
each_table P a b c d e f g h i Candidates = e
each_table P a b c d e f g h i Reasons = f
each_table P a b c d e f g h i Variables = g
each_table P a b c d e f g h i Assigned = h
each_table P a b c d e f g h i Clauses = i

-- the number of the table that records of a kind go into; 9 for an unknown kind
unfoldable pub table_no_of : ℕ → ℕ
unfolding shape_of
table_no_of k = elim (shape_of k) [ none ↦ 9 | some s ↦ table_no s.table ]

abbrev pub is_in : Table → Rec → Bool
is_in t r = eqb (table_no_of r.kind) (table_no t)

-- the records rs pass one after the other, from the tables T on, and leave the tables U
abbrev pub Steps : Tables → List Rec → Tables → Type 0
Steps T [] U = T ≡ U
Steps T (r ∷ rs) U = (s : Shape) × Passed T r s × Steps (put s.table r T) rs U

-- ---- from the answer to the steps

pub read_steps : (rs : List Rec) (i : ℕ) (T U : Tables) → read_from rs i T ≡ good U → Steps T rs U
unfolding read_from
read_steps [] i T U e = cc
read_steps (r ∷ rs) i T U e = go (λ W h. read_steps rs (suc i) W U h) (shape_of r.kind) refl e
  where
    then : ((W : Tables) → read_from rs (suc i) W ≡ good U → Steps W rs U) → (s : Shape) → shape_of r.kind ≡ some s
        → (n : ℕ) → refusal_in T s r ≡ n
        → elim n as (λ _. Reading) [ zero ↦ read_from rs (suc i) (put s.table r T) | suc m ↦ bad (suc m) i ] ≡ good U → Steps T (r ∷ rs) U
    then more s k zero q h = (s, passed T r s k q, more (put s.table r T) h)
    then more s k (suc m) q h = clash (cc)

    go : ((W : Tables) → read_from rs (suc i) W ≡ good U → Steps W rs U) → (o : Option Shape) → shape_of r.kind ≡ o
        → elim o as (λ _. Reading) [
          | none ↦ bad 2 i
          | some s ↦ elim (refusal_in T s r) [ zero ↦ read_from rs (suc i) (put s.table r T) | suc n ↦ bad (suc n) i ]
        ] ≡ good U
        → Steps T (r ∷ rs) U
    go more none k h = clash (cc)
    go more (some s) k h = then more s k (refusal_in T s r) refl h

-- an accepted file: its length, its steps
pub record Accepted (file : List ℕ) (T : Tables) : Type 0 where
  pub short : length file ≤ 65536
  pub whole : length file % 32 ≡ 0
  pub steps : Steps no_tables (records_of file) T

pub read_accepted : (file : List ℕ) (T : Tables) → read_of file ≡ good T → Accepted file T
unfolding read_of
read_accepted file T e = go (eqb (length file % 32) 0) refl (leb (length file) 65536) refl e
  where
    go : (a : Bool) → eqb (length file % 32) 0 ≡ a → (b : Bool) → leb (length file) 65536 ≡ b
        → cond (a && b) (read_from (records_of file) 0 no_tables) (bad 1 0) ≡ good T → Accepted file T
    go true p true q h =
        record {
          short = leb-true (length file) 65536 q;
          whole = eqb-true (length file % 32) 0 p;
          steps = read_steps (records_of file) 0 no_tables T h;
        }
    go true p false q h = clash (cc)
    go false p b q h = clash (cc)

-- ---- a table is the list of the records of its kinds

put_in : (r : Rec) (T : Tables) (u t : Table)
    → table_of u (put t r T) ≡ cond (eqb (table_no t) (table_no u)) (snoc (table_of u T) r) (table_of u T)
put_in r T =
    each_table (λ u. (t : Table) → table_of u (put t r T) ≡ cond (eqb (table_no t) (table_no u)) (snoc (table_of u T) r) (table_of u T))
    (each_table _ refl refl refl refl refl refl refl refl refl)
    (each_table _ refl refl refl refl refl refl refl refl refl)
    (each_table _ refl refl refl refl refl refl refl refl refl)
    (each_table _ refl refl refl refl refl refl refl refl refl)
    (each_table _ refl refl refl refl refl refl refl refl refl)
    (each_table _ refl refl refl refl refl refl refl refl refl)
    (each_table _ refl refl refl refl refl refl refl refl refl)
    (each_table _ refl refl refl refl refl refl refl refl refl)
    (each_table _ refl refl refl refl refl refl refl refl refl)

pub table_known : (k : ℕ) (s : Shape) → shape_of k ≡ some s → table_no_of k ≡ table_no s.table
unfolding table_no_of
table_known k s e = rw (e, table_no_of)

pub table_put : (u : Table) (r : Rec) (s : Shape) (T : Tables) → shape_of r.kind ≡ some s
    → table_of u (put s.table r T) ≡ cond (is_in u r) (snoc (table_of u T) r) (table_of u T)
table_put u r s T e = rw (table_known r.kind s e) (put_in r T u s.table)

pub tables_are : (u : Table) (rs : List Rec) (T U : Tables) → Steps T rs U → table_of u U ≡ table_of u T ++ filter (is_in u) rs
tables_are u [] T U e = rw (← e) (sym (append-nil (table_of u T)))
tables_are u (r ∷ rs) T U p =
    let ih = tables_are u rs (put p.0.table r T) U p.2 in
    let q = table_put u r p.0 T p.1.known in
    split (is_in u r)
    (λ t. rw (t, filter)
    (ih ∙ ap (λ (l : List Rec). l ++ filter (is_in u) rs) (rw t at q) ∙ append_assoc (table_of u T) (r ∷ []) (filter (is_in u) rs)))
    (λ t. rw (t, filter) (ih ∙ ap (λ (l : List Rec). l ++ filter (is_in u) rs) (rw t at q)))

nothing_yet : (u : Table) → table_of u no_tables ≡ []
nothing_yet = each_table (λ u. table_of u no_tables ≡ []) refl refl refl refl refl refl refl refl refl

pub table_is : (u : Table) (file : List ℕ) (T : Tables) → Accepted file T → table_of u T ≡ filter (is_in u) (records_of file)
table_is u file T a =
    tables_are u (records_of file) no_tables T a.steps ∙ ap (λ (l : List Rec). l ++ filter (is_in u) (records_of file)) (nothing_yet u)

-- ---- tables with equal numbers are equal

abbrev table_by : ℕ → Table
table_by zero = Names
table_by (suc zero) = Solvables
table_by (suc (suc zero)) = VersionSets
table_by (suc (suc (suc zero))) = Requirements
table_by (suc (suc (suc (suc zero)))) = Candidates
table_by (suc (suc (suc (suc (suc zero))))) = Reasons
table_by (suc (suc (suc (suc (suc (suc zero)))))) = Variables
table_by (suc (suc (suc (suc (suc (suc (suc zero))))))) = Assigned
table_by (suc (suc (suc (suc (suc (suc (suc (suc n)))))))) = Clauses

by_number : (t : Table) → table_by (table_no t) ≡ t
by_number = each_table (λ t. table_by (table_no t) ≡ t) refl refl refl refl refl refl refl refl refl

pub same_table : (t u : Table) → table_no t ≡ table_no u → t ≡ u
same_table t u e = sym (by_number t) ∙ ap table_by e ∙ by_number u

pub its_table : (u : Table) (r : Rec) (s : Shape) → shape_of r.kind ≡ some s → is_in u r ≡ true → s.table ≡ u
its_table u r s k e = same_table s.table u (sym (table_known r.kind s k) ∙ eqb-true (table_no_of r.kind) (table_no u) e)

-- ---- what holds of each of the 18 shapes holds of the shape of any kind

each_row : (P : Option Shape → Type 0) (xs : List (ℕ × Option Shape)) → All (λ x. P x.1) xs → P none → (k : ℕ) → P (row_at k xs)
each_row P [] a z k = z
each_row P (x ∷ xs) a z k = split (eqb k x.0) (λ q. rw (q, row_at) a.0) (λ q. rw (q, row_at) (each_row P xs a.1 z k))

row_none : (k : ℕ) (xs : List (ℕ × Option Shape)) → All (λ x. eqb k x.0 ≡ false) xs → row_at k xs ≡ none
row_none k [] a = refl
row_none k (x ∷ xs) a = rw (a.0, row_at) (row_none k xs a.1)

pub no_kind : (k : ℕ) → All (λ x. eqb k x.0 ≡ false) kinds → shape_of k ≡ none
unfolding shape_of
no_kind k a = row_none k kinds a

pub each_kind : (P : Option Shape → Type 0) → All (λ x. P x.1) kinds → P none → (k : ℕ) → P (shape_of k)
unfolding shape_of
each_kind P a z k = each_row P kinds a z k

-- a test that each of the 18 shapes passes, which is shown by computing, the shape of any kind passes
abbrev pub on_shape : (Shape → Bool) → Option Shape → Bool
on_shape p none = true
on_shape p (some s) = p s

each_passes : (p : Shape → Bool) (xs : List (ℕ × Option Shape)) → all (λ x. on_shape p x.1) xs ≡ true
    → All (λ x. (s : Shape) → x.1 ≡ some s → p s ≡ true) xs
each_passes p [] e = tt
each_passes p (x ∷ xs) e =
    split (on_shape p x.1)
    (λ q. (λ s z. rw z at q, each_passes p xs (rw (q, all) at e)))
    (λ q. clash (cc (rw (q, all) at e)))

pub shape_has : (p : Shape → Bool) → all (λ x. on_shape p x.1) kinds ≡ true → (k : ℕ) (s : Shape) → shape_of k ≡ some s → p s ≡ true
shape_has p e k s = each_kind (λ o. (s : Shape) → o ≡ some s → p s ≡ true) (each_passes p kinds e) (λ s z. clash (cc)) k s
