-- What a loaded index tells: the record of a number, for each table with numbers of its own, and the clause that assigned a
-- variable. These laws are all that the accessors know of the regions.
use Rattle.std.specs.Prelude.{◌≡◌, refl, Bool, true, false, ◌⊎◌, ℕ, zero, suc, ◌+◌, ◌/◌, ◌≤◌, ◌<◌, get_or, eqb, ltb}
use Rattle.std.proofs.Math.Path.{sym, ap}
use Rattle.std.proofs.Common.{◌∙◌, inl, inr}
use mathlib.Core.List.{List, [], ◌∷◌}
use Rattle.std.proofs.Math.Option.{Option, none, some}
use native.Mathlib.Omega.{arith}
use Rattle.std.proofs.Math.ListN.{length, get_or-eq_default}
use borrow.Author.Tests.{ltb-true, ltb-false, eqb-true}
use Rattle.basis.specs.Lists.{filter, first}
use Rattle.basis.specs.Members.{split, either}
use Rattle.records.specs.declared.Table.{Table}
use Rattle.records.specs.declared.Table.TheVariants.{Names, Solvables, VersionSets, Requirements, Candidates, Reasons, Variables, Assigned, Clauses}
use Rattle.records.specs.Shapes.{Rec, records_of, limit}
use Rattle.records.specs.Tables.{Tables, table_of, at, no_rec}
use Rattle.records.specs.Read.{rec_text, read_of, good, tables_of}
use Rattle.records.specs.Views.{assigned_by}
use Rattle.records.specs.Cut.{cut_past}
use Rattle.index.specs.Steps.{read_accepted, is_in, table_is}
use Rattle.index.specs.Promise.{Valid, sound_assigned, promise}
use Rattle.index.specs.Index.{Based, Loaded, base, wanted, marks_by, found_mark, mark_in, before, placed, record_no}

pub loaded_good : (file ix : List ℕ) → Loaded file ix → read_of file ≡ good (tables_of file)
loaded_good file ix l = l.based.accepted

pub loaded_valid : (file ix : List ℕ) → Loaded file ix → Valid (tables_of file)
loaded_valid file ix l = promise file (tables_of file) l.based.accepted

-- the clause that assigned a variable: its number plus one, or 0
unfoldable pub assigned_mark : Tables → ℕ → ℕ
unfolding assigned_by
assigned_mark T v = elim (assigned_by T v) [ none ↦ 0 | some i ↦ suc i ]

-- ---- the record of a number

-- the record of a mark
abbrev rec_by : List Rec → ℕ → Rec
rec_by all zero = no_rec
rec_by all (suc i) = at all i

marks_rec : (p : Rec → Bool) (rs : List Rec) (j : ℕ) (all : List Rec) → ((i : ℕ) → at rs i ≡ at all (j + i)) → (n : ℕ)
    → rec_by all (get_or (marks_by p rs j) n 0) ≡ at (filter p rs) n
unfolding marks_by
marks_rec p [] j all h n = ap (rec_by all) (get_or-eq_default [] 0 {n = n} (omega arith)) ∙ sym (get_or-eq_default [] no_rec {n = n} (omega arith))
marks_rec p (r ∷ rs) j all h n =
    let next : (i : ℕ) → at rs i ≡ at all (suc j + i) = λ i. let e : j + suc i ≡ suc j + i = omega arith in rw e at (h (suc i)) in
    split (p r) (λ q. rw (q, marks_by, filter) (here n (marks_rec p rs (suc j) all next))) (λ q. rw (q, marks_by, filter) (marks_rec p rs (suc j) all next n))
  where
    here : (n : ℕ) → ((n : ℕ) → rec_by all (get_or (marks_by p rs (suc j)) n 0) ≡ at (filter p rs) n)
        → rec_by all (get_or (suc j ∷ marks_by p rs (suc j)) n 0) ≡ at (r ∷ filter p rs) n
    here zero more = let e : j + 0 ≡ j = omega arith in sym (rw e at (h 0))
    here (suc n) more = more n

module _ (file ix : List ℕ) (l : Based file ix) where
  past : (i : ℕ) → 2048 ≤ i → at (records_of file) i ≡ no_rec
  past i h =
      let a = read_accepted file (tables_of file) l.accepted in
      let s : length file ≤ 65536 = a.short in
      cut_past (length file / 32) file i (omega arith)

  picked : (m : ℕ) → at (records_of file) (before m) ≡ rec_by (records_of file) m
  picked zero = past 2048 (omega arith)
  picked (suc i) = refl

  pub found : (t : Table) (n : ℕ) → ((k : ℕ) → wanted t (records_of file) k ≡ get_or (marks_by (is_in t) (records_of file) 0) k 0)
      → at (records_of file) (record_no (base t) (limit t) ix n) ≡ at (table_of t (tables_of file)) n
  unfolding record_no placed
  found t n w =
      split (ltb n (limit t))
      (λ q. rw (q, l.own t n (ltb-true n (limit t) q), w n)
      (picked (get_or (marks_by (is_in t) (records_of file) 0) n 0)
      ∙ marks_rec (is_in t) (records_of file) 0 (records_of file) (λ i. let e : i ≡ 0 + i = omega arith in ap (at (records_of file)) e) n
      ∙ ap (λ (rs : List Rec). at rs n) (sym (table_is t file (tables_of file) (read_accepted file (tables_of file) l.accepted)))))
      (λ q. let h : limit t ≤ n = ltb-false n (limit t) q in
      let v : length (table_of t (tables_of file)) ≤ limit t = (promise file (tables_of file) l.accepted).within t in
      rw q (past 2048 (omega arith) ∙ sym (get_or-eq_default (table_of t (tables_of file)) no_rec {n = n} (omega arith))))

  -- x, what a function of record i gave, where i was looked up for place k of table t
  through : {A : Type 0} (f : Rec → A) (t : Table) → ((j : ℕ) → wanted t (records_of file) j ≡ get_or (marks_by (is_in t) (records_of file) 0) j 0)
      → (k n i : ℕ) (x : A) → x ≡ f (at (records_of file) i) → i ≡ record_no (base t) (limit t) ix k → k ≡ n → x ≡ f (at (table_of t (tables_of file)) n)
  through f t w k n i x e q z = rw (← z) (e ∙ ap f (ap (at (records_of file)) q ∙ found t k w))

module _ (file ix : List ℕ) (l : Loaded file ix) where
  pub name_text_lem : (k n i : ℕ) (x : List ℕ) → x ≡ rec_text (at (records_of file) i) → i ≡ record_no 0 128 ix k → k ≡ n → x ≡ rec_text (at (tables_of file).names n)
  name_text_lem = through file ix l.based (λ r. rec_text r) Names (λ j. refl)

  pub version_text_lem : (k n i : ℕ) (x : List ℕ) → x ≡ rec_text (at (records_of file) i) → i ≡ record_no 128 256 ix k → k ≡ n
      → x ≡ rec_text (at (tables_of file).solvables n)
  version_text_lem = through file ix l.based (λ r. rec_text r) Solvables (λ j. refl)

  pub set_text_lem : (k n i : ℕ) (x : List ℕ) → x ≡ rec_text (at (records_of file) i) → i ≡ record_no 384 256 ix k → k ≡ n
      → x ≡ rec_text (at (tables_of file).version_sets n)
  set_text_lem = through file ix l.based (λ r. rec_text r) VersionSets (λ j. refl)

  pub requirement_text_lem : (k n i : ℕ) (x : List ℕ) → x ≡ rec_text (at (records_of file) i) → i ≡ record_no 640 256 ix k → k ≡ n
      → x ≡ rec_text (at (tables_of file).requirements n)
  requirement_text_lem = through file ix l.based (λ r. rec_text r) Requirements (λ j. refl)

  pub reason_text_lem : (k n i : ℕ) (x : List ℕ) → x ≡ rec_text (at (records_of file) i) → i ≡ record_no 1920 64 ix k → k ≡ n
      → x ≡ rec_text (at (tables_of file).reasons n)
  reason_text_lem = through file ix l.based (λ r. rec_text r) Reasons (λ j. refl)

  pub solvable_name_lem : (k n i : ℕ) (x : ℕ) → x ≡ (at (records_of file) i).b → i ≡ record_no 128 256 ix k → k ≡ n → x ≡ (at (tables_of file).solvables n).b
  solvable_name_lem = through file ix l.based (λ r. r.b) Solvables (λ j. refl)

  pub set_name : (k n i : ℕ) (x : ℕ) → x ≡ (at (records_of file) i).b → i ≡ record_no 384 256 ix k → k ≡ n → x ≡ (at (tables_of file).version_sets n).b
  set_name = through file ix l.based (λ r. r.b) VersionSets (λ j. refl)

  pub candidate_b : (k n i : ℕ) (x : ℕ) → x ≡ (at (records_of file) i).b → i ≡ record_no 896 1024 ix k → k ≡ n → x ≡ (at (tables_of file).candidates n).b
  candidate_b = through file ix l.based (λ r. r.b) Candidates (λ j. refl)

  pub variable_b : (k n i : ℕ) (x : ℕ) → x ≡ (at (records_of file) i).b → i ≡ record_no 1984 1024 ix k → k ≡ n → x ≡ (at (tables_of file).variables n).b
  variable_b = through file ix l.based (λ r. r.b) Variables (λ j. refl)

  pub variable_c : (k n i : ℕ) (x : ℕ) → x ≡ (at (records_of file) i).c → i ≡ record_no 1984 1024 ix k → k ≡ n → x ≡ (at (tables_of file).variables n).c
  variable_c = through file ix l.based (λ r. r.c) Variables (λ j. refl)

  pub clause_a : (k n i : ℕ) (x : ℕ) → x ≡ (at (records_of file) i).a → i ≡ record_no 4032 1024 ix k → k ≡ n → x ≡ (at (tables_of file).clauses n).a
  clause_a = through file ix l.based (λ r. r.a) Clauses (λ j. refl)

  pub clause_b : (k n i : ℕ) (x : ℕ) → x ≡ (at (records_of file) i).b → i ≡ record_no 4032 1024 ix k → k ≡ n → x ≡ (at (tables_of file).clauses n).b
  clause_b = through file ix l.based (λ r. r.b) Clauses (λ j. refl)

-- ---- the clause that assigned a variable

abbrev clause_by : Option Rec → Option ℕ
clause_by none = none
clause_by (some g) = some g.b

abbrev after : Option ℕ → ℕ
after none = 0
after (some i) = suc i

mark_is : (T : Tables) (v : ℕ) → mark_in T.assigned v ≡ assigned_mark T v
unfolding mark_in assigned_mark assigned_by
mark_is T v = go (first (λ g. eqb g.a v) T.assigned)
  where
    go : (o : Option Rec) → found_mark o ≡ after (clause_by o)
    go none = refl
    go (some g) = refl

pub mark_hit : (g : Rec) (gs : List Rec) (v : ℕ) → eqb g.a v ≡ true → mark_in (g ∷ gs) v ≡ suc g.b
unfolding mark_in
mark_hit g gs v q = ap found_mark (first_hit q)
  where
    first_hit : eqb g.a v ≡ true → first (λ h. eqb h.a v) (g ∷ gs) ≡ some g
    first_hit q = rw (q, first)

pub mark_miss : (g : Rec) (gs : List Rec) (v : ℕ) → eqb g.a v ≡ false → mark_in (g ∷ gs) v ≡ mark_in gs v
unfolding mark_in
mark_miss g gs v q = ap found_mark (first_miss q)
  where
    first_miss : eqb g.a v ≡ false → first (λ h. eqb h.a v) (g ∷ gs) ≡ first (λ h. eqb h.a v) gs
    first_miss q = rw (q, first)

pub mark_none : (v : ℕ) → mark_in [] v ≡ 0
unfolding mark_in
mark_none v = refl

-- the first that passes stands at some place and passes
mark_some : (gs : List Rec) (v : ℕ) → (mark_in gs v ≡ 0) ⊎ ((i : ℕ) × (i < length gs) × ((at gs i).a ≡ v) × (mark_in gs v ≡ suc (at gs i).b))
mark_some [] v = inl (mark_none v)
mark_some (g ∷ gs) v =
    split (eqb g.a v)
    (λ q. inr (0, omega arith, eqb-true g.a v q, mark_hit g gs v q))
    (λ q. either (mark_some gs v) (λ z. inl (mark_miss g gs v q ∙ z)) (λ w. inr (suc w.0, omega (arith, w.1), w.2, mark_miss g gs v q ∙ w.3)))

assigned_right : (T : Tables) → Valid T → (i : ℕ) → i < length T.assigned → ((at T.assigned i).a < 1024) × ((at T.assigned i).b < 1024)
assigned_right T v i h = sound_assigned T i (at T.assigned i) v (v.sound Assigned i h)

mark_small : (T : Tables) → Valid T → (v : ℕ) → mark_in T.assigned v ≤ 1024
mark_small T w v =
    either (mark_some T.assigned v) (λ z. omega arith) (λ o. let b : (at T.assigned o.0).b < 1024 = (assigned_right T w o.0 o.1).1 in
    let e : mark_in T.assigned v ≡ suc (at T.assigned o.0).b = o.3 in omega arith)

mark_past : (T : Tables) → Valid T → (v : ℕ) → 1024 ≤ v → mark_in T.assigned v ≡ 0
mark_past T w v h =
    either (mark_some T.assigned v) (λ z. z) (λ o. let a : (at T.assigned o.0).a < 1024 = (assigned_right T w o.0 o.1).0 in
    let e : (at T.assigned o.0).a ≡ v = o.2 in omega arith)

module _ (file ix : List ℕ) (l : Loaded file ix) where
  pub assigned_mark_lem : (k v r : ℕ) → r ≡ placed 3008 1024 ix k → k ≡ v → r ≡ assigned_mark (tables_of file) v
  unfolding placed
  assigned_mark_lem k v r q z =
      rw (← z)
      (split (ltb k 1024)
      (λ t. rw t at q
      ∙ l.based.own Assigned k (ltb-true k 1024 t)
      ∙ ap (λ (gs : List Rec). mark_in gs k) (sym (table_is Assigned file (tables_of file) (read_accepted file (tables_of file) l.based.accepted)))
      ∙ mark_is (tables_of file) k)
      (λ t. rw t at q ∙ sym (sym (mark_is (tables_of file) k) ∙ mark_past (tables_of file) (loaded_valid file ix l) k (ltb-false k 1024 t))))

  pub assigned_small : (k r : ℕ) → r ≡ placed 3008 1024 ix k → r ≤ 1024
  assigned_small k r q = rw (assigned_mark_lem k k r q refl, ← mark_is (tables_of file) k) (mark_small (tables_of file) (loaded_valid file ix l) k)
