-- A place of the index is 0 just where its table has no such record.
use Rattle.std.specs.Prelude.{◌≡◌, refl, Bool, true, false, List, [], ◌∷◌, ℕ, zero, suc, ◌+◌, ◌≤◌, ◌<◌, length, get_or, ltb}
use Rattle.std.proofs.Common.{sym, ap, ◌∙◌, arith, lt-ltb, le-ltb, ltb-true, ltb-false}
use Rattle.std.proofs.Math.ListN.{get_or-eq_default}
use Rattle.basis.specs.Lists.{filter}
use Rattle.basis.specs.Members.{split}
use Rattle.records.specs.declared.Table.{Table}
use Rattle.records.specs.declared.Table.TheVariants.{Reasons, Clauses}
use Rattle.records.specs.Shapes.{Rec, records_of, limit}
use Rattle.records.specs.Tables.{Tables, table_of}
use Rattle.records.specs.Read.{tables_of}
use Rattle.index.specs.Steps.{read_accepted, is_in, table_is}
use Rattle.index.specs.Promise.{Valid, promise}
use Rattle.index.specs.Index.{Based, Loaded, base, wanted, marks_by, placed}

-- ---- the marks of a table's records

mark_some : (p : Rec → Bool) (rs : List Rec) (j n : ℕ) → n < length (filter p rs) → get_or (marks_by p rs j) n 0 ≡ 0 → ⊥
unfolding marks_by
mark_some p [] j n h q = omega arith
mark_some p (r ∷ rs) j n h q =
    split (p r)
    (λ t. at (mark_some p rs (suc j)) n (rw (t, filter) at h) (rw (t, marks_by) at q))
    (λ t. mark_some p rs (suc j) n (rw (t, filter) at h) (rw (t, marks_by) at q))
  where
    at : ((n : ℕ) → n < length (filter p rs) → get_or (marks_by p rs (suc j)) n 0 ≡ 0 → ⊥) → (n : ℕ) → n < suc (length (filter p rs))
        → get_or (suc j ∷ marks_by p rs (suc j)) n 0 ≡ 0 → ⊥
    at rest zero h q = omega arith
    at rest (suc n) h q = rest n (omega arith) q

mark_none : (p : Rec → Bool) (rs : List Rec) (j n : ℕ) → length (filter p rs) ≤ n → get_or (marks_by p rs j) n 0 ≡ 0
unfolding marks_by
mark_none p [] j n h = get_or-eq_default [] 0 {n = n} (omega arith)
mark_none p (r ∷ rs) j n h =
    split (p r)
    (λ t. rw (t, marks_by) (at (mark_none p rs (suc j)) n (rw (t, filter) at h)))
    (λ t. rw (t, marks_by) (mark_none p rs (suc j) n (rw (t, filter) at h)))
  where
    at : ((n : ℕ) → length (filter p rs) ≤ n → get_or (marks_by p rs (suc j)) n 0 ≡ 0) → (n : ℕ) → suc (length (filter p rs)) ≤ n
        → get_or (suc j ∷ marks_by p rs (suc j)) n 0 ≡ 0
    at rest zero h = let f : ⊥ = omega arith in absurd f
    at rest (suc n) h = rest n (omega arith)

-- ---- the places of a table

module _ (file ix : List ℕ) (l : Loaded file ix) (t : Table) (w : (k : ℕ) → wanted t (records_of file) k ≡ get_or (marks_by (is_in t) (records_of file) 0) k 0) where
  own : table_of t (tables_of file) ≡ filter (is_in t) (records_of file)
  own = table_is t file (tables_of file) (read_accepted file (tables_of file) l.based.accepted)

  within : length (table_of t (tables_of file)) ≤ limit t
  within = (promise file (tables_of file) l.based.accepted).within t

  place_low : (n : ℕ) → n < limit t → placed (base t) (limit t) ix n ≡ get_or (marks_by (is_in t) (records_of file) 0) n 0
  unfolding placed
  place_low n h = rw (lt-ltb n (limit t) h) (l.based.own t n h ∙ w n)

  place_past : (n : ℕ) → limit t ≤ n → placed (base t) (limit t) ix n ≡ 0
  unfolding placed
  place_past n h = rw (le-ltb n (limit t) h)

  place_zero : (n : ℕ) → placed (base t) (limit t) ix n ≡ 0 → length (table_of t (tables_of file)) ≤ n
  place_zero n q =
      split (ltb n (length (table_of t (tables_of file))))
      (λ u. let h : n < length (table_of t (tables_of file)) = ltb-true n (length (table_of t (tables_of file))) u in
      let b : n < limit t = omega (arith, within) in
      absurd (mark_some (is_in t) (records_of file) 0 n (rw own at h) (sym (place_low n b) ∙ q)))
      (λ u. ltb-false n (length (table_of t (tables_of file))) u)

  place_there : (n : ℕ) → (placed (base t) (limit t) ix n ≡ 0 → ⊥) → n < length (table_of t (tables_of file))
  place_there n f =
      split (ltb n (length (table_of t (tables_of file))))
      (λ u. ltb-true n (length (table_of t (tables_of file))) u)
      (λ u. let h : length (table_of t (tables_of file)) ≤ n = ltb-false n (length (table_of t (tables_of file))) u in
      split (ltb n (limit t))
      (λ v. absurd (f (place_low n (ltb-true n (limit t) v) ∙ mark_none (is_in t) (records_of file) 0 n (rw own at h))))
      (λ v. absurd (f (place_past n (ltb-false n (limit t) v)))))

module _ (file ix : List ℕ) (l : Loaded file ix) where
  -- ---- a reason; p is what was read

  pub reason_not : (p n : ℕ) → p ≡ 0 → p ≡ placed 1920 64 ix n → false ≡ ltb n (length (tables_of file).reasons)
  reason_not p n z q = sym (le-ltb n (length (tables_of file).reasons) (place_zero file ix l Reasons (λ k. refl) n (sym q ∙ z)))

  pub reason_is : (p n : ℕ) → (p ≡ 0 → ⊥) → p ≡ placed 1920 64 ix n → true ≡ ltb n (length (tables_of file).reasons)
  reason_is p n f q = sym (lt-ltb n (length (tables_of file).reasons) (place_there file ix l Reasons (λ k. refl) n (λ z. f (q ∙ z))))

  -- ---- the clauses, one by one: there are i or more

  pub clauses_next : (p i : ℕ) → i ≤ length (tables_of file).clauses → (p ≡ 0 → ⊥) → p ≡ placed 4032 1024 ix i → i + 1 ≤ length (tables_of file).clauses
  clauses_next p i h f q = let z : i < length (tables_of file).clauses = place_there file ix l Clauses (λ k. refl) i (λ z. f (q ∙ z)) in omega arith

  pub clauses_stop : (p i : ℕ) → i ≤ length (tables_of file).clauses → p ≡ 0 → p ≡ placed 4032 1024 ix i → i ≡ length (tables_of file).clauses
  clauses_stop p i h z q = let y : length (tables_of file).clauses ≤ i = place_zero file ix l Clauses (λ k. refl) i (sym q ∙ z) in omega arith

  pub clauses_all : (i : ℕ) → i ≤ length (tables_of file).clauses → 1024 ≤ i → 1024 ≡ length (tables_of file).clauses
  clauses_all i h g = let y : length (tables_of file).clauses ≤ 1024 = within file ix l Clauses (λ k. refl) in omega arith
