-- A list of records with one more behind it: what that adds to the records that pass a test, to the marks of these, and to the marks
-- of the records 8.
use Rattle.std.specs.Prelude.{◌≡◌, Bool, true, false, get_or, eqb, ltb}
use Rattle.std.proofs.Math.Path.{refl}
use Rattle.std.proofs.Common.{sym, ap, ◌∙◌, length-append, eq-eqb, ne_eqb, ltb-true, ltb-false}
use mathlib.Core.List.{List, [], ◌∷◌}
use Prim.Native.Nat.{ℕ, suc, ◌+◌, ◌≤◌}
use native.Mathlib.Omega.{arith}
use Rattle.std.proofs.Math.ListN.{length, get_or-append, get_or-eq_default}
use Rattle.std.proofs.Math.Seq.{get_or-append_seam}
use Rattle.basis.specs.Lists.{snoc, any, filter}
use Rattle.basis.specs.Members.{split, clash}
use Rattle.records.specs.Shapes.{Rec}
use Rattle.index.specs.Index.{marks_by, mark_in}
use Rattle.index.specs.Found.{mark_hit, mark_miss}

-- ---- the records that pass p

module _ (p : Rec → Bool) where
  -- a record that passes is behind the others
  pub filter_more : (rs : List Rec) (r : Rec) → p r ≡ true → filter p (snoc rs r) ≡ snoc (filter p rs) r
  filter_more [] r e = rw (e, filter)
  filter_more (x ∷ xs) r e =
      let ih = filter_more xs r e in
      split (p x) (λ q. rw (q, filter) (ap (λ (l : List Rec). x ∷ l) ih)) (λ q. rw (q, filter) ih)

  -- one that does not is left out
  pub filter_less : (rs : List Rec) (r : Rec) → p r ≡ false → filter p (snoc rs r) ≡ filter p rs
  filter_less [] r e = rw (e, filter)
  filter_less (x ∷ xs) r e =
      let ih = filter_less xs r e in
      split (p x) (λ q. rw (q, filter) (ap (λ (l : List Rec). x ∷ l) ih)) (λ q. rw (q, filter) ih)

  -- ---- their marks: there are as many; one that passes has its number plus one, one that does not has none

  pub marks_long : (rs : List Rec) (j : ℕ) → length (marks_by p rs j) ≡ length (filter p rs)
  unfolding marks_by
  marks_long [] j = refl
  marks_long (x ∷ xs) j =
      split (p x)
      (λ q. rw (q, marks_by, filter) (ap suc (marks_long xs (suc j))))
      (λ q. rw (q, marks_by, filter) (marks_long xs (suc j)))

  pub marks_more : (rs : List Rec) (r : Rec) (j : ℕ) → p r ≡ true
      → marks_by p (snoc rs r) j ≡ snoc (marks_by p rs j) (suc (j + length rs))
  unfolding marks_by
  marks_more [] r j e = let z : j + 0 ≡ j = omega arith in rw (e, marks_by, z)
  marks_more (x ∷ xs) r j e =
      let z : suc j + length xs ≡ j + suc (length xs) = omega arith in
      let ih = rw z at (marks_more xs r (suc j) e) in
      split (p x) (λ q. rw (q, marks_by) (ap (λ (l : List ℕ). suc j ∷ l) ih)) (λ q. rw (q, marks_by) ih)

  pub marks_same : (rs : List Rec) (r : Rec) (j : ℕ) → p r ≡ false → marks_by p (snoc rs r) j ≡ marks_by p rs j
  unfolding marks_by
  marks_same [] r j e = rw (e, marks_by)
  marks_same (x ∷ xs) r j e =
      let ih = marks_same xs r (suc j) e in
      split (p x) (λ q. rw (q, marks_by) (ap (λ (l : List ℕ). suc j ∷ l) ih)) (λ q. rw (q, marks_by) ih)

-- ---- a list with x behind it, read at its new end and elsewhere

pub last_at_lem : (l : List ℕ) (x k : ℕ) → k ≡ length l → get_or (snoc l x) k 0 ≡ x
last_at_lem l x k e = rw e (get_or-append_seam l x [] 0)

pub last_else : (l : List ℕ) (x k : ℕ) → (k ≡ length l → ⊥) → get_or (snoc l x) k 0 ≡ get_or l k 0
last_else l x k d =
    split (ltb k (length l))
    (λ q. get_or-append l (x ∷ []) 0 k (ltb-true k (length l) q))
    (λ q. let h : length l ≤ k = ltb-false k (length l) q in
    get_or-eq_default (snoc l x) 0 {n = k} (rw length-append (omega (arith, d))) ∙ sym (get_or-eq_default l 0 {n = k} h))

-- ---- the records gs of kind 8 with r behind them: the mark of r's variable, which none of gs names, and the mark of any other

pub mark_at_lem : (gs : List Rec) (r : Rec) (v : ℕ) → any (λ g. eqb g.a r.a) gs ≡ false → v ≡ r.a → mark_in (snoc gs r) v ≡ suc r.b
mark_at_lem [] r v n e = mark_hit r [] v (eq-eqb r.a v (sym e))
mark_at_lem (g ∷ gs) r v n e =
    split (eqb g.a r.a)
    (λ q. clash (cc (rw (q, any) at n)))
    (λ q. mark_miss g (snoc gs r) v (rw e q) ∙ mark_at_lem gs r v (rw (q, any) at n) e)

pub mark_else : (gs : List Rec) (r : Rec) (v : ℕ) → (v ≡ r.a → ⊥) → mark_in (snoc gs r) v ≡ mark_in gs v
mark_else [] r v d = mark_miss r [] v (ne_eqb r.a v (λ e. d (sym e)))
mark_else (g ∷ gs) r v d =
    split (eqb g.a v)
    (λ q. mark_hit g (snoc gs r) v q ∙ sym (mark_hit g gs v q))
    (λ q. mark_miss g (snoc gs r) v q ∙ mark_else gs r v d ∙ sym (mark_miss g gs v q))
