-- What one edge adds to its source's line, as a number that the code reads: 0 for nothing.
use Rattle.std.specs.Prelude.{◌≡◌, Bool, true, false, ℕ, suc, ◌+◌, ◌-◌, ◌<◌, ◌≤◌}
use Rattle.std.proofs.Math.Path.{refl, ap}
use Rattle.std.proofs.Common.{sym, ◌∙◌, arith, not-suc-le-zero}
use Rattle.std.proofs.lemmas.Bool.{false≢true}
use mathlib.Core.List.{List, [], ◌∷◌, ◌++◌}
use Rattle.basis.specs.Lists.{any, concat_map}
use Rattle.store.specs.declared.ConflictNode.{ConflictNode}
use Rattle.store.specs.declared.ConflictNode.TheVariants as N
use Rattle.store.specs.declared.ConflictCause.{ConflictCause}
use Rattle.store.specs.declared.ConflictCause.TheVariants as K
use Rattle.store.specs.declared.ConflictEdge.{ConflictEdge}
use Rattle.store.specs.declared.ConflictEdge.TheVariants as W
use Rattle.store.specs.declared.Edge.{Edge}
use Rattle.store.specs.Graph.{is_excluded}
use Rattle.store.specs.Table.{edge_in, node_in}
use Rattle.links.specs.Walk.{out_left, next_out, out_end}
use Rattle.plan.specs.Plan.{reason_by, reasons_by, is_forbid, sets_by}
use Rattle.planning.specs.Along.{Way, way_cons}

-- one more than the first, or 0
unfoldable pub edge_mark : List ℕ → ℕ
edge_mark [] = 0
edge_mark (r ∷ rs) = suc r

-- ---- the reason of an edge that excludes

unfoldable pub reasons_at : List ℕ → Edge → List ℕ
reasons_at g e = reasons_by e.weight (node_in g e.target)

unfoldable pub reasons_in : List ℕ → List Edge → List ℕ
unfolding reasons_at
reasons_in g es = concat_map (reasons_at g) es

excluded_by : (w : ConflictEdge) (x : ConflictNode) → is_excluded w ≡ true → reasons_by w x ≡ reason_by x
excluded_by (W.Requires q) x h = absurd (false≢true h)
excluded_by (W.Conflict (K.Locked s)) x h = absurd (false≢true h)
excluded_by (W.Conflict (K.Constrains v)) x h = absurd (false≢true h)
excluded_by (W.Conflict K.ForbidMultipleInstances) x h = absurd (false≢true h)
excluded_by (W.Conflict K.Excluded) x h = refl

other_by_lem : (w : ConflictEdge) (x : ConflictNode) → is_excluded w ≡ false → reasons_by w x ≡ []
other_by_lem (W.Requires q) x h = refl
other_by_lem (W.Conflict (K.Locked s)) x h = refl
other_by_lem (W.Conflict (K.Constrains v)) x h = refl
other_by_lem (W.Conflict K.ForbidMultipleInstances) x h = refl
other_by_lem (W.Conflict K.Excluded) x h = absurd (false≢true (sym h))

module _ (g : List ℕ) (i : ℕ) (b : Bool) (is : b ≡ is_excluded (edge_in g i).weight) where
  pub reason_none : b ≡ false → 0 ≡ edge_mark (reasons_at g (edge_in g i))
  unfolding reasons_at edge_mark
  reason_none h = rw (other_by_lem (edge_in g i).weight (node_in g (edge_in g i).target) (sym is ∙ h))

  module _ (h : b ≡ true) (t : ℕ) (to : t ≡ (edge_in g i).target) (r : ConflictNode) (at : r ≡ node_in g t) where
    here : reasons_at g (edge_in g i) ≡ reason_by r
    unfolding reasons_at
    here = excluded_by (edge_in g i).weight (node_in g (edge_in g i).target) (sym is ∙ h) ∙ ap (λ (u : ℕ). reason_by (node_in g u)) (sym to) ∙ ap reason_by (sym at)

    pub reason_root : r ≡ N.Root → 0 ≡ edge_mark (reasons_at g (edge_in g i))
    unfolding edge_mark
    reason_root e = rw (here, e)

    pub reason_solvable : (s : ℕ) → r ≡ N.Solvable s → 0 ≡ edge_mark (reasons_at g (edge_in g i))
    unfolding edge_mark
    reason_solvable s e = rw (here, e)

    pub reason_unresolved : r ≡ N.UnresolvedDependency → 0 ≡ edge_mark (reasons_at g (edge_in g i))
    unfolding edge_mark
    reason_unresolved e = rw (here, e)

    pub reason_is : (s m : ℕ) → r ≡ N.Excluded s → m ≡ s → m + 1 ≡ edge_mark (reasons_at g (edge_in g i))
    unfolding edge_mark
    reason_is s m e q = rw (here, e, q) (omega arith)

-- the first along a walk: those before e have none
module _ (g ls : List ℕ) (n e₁ e : ℕ) (inv : edge_mark (reasons_in g (out_left g n e)) ≡ edge_mark (reasons_in g (out_left g n e₁))) where
  pub reasons_end : e ≤ 0 → 0 ≡ edge_mark (reasons_in g (out_left g n e₁))
  unfolding reasons_in edge_mark
  reasons_end h = rw (out_end g n e h) at inv

  module _ (w : Way g ls n e) (h : 0 < e) (m : ℕ) (is : m ≡ edge_mark (reasons_at g (edge_in g (e - 1)))) where
    pub reasons_hit : 0 < m → m ≡ edge_mark (reasons_in g (out_left g n e₁))
    unfolding reasons_in edge_mark
    reasons_hit l = is ∙ by (reasons_at g (edge_in g (e - 1))) (rw (← is) l) ∙ (rw (way_cons g ls n e (next_out ls (e - 1)) w h refl) at inv)
      where
        by : (l : List ℕ) → 0 < edge_mark l → edge_mark l ≡ edge_mark (l ++ concat_map (reasons_at g) (out_left g n (next_out ls (e - 1))))
        by [] q = absurd (not-suc-le-zero q)
        by (x ∷ l) q = refl

    pub reasons_on : (r : ℕ) → m ≤ 0 → r ≡ next_out ls (e - 1) → edge_mark (reasons_in g (out_left g n r)) ≡ edge_mark (reasons_in g (out_left g n e₁))
    unfolding reasons_in edge_mark
    reasons_on r l q = by (reasons_at g (edge_in g (e - 1))) (rw (← is) l) ∙ (rw (way_cons g ls n e r w h q) at inv)
      where
        by : (l : List ℕ) → edge_mark l ≤ 0 → edge_mark (concat_map (reasons_at g) (out_left g n r)) ≡ edge_mark (l ++ concat_map (reasons_at g) (out_left g n r))
        by [] q = refl
        by (x ∷ l) q = absurd (not-suc-le-zero q)

-- ---- a forbidden second instance

unfoldable pub forbids_in : List Edge → Bool
forbids_in es = any (λ e. is_forbid e.weight) es

module _ (r y : Edge) (is : r ≡ y) where
  pub forbid_requires : (q : ℕ) → r.weight ≡ W.Requires q → false ≡ is_forbid y.weight
  forbid_requires q e = rw (← is, e)

  module _ (c : ConflictCause) (e : r.weight ≡ W.Conflict c) where
    pub forbid_locked : (s : ℕ) → c ≡ K.Locked s → false ≡ is_forbid y.weight
    forbid_locked s q = rw (← is, e, q)

    pub forbid_constrains : (v : ℕ) → c ≡ K.Constrains v → false ≡ is_forbid y.weight
    forbid_constrains v q = rw (← is, e, q)

    pub forbid_is : c ≡ K.ForbidMultipleInstances → true ≡ is_forbid y.weight
    forbid_is q = rw (← is, e, q)

    pub forbid_excluded : c ≡ K.Excluded → false ≡ is_forbid y.weight
    forbid_excluded q = rw (← is, e, q)

module _ (g ls : List ℕ) (n e₁ e : ℕ) (inv : forbids_in (out_left g n e) ≡ forbids_in (out_left g n e₁)) where
  pub forbids_end : e ≤ 0 → false ≡ forbids_in (out_left g n e₁)
  unfolding forbids_in
  forbids_end h = rw (out_end g n e h) at inv

  module _ (w : Way g ls n e) (h : 0 < e) (b : Bool) (is : b ≡ is_forbid (edge_in g (e - 1)).weight) where
    pub forbids_hit : b ≡ true → true ≡ forbids_in (out_left g n e₁)
    unfolding forbids_in
    forbids_hit t = rw (way_cons g ls n e (next_out ls (e - 1)) w h refl, (sym is ∙ t), any) at inv

    pub forbids_on : (r : ℕ) → b ≡ false → r ≡ next_out ls (e - 1) → forbids_in (out_left g n r) ≡ forbids_in (out_left g n e₁)
    unfolding forbids_in
    forbids_on r t q = rw (way_cons g ls n e r w h q, (sym is ∙ t), any) at inv

-- ---- a version set that constrains

module _ (r y : Edge) (is : r ≡ y) where
  pub set_requires : (q : ℕ) → r.weight ≡ W.Requires q → 0 ≡ edge_mark (sets_by y.weight)
  unfolding edge_mark
  set_requires q e = rw (← is, e)

  module _ (c : ConflictCause) (e : r.weight ≡ W.Conflict c) where
    pub set_locked : (s : ℕ) → c ≡ K.Locked s → 0 ≡ edge_mark (sets_by y.weight)
    unfolding edge_mark
    set_locked s q = rw (← is, e, q)

    pub set_is : (v m : ℕ) → c ≡ K.Constrains v → m ≡ v → m + 1 ≡ edge_mark (sets_by y.weight)
    unfolding edge_mark
    set_is v m q z = rw (← is, e, q, z) (omega arith)

    pub set_forbid : c ≡ K.ForbidMultipleInstances → 0 ≡ edge_mark (sets_by y.weight)
    unfolding edge_mark
    set_forbid q = rw (← is, e, q)

    pub set_excluded : c ≡ K.Excluded → 0 ≡ edge_mark (sets_by y.weight)
    unfolding edge_mark
    set_excluded q = rw (← is, e, q)

-- an edge has one or none
pub set_none : (y : ConflictEdge) (m : ℕ) → m ≡ edge_mark (sets_by y) → m ≡ 0 → sets_by y ≡ []
unfolding edge_mark
set_none (W.Requires q) m e z = refl
set_none (W.Conflict (K.Locked s)) m e z = refl
set_none (W.Conflict (K.Constrains v)) m e z = absurd (no (e))
  where
    no : m ≡ suc v → ⊥
    no e = omega arith
set_none (W.Conflict K.ForbidMultipleInstances) m e z = refl
set_none (W.Conflict K.Excluded) m e z = refl

pub set_one : (y : ConflictEdge) (m : ℕ) → m ≡ edge_mark (sets_by y) → (m ≡ 0 → ⊥) → sets_by y ≡ (m - 1) ∷ []
unfolding edge_mark
set_one (W.Requires q) m e z = absurd (z e)
set_one (W.Conflict (K.Locked s)) m e z = absurd (z e)
set_one (W.Conflict (K.Constrains v)) m e z = let q : m - 1 ≡ v = omega arith in rw q
set_one (W.Conflict K.ForbidMultipleInstances) m e z = absurd (z e)
set_one (W.Conflict K.Excluded) m e z = absurd (z e)
