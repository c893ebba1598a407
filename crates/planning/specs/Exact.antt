-- How the plan's tables were made. That determines every word of the tables that were lent.
use Rattle.std.specs.Prelude.{◌≡◌, List, ℕ, ◌+◌, ◌-◌, ◌<◌, ◌≤◌, get_or, ltb}
use Rattle.std.proofs.Common.{sym, ◌∙◌, arith, ext_get_or, ltb-true, ltb-false}
use Rattle.basis.specs.Members.{split}
use Rattle.records.specs.Tables.{Tables}
use Rattle.planning.specs.Grouping.{GroupsDone}
use Rattle.planning.specs.Building.{NodesDone}
use Rattle.planning.specs.NodesExact.{groups_done_one, nodes_done_one}
use Rattle.planning.specs.Sizes.{SizesDone}

-- tables t, p₀ and k₀ became gr, p and k: the groups, then the nodes, then the lengths of their texts
pub record PlanMade (T : Tables) (g ls ms ld : List ℕ) (m : ℕ) (t p₀ k₀ gr p k : List ℕ) : Type 0 where
  pub groups : GroupsDone ld t gr m
  pub before : List ℕ
  pub nodes : NodesDone g ls ms gr m p₀ k₀ before k
  pub sizes : SizesDone T before p m

sizes_one : (T : Tables) (p u v : List ℕ) (m : ℕ) → SizesDone T p u m → SizesDone T p v m → u ≡ v
sizes_one T p u v m U W = ext_get_or 0 u v (U.long ∙ sym W.long) (λ i l. at i)
  where
    tail : (i : ℕ) → i < 128 → get_or u (128 + i) 0 ≡ get_or v (128 + i) 0
    tail i h =
        split (ltb i m)
        (λ t. let l : i < m = ltb-true i m t in U.tails i l ∙ sym (W.tails i l))
        (λ t. let l : m ≤ i = ltb-false i m t in U.rest i l h ∙ sym (W.rest i l h))

    at : (i : ℕ) → get_or u i 0 ≡ get_or v i 0
    at i =
        split (ltb i 128)
        (λ t. let l : i < 128 = ltb-true i 128 t in U.heads i l ∙ sym (W.heads i l))
        (λ t. let a : 128 ≤ i = ltb-false i 128 t in
        split (ltb i 256)
        (λ s. let b : i < 256 = ltb-true i 256 s in let e : 128 + (i - 128) ≡ i = omega arith in rw e at (tail (i - 128) (omega arith)))
        (λ s. let b : 256 ≤ i = ltb-false i 256 s in let e : 256 + (i - 256) ≡ i = omega arith in rw e at (U.runs (i - 256) ∙ sym (W.runs (i - 256)))))

pub plan_made_one : (T : Tables) (g ls ms ld : List ℕ) (m : ℕ) (t p₀ k₀ gr p k gs u v : List ℕ) → PlanMade T g ls ms ld m t p₀ k₀ gr p k
    → PlanMade T g ls ms ld m t p₀ k₀ gs u v
    → (gr ≡ gs) × (p ≡ u) × (k ≡ v)
plan_made_one T g ls ms ld m t p₀ k₀ gr p k gs u v P Q =
    let a : gs ≡ gr = groups_done_one ld t gs gr m Q.groups P.groups in
    let b = nodes_done_one g ls ms gr m p₀ k₀ P.before k Q.before v P.nodes (rw a at Q.nodes) in
    let c : Q.before ≡ P.before = sym b.0 in
    (sym a, sizes_one T P.before p u m P.sizes (rw c at Q.sizes), b.1)
