-- How the plan of a graph is made: the groups' first members, names merged by text, then the plan's tables. That determines every word of the
-- tables that were lent.
use Rattle.std.specs.Prelude.{◌≡◌, List, ℕ, replicate}
use Rattle.records.specs.Tables.{Tables}
use Rattle.store.specs.declared.Size.{Size}
use Rattle.store.specs.Table.{graph_in}
use Rattle.groups.specs.Groups.{title_of}
use Rattle.groups.specs.Leads.{leads_to}
use Rattle.groups.specs.Naming.{name_of}
use Rattle.planning.specs.Exact.{PlanMade, plan_made_one}

-- the first members of the groups of the graph that g and s hold
abbrev pub leads_in : Tables → List ℕ → Size → List ℕ
leads_in T g s = leads_to (title_of (name_of T) (graph_in g s)) (graph_in g s) s.nodes (replicate 128 0)

-- tables p₀ and k₀ became p and k
pub record PlanFrom (T : Tables) (g : List ℕ) (s : Size) (ls ms p₀ k₀ p k : List ℕ) : Type 0 where
  pub members : List ℕ
  pub made : PlanMade T g ls ms (leads_in T g s) s.nodes (replicate 128 0) p₀ k₀ members p k

pub plan_from : (T : Tables) (g : List ℕ) (s : Size) (ls ms ld p₀ k₀ gr p k : List ℕ) → ld ≡ leads_in T g s
    → PlanMade T g ls ms ld s.nodes (replicate 128 0) p₀ k₀ gr p k
    → PlanFrom T g s ls ms p₀ k₀ p k
plan_from T g s ls ms ld p₀ k₀ gr p k e M = record { members = gr; made = rw e at M }

pub plan_from_one : (T : Tables) (g : List ℕ) (s : Size) (ls ms p₀ k₀ p k u v : List ℕ) → PlanFrom T g s ls ms p₀ k₀ p k → PlanFrom T g s ls ms p₀ k₀ u v
    → (p ≡ u) × (k ≡ v)
plan_from_one T g s ls ms p₀ k₀ p k u v P Q =
    let e = plan_made_one T g ls ms (leads_in T g s) s.nodes (replicate 128 0) p₀ k₀ P.members p k Q.members u v P.made Q.made in (e.1, e.2)
