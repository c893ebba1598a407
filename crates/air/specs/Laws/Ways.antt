-- The ways through the profile's tests.
use Rattle.std.specs.Prelude.{◌≡◌, refl, false, List, ℕ, ◌-◌, ◌<◌, ◌≤◌, length, ltb}
use Rattle.std.proofs.Common.{ap, arith, lt-ltb, le-ltb}
use Rattle.std.proofs.Math.Option.{Option, none, some}
use Rattle.records.specs.Tables.{Tables}
use Rattle.store.specs.declared.Size.{Size}
use Rattle.store.specs.Graph.{Graph}
use Rattle.store.specs.Table.{graph_in, nodes_count}
use Rattle.links.specs.Build.{Chains}
use Rattle.links.specs.Queue.{lowest_of}
use Rattle.cycles.specs.Cycles.{cycle_of}
use Rattle.air.specs.declared.Profile.{Profile}
use Rattle.air.specs.declared.Profile.TheVariants.{Passed, Refused}
use Rattle.air.specs.Profile.{first_lock, graph_profile, profile_of}

-- an answer that is 0, or one more than the number that was found
found : (o : Option ℕ) (l p : ℕ) → l ≡ lowest_of o → 0 < l → p ≡ l - 1 → o ≡ some p
found none l p q h e = let z : ⊥ = omega arith in absurd z
found (some n) l p q h e = let z : n ≡ p = omega arith in ap (λ (x : ℕ). some x) z

unfound : (o : Option ℕ) (l : ℕ) → l ≡ lowest_of o → l ≤ 0 → o ≡ none
unfound none l q h = refl
unfound (some n) l q h = let z : ⊥ = omega arith in absurd z

-- ---- the graph

module _ (g : List ℕ) (s : Size) (w : List ℕ) (C : Chains g s w) where
  pub nodes_many : 64 < s.nodes → Refused 16 0 ≡ graph_profile (graph_in g s)
  nodes_many h =
      let t : 64 < length (graph_in g s).nodes = omega (arith, nodes_count g s C.stored) in
      rw (lt-ltb 64 (length (graph_in g s).nodes) t, graph_profile)

  module _ (few : s.nodes ≤ 64) (c : ℕ) (q : c ≡ lowest_of (cycle_of (graph_in g s))) where
    nodes_few : ltb 64 (length (graph_in g s).nodes) ≡ false
    nodes_few = le-ltb 64 (length (graph_in g s).nodes) (omega (arith, nodes_count g s C.stored))

    pub cycle_there : (p : ℕ) → 0 < c → p ≡ c - 1 → Refused 17 p ≡ graph_profile (graph_in g s)
    cycle_there p h e = rw (nodes_few, graph_profile, found (cycle_of (graph_in g s)) c p q h e)

    pub cycle_none : c ≤ 0 → Passed ≡ graph_profile (graph_in g s)
    cycle_none h = rw (nodes_few, graph_profile, unfound (cycle_of (graph_in g s)) c q h)

-- ---- the clauses

module _ (T : Tables) (G : Graph) (l : ℕ) (q : l ≡ lowest_of (first_lock T)) where
  pub lock_first : (p : ℕ) → 0 < l → p ≡ l - 1 → Refused 15 p ≡ profile_of T G
  unfolding profile_of
  lock_first p h e = rw (found (first_lock T) l p q h e)

  pub lock_free : (x : Profile) → l ≤ 0 → x ≡ graph_profile G → x ≡ profile_of T G
  unfolding profile_of
  lock_free x h e = rw (unfound (first_lock T) l q h) e
