-- Runs: "a run is a stretch of consecutive outgoing edges with equal requirement", newest first as the edges are.
use Rattle.std.specs.Prelude.{Bool, true, false, List, [], ◌∷◌, ℕ, eqb}
use Rattle.basis.specs.Lists.{any, all}
use Rattle.store.specs.declared.ConflictEdge.{ConflictEdge}
use Rattle.store.specs.declared.ConflictEdge.TheVariants as W
use Rattle.store.specs.declared.Edge.{Edge}

-- "A run is a stretch of consecutive outgoing edges with equal requirement": that requirement and the targets
pub record Run : Type 0 where
  pub req : ℕ
  pub to : List ℕ

-- conflict.rs, `chunk_by`: one edge in front, which joins the first run or opens one
abbrev pub add_to : ℕ → ℕ → List Run → List Run
add_to q n [] = record { req = q; to = n ∷ [] } ∷ []
add_to q n (r ∷ rs) =
    elim (eqb q r.req) [
      | true ↦ record { req = q; to = n ∷ r.to } ∷ rs
      | false ↦ record { req = q; to = n ∷ [] } ∷ r ∷ rs
    ]

-- conflict.rs, `chunk_by`. Conflicts are dropped: "cut into runs after other edges are dropped"; a label looks at runs only
-- where there is no outgoing conflict.
abbrev pub runs_of : List Edge → List Run
runs_of [] = []
runs_of (e ∷ es) = elim e.weight [ W.Requires q ↦ add_to q e.target (runs_of es) | W.Conflict c ↦ runs_of es ]

-- "in every run a target .."
abbrev pub every_run : (ℕ → Bool) → List Run → Bool
every_run p rs = all (λ r. any p r.to) rs

-- ".. that has a run whose targets are all .."
abbrev pub some_run : (ℕ → Bool) → List Run → Bool
some_run p rs = any (λ r. all p r.to) rs
