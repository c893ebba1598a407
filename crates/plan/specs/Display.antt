-- The display text of a package (document 01, "Explanation and graph text"; a long group's as order 6 of document 02 has it).
use Rattle.std.specs.Prelude.{cond, List, [], ◌∷◌, ◌++◌, map, ℕ, length, take, ltb}
use Rattle.basis.specs.Lists.{concat_map}
use Rattle.basis.specs.Quote.{utf8}
use Rattle.records.specs.Views.{name_text, solvable_name, version_text}
use Rattle.store.specs.declared.ConflictNode.{ConflictNode}
use Rattle.store.specs.declared.ConflictNode.TheVariants as N
use Rattle.store.specs.Graph.{node_at}
use Rattle.plan.specs.Plan.{Shown, group_of, merged_shown}

-- conflict.rs, `solvable`: the number of a node's solvable
abbrev pub solvable_by : ConflictNode → ℕ
solvable_by N.Root = 0
solvable_by (N.Solvable s) = s
solvable_by N.UnresolvedDependency = 0
solvable_by (N.Excluded r) = 0

-- the last of these texts, x where there are none: "then its last"
abbrev pub last_text : List ℕ → List (List ℕ) → List ℕ
last_text x [] = x
last_text x (y ∷ ys) = last_text y ys

-- order 6: "A group of more than six shows its first three versions, then ' | ... | ', then its last." These are then joined.
abbrev pub displayed : List (List ℕ) → List (List ℕ)
displayed vs = cond (ltb 6 (length vs)) (take 3 vs ++ (utf8 "..." ∷ last_text [] vs ∷ [])) vs

-- "versions joined by ' | '"
abbrev pub joined_by : List (List ℕ) → List ℕ
joined_by [] = []
joined_by (v ∷ vs) = v ++ concat_map (λ w. utf8 " | " ++ w) vs

module _ (S : Shown) where
  -- of node n (`solvable_by`)
  abbrev pub solvable_of : ℕ → ℕ
  solvable_of n = solvable_by (node_at S.graph n)

  -- the version of node n, in `package_text`
  abbrev pub version_of : ℕ → List ℕ
  version_of n = version_text S.tables (solvable_of n)

  -- the packages that a line names: a group in node order, or the one (conflict.rs, lines 1070 to 1081)
  abbrev pub members_of : ℕ → List ℕ
  members_of n = cond (merged_shown S n) (group_of S n) (n ∷ [])

  -- "Solvable text: name, space, version; a group: name, space, versions joined"
  abbrev pub package_text : ℕ → List ℕ
  package_text n = name_text S.tables (solvable_name S.tables (solvable_of n)) ++ utf8 " " ++ joined_by (displayed (map version_of (members_of n)))
