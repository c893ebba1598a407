-- The display text of a package as the packed plan tells it: what is measured is what is written.
use Rattle.std.specs.Prelude.{cond, List, [], ◌∷◌, ◌++◌, map, ℕ, ◌+◌, ◌-◌, length, get_or, ltb}
use Rattle.basis.specs.Lists.{concat_map}
use Rattle.basis.specs.Quote.{utf8}
use Rattle.records.specs.Tables.{Tables}
use Rattle.records.specs.Views.{name_text, solvable_name, version_text}
use Rattle.plan.specs.Display.{displayed, joined_by}
use Rattle.plan.specs.Fields.{solvable_in, members_in}

-- the version of solvable s behind another
abbrev pub next_version : Tables → ℕ → List ℕ
next_version T s = utf8 " | " ++ version_text T s

-- two versions, dots for those that are left out, and the last, behind the first
abbrev pub ends_text : Tables → ℕ → ℕ → ℕ → List ℕ
ends_text T a b z = next_version T a ++ next_version T b ++ utf8 " | ..." ++ next_version T z

-- one more than the last of these numbers, d where there are none
abbrev pub last_more : ℕ → List ℕ → ℕ
last_more d [] = d
last_more d (n ∷ ns) = last_more (n + 1) ns

-- the same where a group with these members behind its first has more than six, else 0
unfoldable pub last_of_many : List ℕ → ℕ
last_of_many ns = cond (ltb 5 (length ns)) (last_more 0 ns) 0

module _ (T : Tables) (p : List ℕ) where
  -- the version of node n
  abbrev pub version_in : ℕ → List ℕ
  version_in n = version_text T (solvable_in p n)

  unfoldable pub versions_in : List ℕ → List ℕ
  versions_in ns = concat_map (λ n. next_version T (solvable_in p n)) ns

  -- what stands behind the first version of a group, by the members behind the first
  unfoldable pub further_in : List ℕ → List ℕ
  further_in ns =
      cond (ltb 5 (length ns))
      (ends_text T (solvable_in p (get_or ns 0 0)) (solvable_in p (get_or ns 1 0)) (solvable_in p (last_of_many ns - 1)))
      (versions_in ns)

  -- "name, space, version; a group: name, space, versions joined"
  unfoldable pub package_in : ℕ → List ℕ
  package_in n = name_text T (solvable_name T (solvable_in p n)) ++ utf8 " " ++ joined_by (displayed (map version_in (members_in p n)))
