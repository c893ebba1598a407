-- Order 11, "Reading rules, edition 2": an edition is a plan of which `merged` is read otherwise. The machine, what it writes, 10 and what 10
-- leaves are one for all editions.
use Rattle.std.specs.Prelude.{Bool, cond, ◌||◌, List, [], ◌∷◌, ℕ, eqb}
use Rattle.basis.specs.Lists.{concat_map}
use Rattle.machine.specs.Machine.{Plan, Op, requirement, candidate, Entry}

module _ {R : Type 0} where
  -- every: "every package, merged or not, is reported when first shown and skipped afterwards"; an unmerged one by its own number, its `lead`
  abbrev pub reading : Bool → Plan R → Plan R
  reading every P = record { opens = P.opens; runs = P.runs; kids = P.kids; merged = λ n. every || P.merged n; lead = P.lead }

  -- "In edition 2 every package"; edition 1 reads the plan as it is
  abbrev pub edited : ℕ → Plan R → Plan R
  edited e P = reading (eqb e 2) P

-- ---- "all openings in the whole text together"

module _ {R : Type 0} (P : Plan R) where
  -- "Opening a package means writing its 'would require' line": the package that a shown entry opens
  abbrev pub opened_by : Entry R → List ℕ
  opened_by e = elim e.op [ requirement r ↦ [] | candidate n ↦ cond (P.opens n) (n ∷ []) [] ]

  -- on all branches together
  abbrev pub opened_in : List (Entry R) → List ℕ
  opened_in es = concat_map opened_by es
