-- The regions of the tables in the index: no two of them meet, and all lie below the chains, which begin at 5056.
use Rattle.std.specs.Prelude.{◌≡◌, refl, true, cond, ℕ, ◌+◌, ◌≤◌, ◌<◌, ltb, leb}
use Rattle.std.proofs.Common.{sym, arith, lt-ltb, ltb-true, ltb-false, leb-true}
use Rattle.basis.specs.Members.{split}
use Rattle.records.specs.declared.Table.{Table}
use Rattle.records.specs.Shapes.{limit}
use Rattle.index.specs.Steps.{table_no, each_table, same_table}
use Rattle.index.specs.Index.{base}

-- of two tables the one with the lesser number ends where the other begins, or before: 81 pairs, each by computing
before_after : (t u : Table) → cond (ltb (table_no t) (table_no u)) (leb (base t + limit t) (base u)) true ≡ true
before_after =
    each_table (λ t. (u : Table) → cond (ltb (table_no t) (table_no u)) (leb (base t + limit t) (base u)) true ≡ true)
    (each_table _ refl refl refl refl refl refl refl refl refl)
    (each_table _ refl refl refl refl refl refl refl refl refl)
    (each_table _ refl refl refl refl refl refl refl refl refl)
    (each_table _ refl refl refl refl refl refl refl refl refl)
    (each_table _ refl refl refl refl refl refl refl refl refl)
    (each_table _ refl refl refl refl refl refl refl refl refl)
    (each_table _ refl refl refl refl refl refl refl refl refl)
    (each_table _ refl refl refl refl refl refl refl refl refl)
    (each_table _ refl refl refl refl refl refl refl refl refl)

in_order : (t u : Table) → table_no t < table_no u → base t + limit t ≤ base u
in_order t u h = leb-true (base t + limit t) (base u) (rw (lt-ltb (table_no t) (table_no u) h) at (before_after t u))

-- a place is in the region of one table only
pub apart : (t u : Table) (k l : ℕ) → k < limit t → l < limit u → base t + k ≡ base u + l → t ≡ u
apart t u k l h m e =
    split (ltb (table_no t) (table_no u))
    (λ q. absurd (never t u k l h e (ltb-true (table_no t) (table_no u) q)))
    (λ q. split (ltb (table_no u) (table_no t))
    (λ p. absurd (never u t l k m (sym e) (ltb-true (table_no u) (table_no t) p)))
    (λ p. same_table t u (omega (arith, ltb-false (table_no t) (table_no u) q, ltb-false (table_no u) (table_no t) p))))
  where
    never : (t u : Table) (k l : ℕ) → k < limit t → base t + k ≡ base u + l → table_no t < table_no u → ⊥
    never t u k l h e q = omega (arith, in_order t u q)

-- every region ends where the chains begin, or before
pub below_chains : (t : Table) → base t + limit t ≤ 5056
below_chains t = leb-true (base t + limit t) 5056 (by_computing t)
  where
    by_computing : (u : Table) → leb (base u + limit u) 5056 ≡ true
    by_computing = each_table (λ u. leb (base u + limit u) 5056 ≡ true) refl refl refl refl refl refl refl refl refl
