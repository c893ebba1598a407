-- What one file adds to a report, and the report of many (document 02, order 8).
use Rattle.std.specs.Prelude.{◌≡◌, Bool, true, false, ◌||◌, List, [], ◌∷◌, ◌++◌, ℕ, ◌≤◌, set, replicate, eqb}
use Rattle.std.proofs.Math.Option.{none, some}
use Rattle.season.specs.declared.Own.{Own}
use Rattle.season.specs.Report.{Report, empty, join, fits_widths, joined_reports, or_kept}

-- "A file refused with 1 to 9 or 12 adds nothing but its refusal; one refused with 10 or 11 adds its graph counts, the lines it wrote
-- and its depth."
abbrev pub adds : ℕ → Bool
adds k = eqb k 0 || (eqb k 10 || eqb k 11)

-- "depth 0 is a depth": a file's own answer and the counts of its graph, as a report of that one file; depth 0 is a depth
unfoldable pub share : Own → Report
share a =
    record {
      counts =
          set (replicate 19 0) a.number 1
          ++ elim (adds a.number) [ true ↦ a.nodes ∷ a.edges ∷ a.groups ∷ a.missing ∷ a.lines ∷ [] | false ↦ replicate 5 0 ];
      deepest = elim (adds a.number) [ true ↦ some (a.depth, 0) | false ↦ none ];
    }

-- "Over many files, in the order given", from the report so far: a file that gets 14 leaves it as it is
unfoldable pub season_from : Report → List Own → Report
season_from r [] = r
season_from r (a ∷ xs) = season_from (or_kept r (joined_reports r (share a))) xs

unfoldable pub season : List Own → Report
season xs = season_from empty xs

-- no file gets 14
abbrev pub NoWide : Report → List Own → Type 0
NoWide r [] = Unit {0}
NoWide r (a ∷ xs) = (fits_widths (join r (share a)) ≡ true) × NoWide (join r (share a)) xs

-- the number is one of the table's
abbrev pub Known : Own → Type 0
Known a = a.number ≤ 18
