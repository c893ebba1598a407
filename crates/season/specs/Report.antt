-- A season's report (document 02, order 8): "Over many files, in the order given: how many were done, how many got each refusal, and totals of
-- nodes, edges, groups, missing nodes and lines, with the greatest depth and the first file that had it."
use Rattle.std.specs.Prelude.{Bool, true, false, ◌&&◌, List, [], ◌∷◌, ℕ, ◌+◌, ◌^◌, take, replicate, ltb}
use Rattle.std.proofs.Math.Option.{Option, none, some}
use Rattle.basis.specs.Lists.{all}

-- "how many were done, how many got each refusal, and totals of nodes, edges, groups, missing nodes and lines, with the greatest depth and
-- the first file that had it": 24 counts, refusals 1 to 18 among them, and depth and file where a file had a depth. "Files count from 0."
pub record Report : Type 0 where
  pub counts : List ℕ
  pub deepest : Option (ℕ × ℕ)

-- `Iterator::sum`
abbrev pub sum : List ℕ → ℕ
sum [] = 0
sum (x ∷ xs) = x + sum xs

-- "each total is the sum": count by count, for `join`
abbrev pub sums : List ℕ → List ℕ → List ℕ
sums [] ys = []
sums (x ∷ xs) [] = []
sums (x ∷ xs) (y ∷ ys) = (x + y) ∷ sums xs ys

-- "Done and all refusals add up to the files": how many files a report is of
unfoldable pub files : Report → ℕ
files r = sum (take 19 r.counts)

-- "With no file that has a depth, the greatest is 0 and no first file is named."
unfoldable pub empty : Report
empty = record { counts = replicate 24 0; deepest = none }

-- ---- joining

-- n files stand before: "the second report's file numbers follow the first's"
abbrev pub moved : ℕ → Option (ℕ × ℕ) → Option (ℕ × ℕ)
moved n none = none
moved n (some p) = some (p.0, n + p.1)

-- the greatest depth of the two, "and the first file that had it"
abbrev pub deeper : ℕ → Option (ℕ × ℕ) → Option (ℕ × ℕ) → Option (ℕ × ℕ)
deeper n none o = moved n o
deeper n (some p) none = some p
deeper n (some p) (some q) = elim (ltb p.0 q.0) [ true ↦ some (q.0, n + q.1) | false ↦ some p ]

-- "a season cut into two reports joined gives the report of the whole": two reports joined, whatever the size of the sums
unfoldable pub join : Report → Report → Report
join r s = record { counts = sums r.counts s.counts; deepest = deeper (files r) r.deepest s.deepest }

-- ---- "Counts are 64-bit."

-- "Counts are 64-bit."
abbrev pub narrow : ℕ → Bool
narrow n = ltb n (2 ^ 64)

-- the depth and the file number, for `fits_widths`
abbrev pub numbers : Option (ℕ × ℕ) → List ℕ
numbers none = []
numbers (some p) = p.0 ∷ p.1 ∷ []

-- "14 if a count would pass its width": none does, of the 24, the number of files, the depth and the file number
unfoldable pub fits_widths : Report → Bool
fits_widths r = all narrow r.counts && (narrow (files r) && all narrow (numbers r.deepest))

-- "14 if a count would pass its width, tested per file and per joining"
pub data Joining : Type 0 where
  whole : Report → Joining
  wide : Joining

unfoldable pub joined_reports : Report → Report → Joining
joined_reports r s = elim (fits_widths (join r s)) [ true ↦ whole (join r s) | false ↦ wide ]

-- "report unchanged"
abbrev pub or_kept : Report → Joining → Report
or_kept r (whole s) = s
or_kept r wide = r
