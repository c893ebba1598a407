-- A lent report is 27 words: 0 done; 1 to 18 how many files got that refusal; 19 nodes, 20 edges, 21 groups, 22 missing nodes, 23 lines;
-- 24 the greatest depth, 25 the first file that had it, 26 whether 25 names one.
use Rattle.std.specs.Prelude.{true, false, List, [], ◌∷◌, ◌++◌, ℕ, length, get_or, take, eqb}
use Rattle.std.proofs.Math.Option.{Option, none, some}
use Rattle.basis.specs.Guard.{guard}
use Rattle.season.specs.declared.Own.{Own}
use Rattle.season.specs.Report.{Report, join, fits_widths}
use Rattle.season.specs.Season.{share}

-- "no first file is named": where word 26 is 0, words 24 and 25 read as 0 whatever they hold
unfoldable pub deep_in : List ℕ → Option (ℕ × ℕ)
deep_in ws = elim (eqb (get_or ws 26 0) 0) [ true ↦ none | false ↦ some (get_or ws 24 0, get_or ws 25 0) ]

-- "a report is 27 numbers", read
unfoldable pub report_of : List ℕ → Report
report_of ws = record { counts = take 24 ws; deepest = deep_in ws }

-- "a report that is written holds 0 or 1 there", with `deep_in` the other way
abbrev pub named : Option (ℕ × ℕ) → List ℕ
named none = 0 ∷ 0 ∷ 0 ∷ []
named (some p) = p.0 ∷ p.1 ∷ 1 ∷ []

-- "a report is 27 numbers", written
unfoldable pub words_of : Report → List ℕ
words_of r = r.counts ++ named r.deepest

-- ---- joining two lent reports

-- two lent reports, by `join`
abbrev pub both : List ℕ → List ℕ → Report
both ws vs = join (report_of ws) (report_of vs)

-- 10 for a report that is not 27 words; "14 if a count would pass its width": one chain for the number and for the words
unfoldable pub join_by : {X : Type 0} → List ℕ → List ℕ → X → X → X → X
join_by ws vs short wide done = guard (eqb (length ws) 27) short (guard (eqb (length vs) 27) short (guard (fits_widths (both ws vs)) wide done))

-- the number of the answer, by `join_by`
abbrev pub join_number : List ℕ → List ℕ → ℕ
join_number ws vs = join_by ws vs 10 14 0

-- "report unchanged" but where it is done
abbrev pub join_words : List ℕ → List ℕ → List ℕ
join_words ws vs = join_by ws vs ws ws (words_of (both ws vs))

-- what one file adds, by `share`, as a lent report
abbrev pub share_words : Own → List ℕ
share_words a = words_of (share a)
