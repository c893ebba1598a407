-- What the steps of a joining compute over the words.
use Rattle.std.specs.Prelude.{Option as Maybe, Some, None, Result, Ok, Err}
use Rattle.std.specs.Prelude.{Bool, true, false, List, ◌++◌, ℕ, ◌+◌, get_or, take, drop, set, replicate}
use Rattle.std.proofs.Math.Option.{Option, none, some}
use Rattle.basis.specs.Lists.{all}
use Rattle.basis.specs.Guard.{guard}
use Rattle.season.specs.declared.Refusal.{Refusal}
use Rattle.season.specs.declared.Refusal.TheVariants as R
use Rattle.season.specs.declared.Deep.{Deep}
use Rattle.season.specs.declared.Own.{Own}
use Rattle.season.specs.Report.{sum, sums, narrow, numbers, fits_widths}
use Rattle.season.specs.Words.{both}

-- 10 for a report that is not 27 words, "14 if a count would pass its width"
abbrev pub refusal_number : Refusal → ℕ
refusal_number R.Short = 10
refusal_number R.Wide = 14

-- the number of an answer: 0 where it was done
abbrev pub number_said : Result (Unit {0}) Refusal → ℕ
number_said (Ok u) = 0
number_said (Err e) = refusal_number e

-- count i of both reports together is narrow
unfoldable pub pair_fits : List ℕ → List ℕ → ℕ → Bool
pair_fits ws vs i = narrow (get_or ws i 0 + get_or vs i 0)

-- the first i counts are sums, the other words as they were
unfoldable pub added : List ℕ → List ℕ → ℕ → List ℕ
added ws vs i = sums (take i ws) (take i vs) ++ drop i ws

-- the first i counts together
unfoldable pub files_in : List ℕ → ℕ → ℕ
files_in ws i = sum (take i ws)

unfoldable pub total_of : ℕ → Result ℕ Refusal
total_of n = elim (narrow n) [ true ↦ Ok n | false ↦ Err R.Wide ]

-- a deepest file as it is answered
abbrev pub shown_deep : Option (ℕ × ℕ) → Maybe Deep
shown_deep none = None
shown_deep (some p) = Some (record { depth = p.0; first = p.1 })

abbrev pub no_deep : Result (Maybe Deep) Refusal
no_deep = Err R.Wide

unfoldable pub deep_of : Option (ℕ × ℕ) → Result (Maybe Deep) Refusal
deep_of o = elim (all narrow (numbers o)) [ true ↦ Ok (shown_deep o) | false ↦ no_deep ]

-- the deepest file of the joined report, if that report fits
unfoldable pub plan_of : List ℕ → List ℕ → Result (Maybe Deep) Refusal
plan_of ws vs = guard (fits_widths (both ws vs)) no_deep (Ok (shown_deep (both ws vs).deepest))

-- the last three words are d's
unfoldable pub three_put : List ℕ → Maybe Deep → List ℕ
three_put list None = set (set (set list 24 0) 25 0) 26 0
three_put list (Some d) = set (set (set list 24 d.depth) 25 d.first) 26 1

-- ---- one file's words

-- a report of no file in which number k stands once
unfoldable pub number_put : ℕ → List ℕ
number_put k = set (replicate 19 0) k 1 ++ replicate 8 0

-- with the counts of the graph
unfoldable pub graph_put : List ℕ → Own → List ℕ
graph_put list a = set (set (set (set list 19 a.nodes) 20 a.edges) 21 a.groups) 22 a.missing

-- with the lines and the depth, which file 0 has
unfoldable pub text_put : List ℕ → Own → List ℕ
text_put list a = set (set (set list 23 a.lines) 24 a.depth) 26 1
