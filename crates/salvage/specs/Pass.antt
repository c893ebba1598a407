-- The pass over the records as the code makes it: counts and marks stand for the tables of the repaired records so far.
use Rattle.std.specs.Prelude.{Bool, false, cond, Option, Some, None, Result, Ok, Err, List, [], ◌∷◌, ℕ, suc, ◌+◌, set}
use Rattle.basis.specs.Guard.{guard}
use Rattle.records.specs.declared.Table.{Table}
use Rattle.records.specs.declared.Table.TheVariants.{Clauses}
use Rattle.records.specs.declared.Counts.{Counts}
use Rattle.records.specs.declared.Shape.{Shape}
use Rattle.records.specs.declared.Refusal.{Refusal}
use Rattle.records.specs.declared.Refusal.TheVariants.{TableFull}
use Rattle.records.specs.declared.Refused.{Refused}
use Rattle.records.specs.Shapes.{Rec}
use Rattle.records.specs.Pass.{found_at, number_of, has_room, more_of, check_pass, noted, no_counts}
use Rattle.salvage.specs.declared.Fate.{Fate}
use Rattle.salvage.specs.declared.Fate.TheVariants.{Stays, Replaced}
use Rattle.salvage.specs.declared.Work.{Work}
use Rattle.salvage.specs.Salvage.{core_learnt, is_clauses}

-- ---- one record

unfoldable pub learnt_pass : Rec → Bool
learnt_pass r = core_learnt r

unfoldable pub clauses_pass : Table → Bool
clauses_pass t = is_clauses t

abbrev pub clause_found : Option Shape → Bool
clause_found None = false
clause_found (Some s) = clauses_pass s.table

unfoldable pub clause_kind : ℕ → Bool
clause_kind k = clause_found (found_at k)

-- a clause that there is room for, by the step of the reader
abbrev pub clause_in : Result Table Refusal → Rec → Fate
clause_in (Err k) r = Replaced
clause_in (Ok t) r = cond (learnt_pass r) Replaced (Stays t)

unfoldable pub clause_by : Result Table Refusal → Rec → Fate
clause_by s r = clause_in s r

-- any other record
abbrev pub other_in : Result Table Refusal → Result Fate Refusal
other_in (Err k) = Err k
other_in (Ok t) = Ok (Stays t)

unfoldable pub other_by : Result Table Refusal → Result Fate Refusal
other_by s = other_in s

unfoldable pub verdict_pass : Counts → List ℕ → Rec → Result Fate Refusal
verdict_pass c m r =
    guard (clause_kind r.kind) (other_by (check_pass c m r))
    (guard (has_room Clauses c) (Err TableFull)
    (Ok (clause_by (check_pass c m r) r)))

-- ---- one record more

abbrev pub turn_by : Result Fate Refusal → Work → ℕ → Result Work Refused
turn_by (Ok (Stays t)) w i = Ok (record { counts = more_of t w.counts; replaced = w.replaced })
turn_by (Ok Replaced) w i = Ok (record { counts = more_of Clauses w.counts; replaced = w.replaced + 1 })
turn_by (Err k) w i = Err (record { number = number_of k; place = i })

abbrev pub marks_by : Result Fate Refusal → Rec → List ℕ → List ℕ
marks_by (Ok (Stays t)) r m = noted t r m
marks_by (Ok Replaced) r m = m
marks_by (Err k) r m = m

abbrev pub list_by : Result Fate Refusal → ℕ → ℕ → List ℕ → List ℕ
list_by (Ok (Stays t)) k i ls = ls
list_by (Ok Replaced) k i ls = set ls k i
list_by (Err e) k i ls = ls

unfoldable pub turn_pass : Work → List ℕ → Rec → ℕ → Result Work Refused
turn_pass w m r i = turn_by (verdict_pass w.counts m r) w i

unfoldable pub marks_pass : Work → List ℕ → Rec → List ℕ
marks_pass w m r = marks_by (verdict_pass w.counts m r) r m

unfoldable pub list_pass : Work → List ℕ → Rec → ℕ → List ℕ → List ℕ
list_pass w m r i ls = list_by (verdict_pass w.counts m r) w.replaced i ls

-- ---- all records

-- how the pass ends, and the list of the replaced ones
pub record Judgement : Type 0 where
  pub turn : Result Work Refused
  pub list : List ℕ

abbrev pub no_work : Work
no_work = record { counts = no_counts; replaced = 0 }

abbrev pub after_turn : Result Work Refused → List ℕ → (Work → Judgement) → Judgement
after_turn (Ok w) ls f = f w
after_turn (Err e) ls f = record { turn = Err e; list = ls }

unfoldable pub judge_from : List Rec → ℕ → Work → List ℕ → List ℕ → Judgement
judge_from [] i w m ls = record { turn = Ok w; list = ls }
judge_from (r ∷ rs) i w m ls =
    after_turn (turn_pass w m r i) (list_pass w m r i ls) (λ d. judge_from rs (suc i) d (marks_pass w m r) (list_pass w m r i ls))
