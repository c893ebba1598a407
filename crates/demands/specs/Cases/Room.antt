-- More room changes nothing in an explanation that was not cut short.
use Rattle.std.specs.Prelude.{◌≡◌, Bool, true, false, ◌&&◌, ◌||◌, List, ℕ, ◌≤◌, length, leb, eqb}
use Rattle.std.proofs.Math.Option.{some}
use Rattle.std.proofs.Common.{arith, le-leb, leb-true}
use Rattle.basis.specs.Members.{split}
use Rattle.records.specs.Tables.{Tables}
use Rattle.records.specs.Read.{Reading, good, bad, read_of}
use Rattle.graph.specs.Graphs.{Outcome, drawn, refused, graph_of}
use Rattle.machine.specs.Machine.{Stop, going, done, loops, tell}
use Rattle.machine.specs.Units.{Result, TextUnit, text_of, fit}
use Rattle.machine.specs.Explained.{finish, units_for}
use Rattle.machine.specs.Edition.{edited}
use Rattle.plan.specs.Plan.{shown_of, plan_of, start_of}
use Rattle.plan.specs.Display.{solvable_of}
use Rattle.lines.specs.Lines.{lines_of}
use Rattle.explanation.specs.Explain.{refusal, is_edition, explain_edition, explain_tables, explain_shown}

module _ (a b : ℕ) (h : a ≤ b) (r : Result) (f : r.number ≡ 10 → ⊥) where
  fit_more : (k p : ℕ) (us : List TextUnit) → some (fit k p a us) ≡ some r → some (fit k p b us) ≡ some r
  fit_more k p us e =
      split (leb (length (text_of us)) a)
      (λ t.
      let l : length (text_of us) ≤ b = omega (arith, leb-true (length (text_of us)) a t) in
      rw (le-leb (length (text_of us)) b l) (rw t at e))
      (λ t. let g : some (fit k p a us) ≡ some r = e in absurd (f (ten (rw t at g))))
    where
      ten : {q : Result} → some q ≡ some r → r.number ≡ q.number
      ten z = cc

  finish_more : (place_of : ℕ → ℕ) (us : List TextUnit) (x : Stop) → finish place_of a us x ≡ some r → finish place_of b us x ≡ some r
  finish_more place_of us going e = e
  finish_more place_of us done e = fit_more 0 0 us e
  finish_more place_of us (loops n) e = fit_more 11 (place_of n) us e

  module _ (e n opt : ℕ) where
    outcome_more : (T : Tables) (o : Outcome) → elim o [ refused k p ↦ some (refusal k p) | drawn G ↦ explain_shown e n (shown_of T G) opt a ] ≡ some r
        → elim o [ refused k p ↦ some (refusal k p) | drawn G ↦ explain_shown e n (shown_of T G) opt b ] ≡ some r
    outcome_more T (refused k p) q = q
    outcome_more T (drawn G) q =
        let S = shown_of T G in
        let P = edited e (plan_of S) in
        let t = tell P n (start_of S) in
        finish_more (solvable_of S) (units_for P (lines_of S opt) t.shown) t.stop q

    reading_more : (y : Reading) → elim y [ bad k p ↦ some (refusal k p) | good T ↦ explain_tables e n T opt a ] ≡ some r
        → elim y [ bad k p ↦ some (refusal k p) | good T ↦ explain_tables e n T opt b ] ≡ some r
    reading_more (bad k p) q = q
    reading_more (good T) q = outcome_more T (graph_of T) q

    option_more : (file : List ℕ) (t : Bool)
        → elim t [ false ↦ some (refusal 12 0) | true ↦ elim (read_of file) [ bad k p ↦ some (refusal k p) | good T ↦ explain_tables e n T opt a ] ] ≡ some r
        → elim t [ false ↦ some (refusal 12 0) | true ↦ elim (read_of file) [ bad k p ↦ some (refusal k p) | good T ↦ explain_tables e n T opt b ] ] ≡ some r
    option_more file false q = q
    option_more file true q = reading_more (read_of file) q

    pub more_room : (file : List ℕ) → explain_edition e n file opt a ≡ some r → explain_edition e n file opt b ≡ some r
    more_room file q = option_more file (is_edition e && leb opt 1) q
