-- Demand 1 of the two other explaining calls, `urzulempa_explain_air` and `urzulempa_what_if_explain`: there is an answer for every input, and
-- every number but 0, 10 and 11 leaves the room as it came. That there is only one: says_air_one, says_what_if_one.
use Rattle.std.specs.Prelude.{◌≡◌, refl, ◌⊎◌, true, List, ℕ, ◌≤◌, length, leb}
use Rattle.std.proofs.Common.{sym, ap, ◌∙◌, subst, le-leb}
use Rattle.std.proofs.Math.Option.{some}
use Rattle.basis.specs.Members.{split, either}
use Rattle.records.specs.Tables.{Tables}
use Rattle.records.specs.Read.{Reading, good, bad, read_of}
use Rattle.store.specs.Graph.{Graph}
use Rattle.graph.specs.Graphs.{Outcome, drawn, refused}
use Rattle.whatif.specs.Asked.{ask_tables}
use Rattle.air.specs.declared.Profile.{Profile}
use Rattle.air.specs.declared.Profile.TheVariants.{Passed, Refused}
use Rattle.machine.specs.Units.{Result}
use Rattle.texts.specs.Wrote.{over}
use Rattle.explanation.specs.Explain.{refusal}
use Rattle.calls.specs.declared.Answer.{Answer}
use Rattle.calls.specs.Answers.{refusal_of}
use Rattle.charts.specs.Draws.{result_answer}
use Rattle.calls.specs.Says.{Says, Shows, result_by}
use Rattle.calls.specs.Air.{air_of, SaysBy, SaysAir}
use Rattle.calls.specs.WhatIf.{explain_outcome, ask_read, explain_what_if, SaysWhatIf}
use Rattle.demands.specs.Rules.{Refusing}
use Rattle.demands.specs.Laws.Shown.{shown_some, shown_number}
use Rattle.demands.specs.Laws.Told.{says_some, early_room, every_number}

none_of : {X : Type 0} (k : ℕ) → Refusing k → (k ≡ 0) ⊎ ((k ≡ 10) ⊎ (k ≡ 11)) → X
none_of k h x = either x (λ z. absurd (h.done z)) (λ y. either y (λ z. absurd (h.full z)) (λ z. absurd (h.loops z)))

-- ---- the air profile

pub air_some : (file : List ℕ) (opt : ℕ) (out : List ℕ) → (left : List ℕ) × ((r : Answer) × SaysAir file opt out left r)
air_some file opt out =
    let x = by (air_of file opt) in
    (x.0, (x.1.0, record { says = x.1.1 }))
  where
    by : (a : Profile) → (left : List ℕ) × ((r : Answer) × SaysBy a file opt out left r)
    by Passed = says_some 1 file opt out
    by (Refused k p) = (out, (refusal_of k p, (refl, refl)))

pub air_room : (file : List ℕ) (opt : ℕ) (out left : List ℕ) (r : Answer) → SaysAir file opt out left r → Refusing r.number → left ≡ out
air_room file opt out left r A h = by (air_of file opt) A.says
  where
    by : (a : Profile) → SaysBy a file opt out left r → left ≡ out
    by Passed s = either (every_number 1 file opt out left r s) (λ e. early_room 1 file opt out left r s e) (λ x. none_of r.number h x)
    by (Refused k p) s = s.1

-- inside the profile it is `urzulempa_explain`'s
pub air_says : (file : List ℕ) (opt : ℕ) (out left : List ℕ) (r : Answer) → SaysAir file opt out left r → air_of file opt ≡ Passed → Says 1 file opt out left r
air_says file opt out left r A h = subst (λ (a : Profile). SaysBy a file opt out left r) h A.says

-- ---- one more exclusion

module _ (file : List ℕ) (s q opt : ℕ) (out : List ℕ) where
  abbrev Some : Type 0
  Some = (left : List ℕ) × ((a : Answer) × SaysWhatIf file s q opt out left a)

  said : (n : ℕ) (x : Result) → explain_what_if n file s q opt (length out) ≡ some x → Some
  said n x e = (over x.text out, (result_answer x, record { text = x.text; turns = n; is = e; room = refl }))

  pub what_if_some : Some
  what_if_some =
      split (leb opt 1)
      (λ t. reading t (read_of file) refl)
      (λ t. said 0 (refusal 12 0) (rw (t, explain_what_if)))
    where
      outcome : leb opt 1 ≡ true → (T : Tables) → read_of file ≡ good T → (o : Outcome) → ask_tables T s q ≡ o → Some
      outcome t T y (refused k p) e = said 0 (refusal k p) (rw (t, explain_what_if, y, e))
      outcome t T y (drawn K) e = let x = shown_some 1 T K opt (length out) in said x.1.turns x.0 (rw (t, explain_what_if, y, e) x.1.so)

      reading : leb opt 1 ≡ true → (y : Reading) → read_of file ≡ y → Some
      reading t (bad k p) y = said 0 (refusal k p) (rw (t, explain_what_if, y))
      reading t (good T) y = outcome t T y (ask_tables T s q) refl

module _ (file : List ℕ) (s q opt : ℕ) (out left : List ℕ) (a : Answer) (W : SaysWhatIf file s q opt out left a) where
  by_refusal : (k p : ℕ) → some (refusal k p) ≡ some (result_by a W.text) → left ≡ out
  by_refusal k p e =
      let z : refusal k p ≡ result_by a W.text = cc in
      W.room ∙ ap (λ (x : Result). over x.text out) (sym z)

  -- of a question that gives a graph: what is shown of it
  pub what_if_shows : opt ≤ 1 → (T : Tables) → read_of file ≡ good T → (K : Graph) → ask_tables T s q ≡ drawn K → Shows 1 T K opt out left a
  what_if_shows h T y K g =
      record { text = W.text; is = record { turns = W.turns; so = rw (le-leb opt 1 h, explain_what_if, y, g) at W.is }; room = W.room }

  by_shown : (T : Tables) (K : Graph) → explain_outcome W.turns T (drawn K) opt (length out) ≡ some (result_by a W.text)
      → (a.number ≡ 0) ⊎ ((a.number ≡ 10) ⊎ (a.number ≡ 11))
  by_shown T K e = shown_number 1 T K opt out left a (record { text = W.text; is = record { turns = W.turns; so = e }; room = W.room })

  pub what_if_room : Refusing a.number → left ≡ out
  what_if_room h =
      split (leb opt 1)
      (λ t. reading (read_of file) (rw (t, explain_what_if) at W.is))
      (λ t. by_refusal 12 0 (rw (t, explain_what_if) at W.is))
    where
      outcome : (T : Tables) (o : Outcome) → explain_outcome W.turns T o opt (length out) ≡ some (result_by a W.text) → left ≡ out
      outcome T (refused k p) e = by_refusal k p e
      outcome T (drawn K) e = none_of a.number h (by_shown T K e)

      reading : (y : Reading) → ask_read W.turns s q opt (length out) y ≡ some (result_by a W.text) → left ≡ out
      reading (bad k p) e = by_refusal k p e
      reading (good T) e = outcome T (ask_tables T s q) e
