-- What the contract of an explaining call allows, for every edition, file, option and room.
use Rattle.std.specs.Prelude.{◌≡◌, refl, ◌⊎◌, Bool, false, ◌&&◌, List, ℕ, ◌≤◌, ◌<◌, length, drop}
use Rattle.std.proofs.Common.{sym, ap, ◌∙◌, inl, inr, arith}
use Rattle.std.proofs.Math.Bool.{true}
use Rattle.std.proofs.Math.Option.{Option, some}
use Rattle.std.proofs.Math.Dec.{leb}
use borrow.Author.Tests.{le-leb, lt-leb}
use Rattle.basis.specs.Members.{either}
use Rattle.records.specs.Tables.{Tables}
use Rattle.records.specs.Read.{read_of}
use Rattle.store.specs.Graph.{Graph}
use Rattle.graph.specs.Graphs.{graph_of}
use Rattle.machine.specs.Units.{Result}
use Rattle.texts.specs.Wrote.{over}
use Rattle.explanation.specs.Explain.{refusal, is_edition, explain_edition, explain_tables}
use Rattle.explanation.specs.Contract.{Drawn}
use Rattle.explanation.specs.Laws.Contract.{file_answers, file_drawn}
use Rattle.calls.specs.declared.Answer.{Answer}
use Rattle.calls.specs.Answers.{refusal_of, check_of}
use Rattle.charts.specs.Draws.{result_answer}
use Rattle.calls.specs.Says.{Says, Shows, result_by}
use Rattle.demands.specs.Rules.{Early, Passed, WholeUnits, NoRoom, Looping, OthersStay}
use Rattle.demands.specs.Laws.Calls.{by_reading, by_outcome, by_call, drawn_passed}
use Rattle.demands.specs.Laws.Shown.{shown_units, shown_others, shown_number, ten_full, eleven_loops}

same : {a b : Result} {c : Option Result} → c ≡ some a → c ≡ some b → b ≡ a
same x y = cc

-- "every input has an answer"
pub says_some : (e : ℕ) (file : List ℕ) (opt : ℕ) (out : List ℕ) → (left : List ℕ) × ((r : Answer) × Says e file opt out left r)
says_some e file opt out =
    let x = file_answers e file opt (length out) in
    (over x.0.text out, (result_answer x.0, record { text = x.0.text; is = x.1; room = refl }))

module _ (e : ℕ) (file : List ℕ) (opt : ℕ) (out left : List ℕ) (r : Answer) (S : Says e file opt out left r) where
  refused_is : (k p : ℕ) → ((n room : ℕ) → explain_edition e n file opt room ≡ some (refusal k p)) → result_by r S.text ≡ refusal k p
  refused_is k p h = same (h S.is.turns (length out)) S.is.so

  -- a refusal writes nothing
  pub refused_answer : (k p : ℕ) → ((n room : ℕ) → explain_edition e n file opt room ≡ some (refusal k p)) → (r ≡ refusal_of k p) × (left ≡ out)
  refused_answer k p h =
      let q = refused_is k p h in
      (ap result_answer q, S.room ∙ ap (λ (x : Result). over x.text out) q)

  -- of a file that is drawn: what the edition shows of its graph
  pub drawn_shows : (T : Tables) (G : Graph) → Drawn e file opt T G → Shows e T G opt out left r
  drawn_shows T G d = record { text = S.text; is = file_drawn e file opt T G d (length out) (result_by r S.text) S.is; room = S.room }

  drawn_number : (T : Tables) (G : Graph) → Drawn e file opt T G → (r.number ≡ 0) ⊎ ((r.number ≡ 10) ⊎ (r.number ≡ 11))
  drawn_number T G d = shown_number e T G opt out left r (drawn_shows T G d)

  late : (k : ℕ) → (k ≡ 0) ⊎ ((k ≡ 10) ⊎ (k ≡ 11)) → Early k → ⊥
  late k d (inl x) = let a = x.0 in let b = x.1 in either d (λ z. omega arith) (λ y. either y (λ z. omega arith) (λ z. omega arith))
  late k d (inr x) = either d (λ z. omega arith) (λ y. either y (λ z. omega arith) (λ z. omega arith))

  -- "1 to 9 and 12 leave the room as it came"
  pub early_room : Early r.number → left ≡ out
  early_room h = by_call e file opt (λ k p y g. (refused_answer k p g).1) (λ T G d. absurd (late r.number (drawn_number T G d) h))

  -- "the last three are 0 for 1 to 9 and 12"
  pub early_answer : Early r.number → r ≡ refusal_of r.number r.place
  early_answer h =
      by_call e file opt
      (λ k p y g. let q = (refused_answer k p g).0 in rw q)
      (λ T G d. absurd (late r.number (drawn_number T G d) h))

  -- 0, 10 and 11 leave whole units
  pub late_units : (Early r.number → ⊥) → (p : Passed file) × WholeUnits e p.tables p.graph opt out left r
  late_units h =
      by_call e file opt
      (λ k p y g. absurd (h (rw (refused_answer k p g).0 y)))
      (λ T G d. (drawn_passed e file opt T G d, shown_units e T G opt out left r (drawn_shows T G d)))

  -- every number
  pub every_number : Early r.number ⊎ ((r.number ≡ 0) ⊎ ((r.number ≡ 10) ⊎ (r.number ≡ 11)))
  every_number =
      by_call e file opt
      (λ k p y g. inl (rw (refused_answer k p g).0 y))
      (λ T G d. inr (drawn_number T G d))

  -- "Done or refused, lent bytes past those written stay"
  pub others_stay : OthersStay out left r
  others_stay =
      by_call e file opt
      (λ k p y g. let q = (refused_answer k p g).1 in record { as_long = ap length q; behind = ap (λ (l : List ℕ). drop r.bytes l) q })
      (λ T G d. shown_others e T G opt out left r (drawn_shows T G d))

  -- "12 is tested first"
  pub option_twelve : 1 < opt → r ≡ refusal_of 12 0
  option_twelve h = (refused_answer 12 0 (λ n room. rw (neither (is_edition e) (leb opt 1) (lt-leb opt 1 h), explain_edition))).0
    where
      neither : (b c : Bool) → c ≡ false → b && c ≡ false
      neither true c q = q
      neither false c q = refl

  pub edition_twelve : is_edition e ≡ false → r ≡ refusal_of 12 0
  edition_twelve h = let o : is_edition e && leb opt 1 ≡ false = rw h in (refused_answer 12 0 (λ n room. rw (o, explain_edition))).0

  -- then 1 to 9, as `urzulempa_check` gives them
  pub as_checked : is_edition e ≡ true → opt ≤ 1 → ((check_of file).number ≡ 0 → ⊥) → r ≡ check_of file
  unfolding check_of
  as_checked i h f =
      let o : is_edition e && leb opt 1 ≡ true = rw (i, le-leb opt 1 h) in
      by_reading (read_of file)
      (λ k p y. (refused_answer k p (λ n room. rw (o, explain_edition, y))).0 ∙ rw y)
      (λ T t. by_outcome (graph_of T)
      (λ k p y. (refused_answer k p (λ n room. rw (o, explain_edition, t, y, explain_tables))).0 ∙ rw (t, y))
      (λ G g. absurd (f (rw (t, g)))))

-- ---- 10 and 11 of any file

module _ (e : ℕ) (file : List ℕ) (opt : ℕ) (out left : List ℕ) (r : Answer) (S : Says e file opt out left r) where
  not_early : (k : ℕ) → Early k → (k ≡ 10) ⊎ (k ≡ 11) → ⊥
  not_early k (inl y) x = let a = y.1 in either x (λ z. omega arith) (λ z. omega arith)
  not_early k (inr y) x = either x (λ z. omega arith) (λ z. omega arith)

  pub ten_units : r.number ≡ 10
      → (p : Passed file) × ((w : WholeUnits e p.tables p.graph opt out left r) × NoRoom e p.tables p.graph opt out left r w)
  ten_units q =
      by_call e file opt
      (λ k p y g. let z : r.number ≡ k = ap (λ (a : Answer). a.number) (refused_answer e file opt out left r S k p g).0 in
      absurd (not_early k y (inl (sym z ∙ q))))
      (λ T G d. let x = drawn_shows e file opt out left r S T G d in
      (drawn_passed e file opt T G d, (shown_units e T G opt out left r x, ten_full e T G opt out left r x q)))

  pub eleven_units : r.number ≡ 11 → (p : Passed file) × Looping e p.tables p.graph r
  eleven_units q =
      by_call e file opt
      (λ k p y g. let z : r.number ≡ k = ap (λ (a : Answer). a.number) (refused_answer e file opt out left r S k p g).0 in
      absurd (not_early k y (inr (sym z ∙ q))))
      (λ T G d. (drawn_passed e file opt T G d, eleven_loops e T G opt out left r (drawn_shows e file opt out left r S T G d) q))
