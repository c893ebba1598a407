-- The ways through a call: refused by 1 to 9 or 12 whatever the room, or the file is drawn.
use Rattle.std.specs.Prelude.{◌≡◌, refl, Bool, true, false, ◌&&◌, List, ℕ, ◌≤◌, length, drop, leb}
use Rattle.std.proofs.Common.{sym, ap, ◌∙◌, inl, inr, true≢false, zero-le, arith, length-append, length-drop, leb-true}
use Rattle.std.proofs.Math.Option.{some}
use Rattle.std.proofs.Math.Seq.{drop-append_seam}
use Rattle.basis.specs.Members.{split}
use Rattle.records.specs.Tables.{Tables}
use Rattle.records.specs.Read.{Reading, good, bad, read_of}
use Rattle.store.specs.Graph.{Graph}
use Rattle.graph.specs.Graphs.{Outcome, drawn, refused, graph_of}
use Rattle.texts.specs.Wrote.{over}
use Rattle.explanation.specs.Explain.{refusal, is_edition, explain_edition, explain_tables}
use Rattle.explanation.specs.Contract.{Drawn}
use Rattle.explanation.specs.Laws.Numbers.{bad_low, refused_low}
use Rattle.calls.specs.declared.Answer.{Answer}
use Rattle.calls.specs.Answers.{refusal_of, check_of}
use Rattle.demands.specs.Rules.{Early, Passed}
use Rattle.demands.specs.Laws.Numbers.{bad_some, refused_high}

pub by_reading : {X : Type 0} (r : Reading) → ((k p : ℕ) → r ≡ bad k p → X) → ((T : Tables) → r ≡ good T → X) → X
by_reading (bad k p) f g = f k p refl
by_reading (good T) f g = g T refl

pub by_outcome : {X : Type 0} (o : Outcome) → ((k p : ℕ) → o ≡ refused k p → X) → ((G : Graph) → o ≡ drawn G → X) → X
by_outcome (refused k p) f g = f k p refl
by_outcome (drawn G) f g = g G refl

-- 1 to 6, and 7 to 9
pub bad_early : (file : List ℕ) (k p : ℕ) → read_of file ≡ bad k p → (1 ≤ k) × (k ≤ 9)
bad_early file k p y = let l = bad_low file k p y in (bad_some file k p y, omega arith)

pub refused_early : (T : Tables) (k p : ℕ) → graph_of T ≡ refused k p → (1 ≤ k) × (k ≤ 9)
refused_early T k p y = let l = refused_high T k p y in (omega arith, refused_low T k p y)

-- a file is refused by one of 1 to 9, or passes
pub by_check : {X : Type 0} (file : List ℕ) → ((k p : ℕ) → (1 ≤ k) × (k ≤ 9) → check_of file ≡ refusal_of k p → X)
    → (Passed file → check_of file ≡ refusal_of 0 0 → X) → X
unfolding check_of
by_check file f g =
    by_reading (read_of file)
    (λ k p y. f k p (bad_early file k p y) (rw y))
    (λ T t. by_outcome (graph_of T)
    (λ k p y. f k p (refused_early T k p y) (rw (t, y)))
    (λ G d. g (record { tables = T; graph = G; reads = t; draws = d }) (rw (t, d))))

-- `urzulempa_check` answers 0 exactly if the file passes, else one of 1 to 9
pub check_passed : (file : List ℕ) → (check_of file).number ≡ 0 → Passed file
check_passed file h =
    by_check file
    (λ k p l e. let z : k ≡ 0 = sym (ap (λ (a : Answer). a.number) e) ∙ h in let y = l.0 in let x : ⊥ = omega arith in absurd x)
    (λ p e. p)

pub passed_check : (file : List ℕ) → Passed file → check_of file ≡ refusal_of 0 0
unfolding check_of
passed_check file p = rw (p.reads, p.draws)

pub check_number : (file : List ℕ) → (check_of file).number ≤ 9
check_number file = by_check file (λ k p l e. rw e l.1) (λ p e. rw e zero-le)

-- ---- an explaining call

asked_both : (b c : Bool) → b && c ≡ true → (b ≡ true) × (c ≡ true)
asked_both true c h = (refl, h)
asked_both false c h = absurd (true≢false (sym h))

pub by_call : {X : Type 0} (e : ℕ) (file : List ℕ) (opt : ℕ)
    → ((k p : ℕ) → Early k → ((n room : ℕ) → explain_edition e n file opt room ≡ some (refusal k p)) → X)
    → ((T : Tables) (G : Graph) → Drawn e file opt T G → X) → X
by_call e file opt f g =
    split (is_edition e && leb opt 1)
    (λ o. let b = asked_both (is_edition e) (leb opt 1) o in
    by_reading (read_of file)
    (λ k p y. f k p (inl (bad_early file k p y)) (λ n room. rw (o, explain_edition, y)))
    (λ T t. by_outcome (graph_of T)
    (λ k p y. f k p (inl (refused_early T k p y)) (λ n room. rw (o, explain_edition, t, y, explain_tables)))
    (λ G d. g T G (record { edition = b.0; option = leb-true opt 1 b.1; tables = t; graph = d }))))
    (λ o. f 12 0 (inr refl) (λ n room. rw (o, explain_edition)))

pub passed_drawn : (e : ℕ) → is_edition e ≡ true → (file : List ℕ) (opt : ℕ) (p : Passed file) → opt ≤ 1 → Drawn e file opt p.tables p.graph
passed_drawn e i file opt p h = record { edition = i; option = h; tables = p.reads; graph = p.draws }

abbrev pub drawn_passed : (e : ℕ) (file : List ℕ) (opt : ℕ) (T : Tables) (G : Graph) → Drawn e file opt T G → Passed file
drawn_passed e file opt T G d = record { tables = T; graph = G; reads = d.tables; draws = d.graph }

-- ---- a text over a room

pub over_long : (t out : List ℕ) → length t ≤ length out → length (over t out) ≡ length out
over_long t out h = rw (length-append, length-drop) (omega arith)

pub over_behind : (t out : List ℕ) → drop (length t) (over t out) ≡ drop (length t) out
over_behind t out = drop-append_seam t (drop (length t) out)
