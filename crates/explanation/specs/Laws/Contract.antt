-- For every edition, file, option and room there is one explanation; of a file that is drawn it is what demand 3 asks.
use Rattle.std.specs.Prelude.{◌≡◌, refl, ◌⊎◌, Bool, true, false, ◌&&◌, List, ℕ, ◌<◌, ◌≤◌, leb, eqb}
use Rattle.std.proofs.Common.{sym, ◌∙◌, true≢false, arith, le-leb, leb-true}
use Rattle.std.proofs.Math.Option.{Option, some}
use Rattle.basis.specs.Members.{split}
use Rattle.records.specs.Read.{Reading, good, bad, read_of}
use Rattle.records.specs.Tables.{Tables}
use Rattle.store.specs.Graph.{Graph}
use Rattle.labels.specs.Runs.{Run}
use Rattle.groups.specs.Counts.{solvables}
use Rattle.graph.specs.Graphs.{Outcome, drawn, refused, graph_of}
use Rattle.shape.specs.Graphed.{Graphed}
use Rattle.machine.specs.Machine.{Plan}
use Rattle.machine.specs.Bound.{most}
use Rattle.machine.specs.Told.{Finishes}
use Rattle.machine.specs.Count.{groups, unmerged}
use Rattle.machine.specs.Units.{Result}
use Rattle.machine.specs.Laws.Explained as E
use Rattle.machine.specs.Explained.{Explained, explain}
use Rattle.machine.specs.Demand as D
use Rattle.machine.specs.Demand.{Demand, LeavesUnits, Full}
use Rattle.machine.specs.Edition.{edited}
use Rattle.plan.specs.Plan.{Shown, shown_of, plan_of, start_of, popped}
use Rattle.plan.specs.Display.{solvable_of}
use Rattle.plan.specs.Laws.Leads.{shown_counted, shown_most}
use Rattle.lines.specs.Lines.{lines_of}
use Rattle.explanation.specs.Explain.{refusal, is_edition, explain_edition, explain_tables}
use Rattle.explanation.specs.Laws.Solvables.{solvables_most}
use Rattle.explanation.specs.Laws.Numbers.{bad_low, refused_low}
use Rattle.explanation.specs.Contract.{ExplainedFile, Drawn}

-- ---- a file that is accepted and drawn

module _ (e : ℕ) (file : List ℕ) (opt : ℕ) (T : Tables) (G : Graph) (x : Drawn e file opt T G) where
  abbrev S : Shown
  S = shown_of T G

  -- the plan as the edition reads it
  abbrev P : Plan Run
  P = edited e (plan_of S)

  explain_drawn : (n room : ℕ) → explain_edition e n file opt room ≡ explain P (lines_of S opt) (solvable_of S) n (start_of S) room
  explain_drawn n room =
      let a : is_edition e && leb opt 1 ≡ true = asked (is_edition e) (leb opt 1) x.edition (le-leb opt 1 x.option) in
      rw (a, explain_edition, x.tables, x.graph, explain_tables)
    where
      asked : (b c : Bool) → b ≡ true → c ≡ true → b && c ≡ true
      asked b c h g = rw (h, g)

  pub drawn_file : (room : ℕ) (r : Result) → Explained P (lines_of S opt) (solvable_of S) (start_of S) room r → ExplainedFile e file opt room r
  drawn_file room r y = record { turns = y.turns; so = explain_drawn y.turns room ∙ y.so }

  pub file_drawn : (room : ℕ) (r : Result) → ExplainedFile e file opt room r → Explained P (lines_of S opt) (solvable_of S) (start_of S) room r
  file_drawn room r y = record { turns = y.turns; so = sym (explain_drawn y.turns room) ∙ y.so }

  -- ---- demand 3

  -- "the bound g + (g + 1) × u": with the groups that the edition reports and the packages that it doesn't, among the solvable nodes
  abbrev pub the_bound : ℕ
  the_bound = most P (groups P (solvables G)) (unmerged P (solvables G))

  -- "at most 2,079"
  pub bound_most : Graphed T G → the_bound ≤ 2079
  bound_most g = shown_most T G (eqb e 2) (solvables_most T G g)

  pub file_demand : Demand P (lines_of S opt) (solvable_of S) (popped S 0) the_bound
  file_demand = D.demand P (lines_of S opt) (solvable_of S) (popped S 0) (groups P (solvables G)) (unmerged P (solvables G)) (shown_counted T G (eqb e 2))

  drawn_answers : (room : ℕ) → (r : Result) × ExplainedFile e file opt room r
  drawn_answers room =
      let y = E.answers P (lines_of S opt) (solvable_of S) (groups P (solvables G)) (unmerged P (solvables G)) (shown_counted T G (eqb e 2)) (popped S 0) room in
      (y.0, drawn_file room y.0 y.1)

  module _ (room : ℕ) (r : Result) (f : ExplainedFile e file opt room r) where
    -- "depth is the definition's", and no deeper than the bound
    pub file_depth : r.depth ≤ the_bound
    file_depth = file_demand.depth room r (file_drawn room r f)

    -- with room for all of it: 0 where the edition's rules finish, 11 exactly where no number of steps finishes them
    pub file_whole : file_demand.size ≤ room
        → ((r.number ≡ 0) × (r.place ≡ 0) × Finishes P (start_of S)) ⊎ ((r.number ≡ 11) × (Finishes P (start_of S) → ⊥))
    file_whole h = file_demand.whole room r (file_drawn room r f) h

    pub file_done : r.number ≡ 0 → Finishes P (start_of S)
    file_done h = D.done_if P (lines_of S opt) (solvable_of S) (popped S 0) the_bound file_demand room r (file_drawn room r f) h

    pub file_never : r.number ≡ 11 → Finishes P (start_of S) → ⊥
    file_never h = D.never_if P (lines_of S opt) (solvable_of S) (popped S 0) the_bound file_demand room r (file_drawn room r f) h

    -- 10 exactly where there is no room for all of it
    pub file_less : room < file_demand.size → r.number ≡ 10
    file_less h = file_demand.less room r (file_drawn room r f) h

    -- "What 10 and 11 leave is exactly the first units of the text that the Rust's rules give", or the edition's
    pub file_leaves : LeavesUnits P (lines_of S opt) (start_of S) room r
    file_leaves = D.leaves P (lines_of S opt) (solvable_of S) (start_of S) room r (file_drawn room r f)

    pub file_full : r.number ≡ 10 → Full P (lines_of S opt) (start_of S) room r file_leaves
    unfolding file_leaves
    file_full h = D.full P (lines_of S opt) (solvable_of S) (start_of S) room r (file_drawn room r f) h

-- ---- every file: two results that the contract allows are equal, and there is one

by_reading : {X : Type 0} (r : Reading) → ((k p : ℕ) → r ≡ bad k p → X) → ((T : Tables) → r ≡ good T → X) → X
by_reading (bad k p) f g = f k p refl
by_reading (good T) f g = g T refl

by_outcome : {X : Type 0} (o : Outcome) → ((k p : ℕ) → o ≡ refused k p → X) → ((G : Graph) → o ≡ drawn G → X) → X
by_outcome (refused k p) f g = f k p refl
by_outcome (drawn G) f g = g G refl

asked_both : (b c : Bool) → b && c ≡ true → (b ≡ true) × (c ≡ true)
asked_both true c h = (refl, h)
asked_both false c h = absurd (true≢false (sym h))

-- an edition, a file and an option are refused whatever the room, by a number that is not 11, or drawn
pub by_file : {X : Type 0} (e : ℕ) (file : List ℕ) (opt : ℕ) → ((r : Result) → (r.number ≡ 11 → ⊥) → ((n room : ℕ) → explain_edition e n file opt room ≡ some r)
    → X)
    → ((T : Tables) (G : Graph) → Drawn e file opt T G → X) → X
by_file e file opt f g =
    split (is_edition e && leb opt 1)
    (λ o. let b = asked_both (is_edition e) (leb opt 1) o in
    by_reading (read_of file)
    (λ k p y. f (refusal k p) (λ z. let l = bad_low file k p y in omega arith) (λ n room. rw (o, explain_edition, y)))
    (λ T t. by_outcome (graph_of T)
    (λ k p y. f (refusal k p) (λ z. let l = refused_low T k p y in omega arith) (λ n room. rw (o, explain_edition, t, y, explain_tables)))
    (λ G d. g T G (record { edition = b.0; option = leb-true opt 1 b.1; tables = t; graph = d }))))
    (λ o. f (refusal 12 0) (λ z. omega arith) (λ n room. rw (o, explain_edition)))

pub file_unique : (e : ℕ) (file : List ℕ) (opt room : ℕ) (r r' : Result) → ExplainedFile e file opt room r → ExplainedFile e file opt room r' → r ≡ r'
file_unique e file opt room r r' x y =
    by_file e file opt
    (λ q u h. same (h x.turns room) x.so ∙ sym (same (h y.turns room) y.so))
    (λ T G d. let S : Shown = shown_of T G in
    E.unique (edited e (plan_of S)) (lines_of S opt) (solvable_of S) (start_of S) room r r' (file_drawn e file opt T G d room r x)
    (file_drawn e file opt T G d room r' y))
  where
    same : {a b : Result} {c : Option Result} → c ≡ some a → c ≡ some b → b ≡ a
    same x y = cc

pub file_answers : (e : ℕ) (file : List ℕ) (opt room : ℕ) → (r : Result) × ExplainedFile e file opt room r
file_answers e file opt room =
    by_file e file opt
    (λ q u h. (q, record { turns = 0; so = h 0 room }))
    (λ T G d. drawn_answers e file opt T G d room)
