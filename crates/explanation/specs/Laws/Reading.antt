-- The walk over a plan that is read by an edition's rules gives the file's answer in that edition.
use Rattle.std.specs.Prelude.{◌≡◌, Bool, true, List, ℕ, ◌≤◌, ◌<◌, eqb}
use Rattle.std.proofs.Common.{sym, ◌∙◌, arith}
use Rattle.std.proofs.Math.Path.{ap}
use Rattle.std.proofs.Math.ListN.{length}
use Rattle.basis.specs.Members.{In}
use Rattle.records.specs.Tables.{Tables}
use Rattle.store.specs.Graph.{Graph, node_at, is_solvable}
use Rattle.labels.specs.Runs.{Run}
use Rattle.groups.specs.Counts.{solvables}
use Rattle.shape.specs.Graphed.{Graphed}
use Rattle.machine.specs.Machine.{Plan, Entry, entry, requirement, candidate}
use Rattle.machine.specs.Bound.{Counted}
use Rattle.machine.specs.Count.{groups, unmerged}
use Rattle.machine.specs.Units.{Result}
use Rattle.machine.specs.Explained.{Explained}
use Rattle.machine.specs.Edition.{reading, edited}
use Rattle.machine.proofs.Edition.{edited_most}
use Rattle.plan.specs.Plan.{Shown, shown_of, plan_of, start_of, popped, merged_shown, lead_shown}
use Rattle.plan.specs.Display.{solvable_of}
use Rattle.plan.specs.Fields.{plan_in, start_in, runs_in, kids_in, solvable_in}
use Rattle.plan.specs.Planned.{Planned, RunIs}
use Rattle.plan.specs.Like.{Each, SameEntry, same_run, same_kid, explained_same}
use Rattle.plan.specs.Counting.{grouped}
use Rattle.plan.specs.Laws.Marking.{Reads}
use Rattle.plan.specs.Laws.Leads.{alone, edition_counted}
use Rattle.plan.specs.Laws.Reading.{rows_same, kids_same, sets_same, reason_same, size_same, members_same, requirement_same, wording_same, read_alike}
use Rattle.lines.specs.Lines.{top_of, lines_of}
use Rattle.plan.specs.Texts.{package_in}
use Rattle.plan.specs.Laws.Texts.{package_alike}
use Rattle.lines.specs.Said.{lines_in, package_all, package_said}
use Rattle.lines.specs.Same.{run_same, kid_same, package_same}
use Rattle.explanation.specs.Walk.{Ready, Answered}
use Rattle.explanation.specs.declared.walk.WalkAnswer.{WalkAnswer}
use Rattle.explanation.specs.Contract.{ExplainedFile, Drawn}
use Rattle.explanation.specs.Laws.Contract.{drawn_file}
use Rattle.explanation.specs.Laws.Solvables.{solvables_most, some_node}

-- ---- the lines that are read from q are p's

module _ (every : Bool) (p q k : List ℕ) (m : Reads every p q) (T : Tables) where
  package_read : (n : ℕ) → package_in T q n ≡ package_in T p n
  package_read n = package_alike T p q n (members_same every p q k m n) m.solvable

  run_read : (top : Bool) (r : ℕ) (ms : List Bool) (b : List ℕ)
      → lines_in T q k top (entry (requirement r) ms b) ≡ lines_in T p k top (entry (requirement r) ms b)
  unfolding lines_in
  run_read top r ms b = rw (wording_same every p q k m r, requirement_same every p q k m r)

  kid_read : (top : Bool) (n : ℕ) (ms : List Bool) (b : List ℕ)
      → lines_in T q k top (entry (candidate n) ms b) ≡ lines_in T p k top (entry (candidate n) ms b)
  unfolding lines_in package_all package_said
  kid_read top n ms b = rw (package_read n, m.tag n, reason_same every p q k m n, sets_same every p q k m n)

-- ---- the packed plan of a drawn graph

module _ (T : Tables) (G : Graph) (g : Graphed T G) (p q k : List ℕ) (z : Planned (shown_of T G) p k) (every : Bool) (m : Reads every p q) where
  abbrev S : Shown
  S = shown_of T G

  abbrev Node : ℕ → Type 0
  Node n = n < length S.graph.nodes

  abbrev O : Plan ℕ
  O = plan_in p k

  few_nodes : length S.graph.nodes ≤ 128
  unfolding shown_of
  few_nodes = g.nodes_most

  plan_merged : (n : ℕ) → n < length G.nodes → O.merged n ≡ merged_shown (shown_of T G) n
  unfolding plan_in shown_of
  plan_merged n h = (z.nodes n h).merged

  plan_lead : (n : ℕ) → n < length G.nodes → O.lead n ≡ lead_shown (shown_of T G) n
  unfolding plan_in shown_of
  plan_lead n h = (z.nodes n h).lead

  plan_kids : (r n : ℕ) → In n (O.kids r) → (n < length G.nodes) × (is_solvable (node_at G n) ≡ true)
  unfolding plan_in shown_of
  plan_kids r n i = z.kids r n i

  -- those whom the edition reports, and those whom it doesn't
  abbrev Led : List ℕ
  Led = groups (reading every O) (solvables G)

  abbrev Free : List ℕ
  Free = unmerged (reading every O) (solvables G)

  read_counted : (r n : ℕ) → In n ((plan_in q k).kids r) → Counted (plan_in q k) Led Free n
  unfolding plan_in
  read_counted r n i =
      let j : In n (kids_in p k r) = rw (kids_same every p q k m r) at i in
      let c = edition_counted T G O plan_merged plan_lead plan_kids every r n j in
      let e = m.merged n (omega (arith, g.nodes_most, (plan_kids r n j).0)) in
      (λ t. rw (m.lead n) (c.0 (sym e ∙ t)), λ t. c.1 (sym e ∙ t))

  -- the walk over it can begin
  pub read_ready : Ready T q k
  unfolding plan_in shown_of
  read_ready =
      record {
        sized = λ r n i. let x = z.kids r n (rw (kids_same every p q k m r) at i) in
            size_same every p q k m n ∙ (z.nodes n x.0).size ∙ ap length (sym (package_read every p q k m T n ∙ package_same T G p k z n x.0));
        G = Led;
        U = Free;
        counted = read_counted;
        small = edited_most O (solvables G) (grouped T G O plan_merged plan_lead) (alone T G O plan_merged plan_lead plan_kids) every (solvables_most T G g);
      }

  -- ---- the walk's answer is the file's

  lines_read : (opt : ℕ) (e : Entry ℕ) (d : Entry Run) → SameEntry Node (RunIs S p k) e d → lines_in T q k (top_of opt) e ≡ lines_of S opt d
  unfolding shown_of
  lines_read opt e d (same_run r s ms b i a) = run_read every p q k m T (top_of opt) r ms b ∙ run_same T G p k opt r s ms b i
  lines_read opt e d (same_kid n ms b h a) = kid_read every p q k m T (top_of opt) n ms b ∙ kid_same T G p k z opt n ms b h

  -- what is shown of the graph, whether or not a file draws it
  pub read_shown : (e : ℕ) → eqb e 2 ≡ every → (opt : ℕ) (out left : List ℕ) (a : WalkAnswer) → (w : Answered T q k (top_of opt) out left a)
      → Explained (edited e (plan_of (shown_of T G))) (lines_of (shown_of T G) opt) (solvable_of (shown_of T G)) (start_of (shown_of T G)) (length out)
      (record { number = a.number; place = a.place; bytes = a.bytes; units = a.units; depth = a.depth; text = w.text })
  unfolding shown_of start_in
  read_shown e v opt out left a w =
      let r : Result = record { number = a.number; place = a.place; bytes = a.bytes; units = a.units; depth = a.depth; text = w.text } in
      let runs : Each (RunIs S p k) (runs_in q 0) (popped S 0) = rw (rows_same every p q k m 0) (z.nodes 0 (some_node T G g)).runs in
      rw v
      (explained_same (plan_in q k) (reading every (plan_of S)) Node (RunIs S p k) (read_alike every p q k m S z few_nodes)
      (lines_in T q k (top_of opt)) (lines_of S opt) (lines_read opt)
      (solvable_in q) (solvable_of S) (λ n l. m.solvable n ∙ (z.nodes n l).solvable) (runs_in q 0) (popped S 0) runs (length out) r w.is)

  pub read_file : (e : ℕ) → eqb e 2 ≡ every → (file : List ℕ) (opt : ℕ) → Drawn e file opt T G
      → (out left : List ℕ) (a : WalkAnswer) → (w : Answered T q k (top_of opt) out left a)
      → ExplainedFile e file opt (length out)
      (record { number = a.number; place = a.place; bytes = a.bytes; units = a.units; depth = a.depth; text = w.text })
  read_file e v file opt x out left a w =
      drawn_file e file opt T G x (length out)
      (record { number = a.number; place = a.place; bytes = a.bytes; units = a.units; depth = a.depth; text = w.text }) (read_shown e v opt out left a w)
