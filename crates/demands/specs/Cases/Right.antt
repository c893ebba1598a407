-- The table of document 01's cases is right: one statement about the contracts of the public calls, for every row.
use Rattle.std.specs.Prelude.{◌≡◌, refl, Bool, true, cond, not, List, [], ◌∷◌, ◌++◌, ℕ, ◌≤◌, length, drop, leb, eqb}
use Rattle.std.proofs.Math.Path.{ap}
use Rattle.std.proofs.Common.{◌∙◌}
use Rattle.std.proofs.lemmas.Bool.{false≢true}
use Rattle.std.proofs.Math.Option.{Option, some}
use borrow.Author.Tests.{leb-true, le-ltb, eq-eqb}
use Rattle.basis.specs.Members.{All, all_map}
use Rattle.records.specs.Shapes.{cut, shape_of}
use Rattle.records.specs.Tables.{Tables}
use Rattle.records.specs.Read.{Reading, good, bad, read_from, read_of}
use Rattle.graph.specs.Graphs.{Outcome, drawn, refused, graph_of}
use Rattle.machine.specs.Units.{Result}
use Rattle.texts.specs.Wrote.{over}
use Rattle.texts.specs.Indent.{indent}
use Rattle.plan.specs.Plan.{shown_of}
use Rattle.explanation.specs.Explain.{explain_file}
use Rattle.lists.specs.declared.entries.NodeEntry.{NodeEntry}
use Rattle.lists.specs.Nodes.{Nodes, entered, denied, nodes_drawn, nodes_read, nodes_of, listed_by}
use Rattle.calls.specs.declared.Answer.{Answer}
use Rattle.calls.specs.Answers.{refusal_of, outcome_answer, check_by, check_of}
use Rattle.calls.specs.Nodes.{nodes_by, nodes_answer, nodes_left, list_over}
use Rattle.calls.specs.Says.{Says, result_by}
use Rattle.calls.specs.Laws.Says.{says_one}
use Rattle.demands.specs.Cases.Bound.{bound_of}
use Rattle.demands.specs.Cases.Room.{more_room}
use Rattle.demands.specs.Cases.Table.{Case, Rooms, at_least, exactly, shortest, Fits, table, replay_nodes}
use Rattle.demands.specs.Cases.Table.{p1, p2, p3_core, p3_outside, p4_most, p4_over, p5, p5_unresolved, p6, p7, p8, p9, p10, p11, indented, deck_second, two_runs}

-- ---- what is said of a row

-- `urzulempa_check` answers 0, or what the node list is refused with
abbrev pub check_as : Nodes → Answer
check_as (entered es) = refusal_of 0 0
check_as (denied k p) = refusal_of k p

pub record Right (c : Case) : Type 0 where
  -- `urzulempa_explain`: all that its contract allows in a room of the row is the row's answer, and the row's text before the room's old bytes
  pub says : (out left : List ℕ) (r : Answer) → Fits c.rooms (length out) → Says 1 c.file c.option out left r
      → (r ≡ c.answer) × (left ≡ over c.text out)
  -- and that is allowed
  pub said : (out : List ℕ) → Fits c.rooms (length out) → Says 1 c.file c.option out (over c.text out) c.answer
  -- `urzulempa_check`
  pub checks : check_of c.file ≡ check_as c.nodes
  -- `urzulempa_nodes`, for every list that is lent: the row's entries, 10 where they do not fit, or the row's refusal
  pub lists : (l : List NodeEntry)
      → (nodes_answer c.file (length l) ≡ nodes_by c.nodes (length l)) × (nodes_left c.file l ≡ list_over (listed_by c.nodes (length l)) l)
  -- demand 3: the bound, and the depth within it
  pub bounds : bound_of c.file ≡ c.bound
  pub deep : c.answer.depth ≤ c.bound

-- ---- what is computed of a row

-- 100,000 turns of the machine are more than any row takes
unfoldable pub told : List ℕ → ℕ → ℕ → Option Result
unfolding cut shape_of read_from read_of graph_of shown_of indent
told file opt room = explain_file 100000 file opt room

-- in longer rooms the same: not cut short
abbrev pub uncut : Rooms → ℕ → Bool
uncut (at_least n) k = not (eqb k 10)
uncut (exactly n) k = true

pub record Computed (c : Case) : Type 0 where
  pub tells : told c.file c.option (shortest c.rooms) ≡ some (result_by c.answer c.text)
  pub longer : uncut c.rooms c.answer.number ≡ true
  pub listed : nodes_of c.file ≡ c.nodes
  pub bounded : bound_of c.file ≡ c.bound
  pub within : leb c.answer.depth c.bound ≡ true

row_p1 : Computed p1
unfolding told bound_of nodes_of cut shape_of read_from
row_p1 = record { tells = refl; longer = refl; listed = refl; bounded = refl; within = refl }

row_p2 : Computed p2
unfolding told bound_of nodes_of cut shape_of read_from
row_p2 = record { tells = refl; longer = refl; listed = refl; bounded = refl; within = refl }

row_p3_core : Computed p3_core
unfolding told bound_of nodes_of cut shape_of read_from
row_p3_core = record { tells = refl; longer = refl; listed = refl; bounded = refl; within = refl }

row_p3_outside : Computed p3_outside
unfolding told bound_of nodes_of cut shape_of read_from
row_p3_outside = record { tells = refl; longer = refl; listed = refl; bounded = refl; within = refl }

row_p4_most : Computed p4_most
unfolding told bound_of nodes_of cut shape_of read_from
row_p4_most = record { tells = refl; longer = refl; listed = refl; bounded = refl; within = refl }

row_p4_over : Computed p4_over
unfolding told bound_of nodes_of cut shape_of read_from
row_p4_over = record { tells = refl; longer = refl; listed = refl; bounded = refl; within = refl }

row_p5 : Computed p5
unfolding told bound_of nodes_of cut shape_of read_from
row_p5 = record { tells = refl; longer = refl; listed = refl; bounded = refl; within = refl }

row_p5_unresolved : Computed p5_unresolved
unfolding told bound_of nodes_of cut shape_of read_from
row_p5_unresolved = record { tells = refl; longer = refl; listed = refl; bounded = refl; within = refl }

row_p6 : Computed p6
unfolding told bound_of nodes_of cut shape_of read_from
row_p6 = record { tells = refl; longer = refl; listed = refl; bounded = refl; within = refl }

row_p7 : Computed p7
unfolding told bound_of nodes_of cut shape_of read_from
row_p7 = record { tells = refl; longer = refl; listed = refl; bounded = refl; within = refl }

row_p8 : Computed p8
unfolding told bound_of nodes_of cut shape_of read_from
row_p8 = record { tells = refl; longer = refl; listed = refl; bounded = refl; within = refl }

row_p9 : Computed p9
unfolding told bound_of nodes_of cut shape_of read_from
row_p9 = record { tells = refl; longer = refl; listed = refl; bounded = refl; within = refl }

row_p10 : Computed p10
unfolding told bound_of nodes_of cut shape_of read_from
row_p10 = record { tells = refl; longer = refl; listed = refl; bounded = refl; within = refl }

row_p11 : Computed p11
unfolding told bound_of nodes_of cut shape_of read_from
row_p11 = record { tells = refl; longer = refl; listed = refl; bounded = refl; within = refl }

row_indented : Computed indented
unfolding told bound_of nodes_of cut shape_of read_from
row_indented = record { tells = refl; longer = refl; listed = refl; bounded = refl; within = refl }

row_deck_second : Computed deck_second
unfolding told bound_of nodes_of cut shape_of read_from
row_deck_second = record { tells = refl; longer = refl; listed = refl; bounded = refl; within = refl }

row_two_runs : Computed two_runs
unfolding told bound_of nodes_of cut shape_of read_from
row_two_runs = record { tells = refl; longer = refl; listed = refl; bounded = refl; within = refl }

-- ---- from what is computed to what is said

pub uncut_not : (k : ℕ) → not (eqb k 10) ≡ true → k ≡ 10 → ⊥
uncut_not k h q = false≢true (rw (eq-eqb k 10 q) at h)

fits_room : (file : List ℕ) (opt : ℕ) (r : Result) (R : Rooms) → told file opt (shortest R) ≡ some r → uncut R r.number ≡ true
    → (room : ℕ) → Fits R room → explain_file 100000 file opt room ≡ some r
unfolding told
fits_room file opt r (at_least n) e u room h = more_room n room h r (uncut_not r.number u) 1 100000 opt file e
fits_room file opt r (exactly n) e u room h = rw h e

check_nodes : (file : List ℕ) → check_of file ≡ check_as (nodes_of file)
unfolding check_of nodes_of
check_nodes file = reading (read_of file)
  where
    outcome : (T : Tables) (o : Outcome) → outcome_answer o ≡ check_as (nodes_drawn T o)
    outcome T (drawn G) = refl
    outcome T (refused k p) = refl

    reading : (y : Reading) → check_by y ≡ check_as (nodes_read y)
    reading (bad k p) = refl
    reading (good T) = outcome T (graph_of T)

module _ (c : Case) (x : Computed c) where
  row_said : (out : List ℕ) → Fits c.rooms (length out) → Says 1 c.file c.option out (over c.text out) c.answer
  row_said out h =
      let e = fits_room c.file c.option (result_by c.answer c.text) c.rooms x.tells x.longer (length out) h in
      record { text = c.text; is = record { turns = 100000; so = e }; room = refl }

  pub row_right : Right c
  unfolding nodes_answer nodes_left
  row_right =
      record {
        says = λ out left r h S. says_one 1 c.file c.option out left (over c.text out) r c.answer S (row_said out h);
        said = row_said;
        checks = check_nodes c.file ∙ ap check_as x.listed;
        lists = λ l. (ap (λ (y : Nodes). nodes_by y (length l)) x.listed, ap (λ (y : Nodes). list_over (listed_by y (length l)) l) x.listed);
        bounds = x.bounded;
        deep = leb-true c.answer.depth c.bound x.within;
      }

-- every row of the table is right
pub right : All Right table
right =
    let later : All Computed (p7 ∷ p8 ∷ p9 ∷ p10 ∷ p11 ∷ indented ∷ deck_second ∷ two_runs ∷ []) =
    (row_p7, (row_p8, (row_p9, (row_p10, (row_p11, (row_indented, (row_deck_second, (row_two_runs, tt)))))))) in
    all_map Computed Right table row_right (
      row_p1,
      (
        row_p2,
        (
          row_p3_core,
          (row_p3_outside, (row_p4_most, (row_p4_over, (row_p5, (row_p5_unresolved, (row_p6, later)))))),
        ),
      ),
    )

-- ---- a node list in a list that is long enough

-- "the whole list being one unit; bytes and depth are 0 there"
abbrev pub listed_all : Answer
listed_all = record { number = 0; place = 0; bytes = 0; units = 1; depth = 0 }

pub lists_all : (c : Case) (es : List NodeEntry) → Right c → c.nodes ≡ entered es → (l : List NodeEntry) → length es ≤ length l
    → (nodes_answer c.file (length l) ≡ listed_all) × (nodes_left c.file l ≡ es ++ drop (length es) l)
lists_all c es R q l h =
    let t = le-ltb (length l) (length es) h in
    let x = R.lists l in (
      x.0 ∙ ap (λ (y : Nodes). nodes_by y (length l)) q ∙ rw (t, cond),
      x.1 ∙ ap (λ (y : Nodes). list_over (listed_by y (length l)) l) q ∙ rw (t, cond),
    )

-- P7: "All four nodes are missing, none installable"
pub p7_lists : (l : List NodeEntry) → 4 ≤ length l → (nodes_answer p7.file (length l) ≡ listed_all) × (nodes_left p7.file l ≡ replay_nodes ++ drop 4 l)
p7_lists l h = lists_all p7 replay_nodes (row_right p7 row_p7) refl l h

pub p7_labels : All (λ e. (e.missing ≡ 1) × (e.installable ≡ 0)) replay_nodes
p7_labels = ((refl, refl), ((refl, refl), ((refl, refl), ((refl, refl), tt))))
