-- Order 10 over the contracts of `urzulempa_what_if` and `urzulempa_what_if_explain`, for every file, solvable, reason, list, option and room.
use Rattle.std.specs.Prelude.{◌≡◌, refl, Bool, true, false, cond, ◌&&◌, ◌⊎◌, List, [], ℕ, ◌≤◌, ◌<◌, length, get_or, leb, ltb}
use Rattle.std.proofs.Common.{sym, ◌∙◌, subst, inl, inr, arith, le-leb, leb-true, lt-ltb, ltb-true, ltb-false}
use Rattle.std.proofs.Math.Path.{ap}
use Rattle.std.proofs.Math.Option.{Option, none, some}
use Rattle.basis.specs.Members.{split, either, clash}
use Rattle.records.specs.Tables.{Tables}
use Rattle.records.specs.Read.{Reading, good, bad, read_of}
use Rattle.index.specs.Promise.{Valid, promise}
use Rattle.store.specs.Graph.{Graph, node_at}
use Rattle.labels.specs.Labels.{targets, installable, missing}
use Rattle.labels.specs.Ordered.{Acyclic}
use Rattle.cycles.specs.Cycles.{cycle_of}
use Rattle.graph.specs.Graphs.{Outcome, drawn, refused, graph_of}
use Rattle.whatif.specs.Asked.{asked, known, fits_graph, unless_cycle, question_of, ask_drawn, ask_tables}
use Rattle.whatif.specs.Alike.{SameGraph}
use Rattle.whatif.specs.Extended.{Extended}
use Rattle.whatif.specs.Laws.Promise.{outcome_same, outcome_acyclic}
use Rattle.lists.specs.declared.entries.NodeEntry.{NodeEntry}
use Rattle.lists.specs.Nodes.{flag, node_entry, node_entries, Nodes, entered, denied, nodes_drawn, nodes_of, listed_by}
use Rattle.lists.specs.Asked.{asked_read, asked_nodes}
use Rattle.machine.specs.Units.{Result}
use Rattle.machine.specs.Explained.{Explained}
use Rattle.machine.specs.Edition.{edited}
use Rattle.machine.specs.Laws.Silent.{Silent, never_eleven}
use Rattle.plan.specs.Plan.{Shown, shown_of, plan_of, start_of, popped}
use Rattle.plan.specs.Display.{solvable_of}
use Rattle.lines.specs.Lines.{lines_of}
use Rattle.texts.specs.Wrote.{over}
use Rattle.explanation.specs.Explain.{refusal}
use Rattle.explanation.specs.Laws.Numbers.{bad_low, refused_low}
use Rattle.air.specs.Laws.Silent.{air_silent}
use Rattle.calls.specs.declared.Answer.{Answer}
use Rattle.calls.specs.Answers.{refusal_of}
use Rattle.calls.specs.Nodes.{nodes_by, list_over}
use Rattle.calls.specs.Says.{result_by}
use Rattle.calls.specs.WhatIf.{what_if_answer, what_if_left, explain_outcome, ask_read, explain_what_if, SaysWhatIf}
use Rattle.machine.specs.Laws.Explained as E

-- ---- two results that the contract allows are equal

some_one : {a b : Result} {c d : Option Result} → c ≡ some a → d ≡ some b → c ≡ d → a ≡ b
some_one x y z = cc

outcome_one : (T : Tables) (X : Outcome) (opt room n m : ℕ) (a b : Result) → explain_outcome n T X opt room ≡ some a → explain_outcome m T X opt room ≡ some b
    → a ≡ b
outcome_one T (refused k p) opt room n m a b x y = some_one x y refl
outcome_one T (drawn G) opt room n m a b x y =
    let S : Shown = shown_of T G in
    E.unique (edited 1 (plan_of S)) (lines_of S opt) (solvable_of S) (start_of S) room a b (record { turns = n; so = x }) (record { turns = m; so = y })

read_one : (y : Reading) (s r opt room n m : ℕ) (a b : Result) → ask_read n s r opt room y ≡ some a → ask_read m s r opt room y ≡ some b → a ≡ b
read_one (bad k p) s r opt room n m a b x y = some_one x y refl
read_one (good T) s r opt room n m a b x y = outcome_one T (ask_tables T s r) opt room n m a b x y

pub result_one : (file : List ℕ) (s r opt room n m : ℕ) (a b : Result) → explain_what_if n file s r opt room ≡ some a → explain_what_if m file s r opt room ≡ some b
    → a ≡ b
result_one file s r opt room n m a b x y =
    split (leb opt 1)
    (λ t. read_one (read_of file) s r opt room n m a b (rw (t, explain_what_if) at x) (rw (t, explain_what_if) at y))
    (λ t. some_one (rw (t, explain_what_if) at x) (rw (t, explain_what_if) at y) refl)

pub says_what_if_one : (file : List ℕ) (s r opt : ℕ) (out a b : List ℕ) (x y : Answer) → SaysWhatIf file s r opt out a x → SaysWhatIf file s r opt out b y
    → (x ≡ y) × (a ≡ b)
says_what_if_one file s r opt out a b x y S T =
    let h : result_by x S.text ≡ result_by y T.text = result_one file s r opt (length out) S.turns T.turns (result_by x S.text)
    (result_by y T.text) S.is T.is in (
      ap (λ (z : Result). record { number = z.number; place = z.place; bytes = z.bytes; units = z.units; depth = z.depth }) h,
      S.room ∙ ap (λ (z : Result). over z.text out) h ∙ sym T.room,
    )

-- ---- which refusals there are

-- the question's own: 4, 8 and 17
question_number : (T : Tables) (G : Graph) (s r k p : ℕ) → question_of T G s r ≡ refused k p → (k ≡ 11 → ⊥) × (k ≡ 10 → ⊥)
unfolding question_of
question_number T G s r k p q =
    split (known T G s r)
    (λ y. split (fits_graph G r)
    (λ f. cycle (asked G (length T.clauses) s r) (cycle_of G) (rw (y, f) at q))
    (λ f. let z : refused 8 (length T.clauses) ≡ refused k p = rw (y, f) at q in let a : 8 ≡ k = cc in (λ e. omega arith, λ e. omega arith)))
    (λ y. let z : refused 4 0 ≡ refused k p = rw y at q in let a : 4 ≡ k = cc in (λ e. omega arith, λ e. omega arith))
  where
    cycle : (K : Graph) (o : Option ℕ) → unless_cycle o (drawn K) ≡ refused k p → (k ≡ 11 → ⊥) × (k ≡ 10 → ⊥)
    cycle K none z = clash (cc)
    cycle K (some n) z = let a : 17 ≡ k = cc in (λ e. omega arith, λ e. omega arith)

ask_number : (T : Tables) (s r k p : ℕ) → ask_tables T s r ≡ refused k p → (k ≡ 11 → ⊥) × (k ≡ 10 → ⊥)
unfolding ask_tables
ask_number T s r k p q = by (graph_of T) refl
  where
    by : (o : Outcome) → graph_of T ≡ o → (k ≡ 11 → ⊥) × (k ≡ 10 → ⊥)
    by (drawn G) e = question_number T G s r k p (ap (ask_drawn T s r) (sym e) ∙ q)
    by (refused l i) e =
        let z : refused l i ≡ refused k p = ap (ask_drawn T s r) (sym e) ∙ q in
        let a : l ≡ k = cc in
        let b : l ≤ 9 = refused_low T l i e in
        (λ y. omega arith, λ y. omega arith)

-- ---- the text

module _ (file : List ℕ) (s r opt : ℕ) (out left : List ℕ) (a : Answer) (S : SaysWhatIf file s r opt out left a) where
  number_of : (k p : ℕ) → some (refusal k p) ≡ some (result_by a S.text) → a.number ≡ k
  number_of k p e = let z : refusal k p ≡ result_by a S.text = cc in ap (λ (x : Result). x.number) (sym z)

  text_of : (k p : ℕ) → some (refusal k p) ≡ some (result_by a S.text) → left ≡ out
  text_of k p e =
      let z : refusal k p ≡ result_by a S.text = cc in
      let t : [] ≡ S.text = ap (λ (x : Result). x.text) z in
      S.room ∙ ap (λ (x : List ℕ). over x out) (sym t)

  module _ (T : Tables) (y : read_of file ≡ good T) (K : Graph) (q : ask_tables T s r ≡ drawn K) where
    -- the graph asked for has no cycle, so that no package comes below itself
    silent : Silent (edited 1 (plan_of (shown_of T K))) (popped (shown_of T K) 0)
    unfolding shown_of
    silent = air_silent (shown_of T K) (outcome_acyclic T (promise file T y) s r K q) (popped (shown_of T K) 0)

    drawn_never : explain_outcome S.turns T (drawn K) opt (length out) ≡ some (result_by a S.text) → a.number ≡ 11 → ⊥
    drawn_never e =
        let Q : Shown = shown_of T K in
        never_eleven (edited 1 (plan_of Q)) (lines_of Q opt) (solvable_of Q) (popped Q 0) silent (length out) (result_by a S.text) (record {
          turns = S.turns;
          so = e;
        })

  by_outcome : (T : Tables) → read_of file ≡ good T → (o : Outcome) → ask_tables T s r ≡ o
      → explain_outcome S.turns T o opt (length out) ≡ some (result_by a S.text) → a.number ≡ 11 → ⊥
  by_outcome T y (drawn K) q e n = drawn_never T y K q e n
  by_outcome T y (refused k p) q e n = (ask_number T s r k p q).0 (sym (number_of k p e) ∙ n)

  by_reading : (y : Reading) → read_of file ≡ y → ask_read S.turns s r opt (length out) y ≡ some (result_by a S.text) → a.number ≡ 11 → ⊥
  by_reading (bad k p) y e n = let l : k ≤ 6 = bad_low file k p y in let z : k ≡ 11 = sym (number_of k p e) ∙ n in omega arith
  by_reading (good T) y e n = by_outcome T y (ask_tables T s r) refl e n

  -- "The graph must have no cycle": 11 never comes
  pub what_if_never : a.number ≡ 11 → ⊥
  what_if_never n =
      split (leb opt 1)
      (λ t. by_reading (read_of file) refl (rw (t, explain_what_if) at S.is) n)
      (λ t. let z : 12 ≡ 11 = sym (number_of 12 0 (rw (t, explain_what_if) at S.is)) ∙ n in omega arith)

  -- 12, the file's 1 to 9, then 4, 8 and 17: the room is as it was. Only the text's own answers, 0 and 10, come otherwise
  unchanged_outcome : (T : Tables) (o : Outcome) → ask_tables T s r ≡ o → explain_outcome S.turns T o opt (length out) ≡ some (result_by a S.text)
      → (left ≡ out) ⊎ ((K : Graph) × (ask_tables T s r ≡ drawn K))
  unchanged_outcome T (refused k p) q e = inl (text_of k p e)
  unchanged_outcome T (drawn K) q e = inr (K, q)

  unchanged_reading : (y : Reading) → read_of file ≡ y → ask_read S.turns s r opt (length out) y ≡ some (result_by a S.text)
      → (left ≡ out) ⊎ ((T : Tables) × (read_of file ≡ good T) × ((K : Graph) × (ask_tables T s r ≡ drawn K)))
  unchanged_reading (bad k p) y e = inl (text_of k p e)
  unchanged_reading (good T) y e = either (unchanged_outcome T (ask_tables T s r) refl e) (λ h. inl h) (λ h. inr (T, y, h))

  -- a refusal writes nothing: either the room is as it was, or a graph was given and the text is its own
  pub what_if_unchanged : (left ≡ out) ⊎ ((T : Tables) × (read_of file ≡ good T) × ((K : Graph) × (ask_tables T s r ≡ drawn K)))
  what_if_unchanged =
      split (leb opt 1)
      (λ t. unchanged_reading (read_of file) refl (rw (t, explain_what_if) at S.is))
      (λ t. inl (text_of 12 0 (rw (t, explain_what_if) at S.is)))

-- ---- the list

module _ (file : List ℕ) (s r : ℕ) (l : List NodeEntry) where
  left_by : (X : Nodes) → ((nodes_by X (length l)).number ≡ 0 → ⊥) → list_over (listed_by X (length l)) l ≡ l
  left_by (denied k p) f = refl
  left_by (entered es) f = split (ltb (length l) (length es)) (λ t. rw (t, cond)) (λ t. absurd (f (rw (t, cond))))

  -- "graph unchanged", and so is the list: every answer but 0 leaves it
  pub list_unchanged : ((what_if_answer file s r (length l)).number ≡ 0 → ⊥) → what_if_left file s r l ≡ l
  unfolding what_if_answer what_if_left
  list_unchanged f = left_by (asked_nodes file s r) f

-- ---- what the list and the text show is what the graph rules give for the longer core

-- a file whose question gives a graph
module _ (file : List ℕ) (s r : ℕ) (T : Tables) (y : read_of file ≡ good T) (K : Graph) (q : ask_tables T s r ≡ drawn K) where
  pub listed_asked : asked_nodes file s r ≡ entered (node_entries T K)
  unfolding asked_nodes
  listed_asked = rw (y, q)

  module _ (U : Tables) (E : Extended T U s r) where
    -- the graph of the longer core, with the same nodes, edges and labels
    pub rebuilt : (M : Graph) × (graph_of U ≡ drawn M) × SameGraph K M
    rebuilt = outcome_same T (promise file T y) s r K q U E

    -- entry m of the list beside entry j of the node list of a file with the longer core: the labels of one package are the same,
    -- and the clause that first added it
    module _ (m j : ℕ) (h : m < length K.nodes) (g : j < length rebuilt.0.nodes) (e : node_at K m ≡ node_at rebuilt.0 j) where
      pub same_installable : (node_entry T K m).installable ≡ (node_entry U rebuilt.0 j).installable
      unfolding node_entry
      same_installable = ap flag (rebuilt.2.installables m j h g e)

      pub same_missing : (node_entry T K m).missing ≡ (node_entry U rebuilt.0 j).missing
      unfolding node_entry
      same_missing = ap flag (rebuilt.2.missings m j h g e)

      pub same_clause : (node_entry T K m).clause ≡ (node_entry U rebuilt.0 j).clause
      unfolding node_entry
      same_clause = rebuilt.2.firsts m j h g e

    -- and such a file is listed so by `urzulempa_nodes`
    pub rebuilt_listed : (longer : List ℕ) → read_of longer ≡ good U → nodes_of longer ≡ entered (node_entries U rebuilt.0)
    unfolding nodes_of
    rebuilt_listed longer z = rw (z, rebuilt.1)
