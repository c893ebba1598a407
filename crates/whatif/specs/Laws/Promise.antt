-- ORDER 10, the theorems over tables. T are a file's tables and U the same with one more Excluded clause at the end of the core.
use Rattle.std.specs.Prelude.{◌≡◌, refl, ◌⊎◌, Bool, true, false, cond, List, ℕ, ◌<◌, ◌≤◌, length}
use Rattle.std.proofs.Common.{sym, ap, ◌∙◌, inl, inr}
use Rattle.std.proofs.Math.Path.{subst}
use Rattle.std.proofs.Math.Option.{Option, none, some}
use Rattle.std.proofs.Math.ListN.{get_or}
use Rattle.basis.specs.Members.{In, split, clash}
use Rattle.records.specs.Tables.{Tables}
use Rattle.index.specs.Promise.{Valid}
use Rattle.store.specs.declared.ConflictNode.TheVariants as N
use Rattle.store.specs.Graph.{Graph, node_at}
use Rattle.links.specs.Paths.{Path}
use Rattle.labels.specs.Labels.{targets, order_of, installable, missing}
use Rattle.labels.specs.Marks.{label_bits}
use Rattle.labels.specs.Ordered.{Acyclic}
use Rattle.cycles.specs.Cycles.{cycle_of}
use Rattle.graph.specs.Graphs.{Outcome, drawn, refused, graph_of}
use Rattle.shape.specs.Graphed.{Graphed}
use Rattle.whatif.specs.Asked.{has_node, asked, known, fits_graph, unless_cycle, question_of, ask_drawn, ask_tables}
use Rattle.whatif.specs.Alike.{SameGraph}
use Rattle.whatif.specs.Extended.{Extended}
use Rattle.whatif.specs.Relabel.{relabel}
use Rattle.whatif.specs.Laws.Laid.{GraphLaid, drawn_laid}
use Rattle.whatif.specs.Laws.Asked.{chosen}
use Rattle.whatif.specs.Laws.WhatIf.{Rebuilt, what_if, what_if_drawn, what_if_full}
use Rattle.whatif.specs.Laws.Relabelled.{relabelled_anew, kept_anew}
use Rattle.whatif.specs.Laws.Tests.{is_in_lem}
use Rattle.whatif.specs.Laws.Graphed.{Given, question_given, given_free, given_nodes, given_graphed, given_acyclic}

-- a question that gives a graph was asked of a graph that was drawn
pub record Asking (T : Tables) (s r : ℕ) (K : Graph) : Type 0 where
  pub graph : Graph
  pub draws : graph_of T ≡ drawn graph
  pub gives : question_of T graph s r ≡ drawn K

pub asking : (T : Tables) (s r : ℕ) (K : Graph) → ask_tables T s r ≡ drawn K → Asking T s r K
unfolding ask_tables
asking T s r K q = by (graph_of T) refl
  where
    by : (o : Outcome) → graph_of T ≡ o → Asking T s r K
    by (drawn G) e = record { graph = G; draws = e; gives = ap (ask_drawn T s r) (sym e) ∙ q }
    by (refused k p) e = let z : refused k p ≡ drawn K = ap (ask_drawn T s r) (sym e) ∙ q in clash (cc)

module _ (T : Tables) (valid : Valid T) (s r : ℕ) where
  module _ (K : Graph) (q : ask_tables T s r ≡ drawn K) where
    -- the graph that was asked
    pub A : Asking T s r K
    A = asking T s r K q

    abbrev pub G : Graph
    G = A.graph

    gave : Given T G s r K
    gave = question_given T G s r K A.gives

    chosen_in : In (N.Solvable s) G.nodes
    chosen_in = is_in_lem G.nodes (N.Solvable s) gave.node

    -- "The outcome must be what the graph rules give for the file's core with one more Excluded clause at its end .. : the same nodes, edges
    -- and labels, compared by what a node stands for"
    pub outcome_same : (U : Tables) → Extended T U s r → (M : Graph) × (graph_of U ≡ drawn M) × SameGraph K M
    outcome_same U E =
        let w = what_if T valid U s r E gave.reason G A.draws chosen_in gave.room (given_free T valid G A.draws s r K A.gives) in
        (w.0, w.1, subst (λ (X : Graph). SameGraph X w.0) (sym gave.is) w.2.same)

    -- what every drawn graph promises holds of it, and it has no cycle
    pub outcome_graphed : Graphed T K
    outcome_graphed = given_graphed T valid G A.draws s r K A.gives

    pub outcome_acyclic : Acyclic (targets K)
    outcome_acyclic = given_acyclic T valid G A.draws s r K A.gives

    -- "prove that the labels of every package from which the chosen one can't be reached are not rewritten": whatever word the labels' table
    -- holds for such a node, `relabel` leaves it
    pub outcome_kept : (ms : List ℕ) (n : ℕ) → (Path G n (chosen G (length T.clauses) s r) → ⊥)
        → get_or (relabel K (chosen G (length T.clauses) s r) (order_of K) ms) n 0 ≡ get_or ms n 0
    unfolding asked
    outcome_kept ms n f =
        subst (λ (X : Graph). get_or (relabel X (chosen G (length T.clauses) s r) (order_of X) ms) n 0 ≡ get_or ms n 0) (sym gave.is)
        (kept_anew G (length T.clauses) s r (drawn_laid T valid G A.draws) chosen_in (given_nodes T valid G A.draws s r K A.gives)
        (given_free T valid G A.draws s r K A.gives) ms n f)

    -- and from the labels of the graph as it is, it makes those of the graph asked for
    pub outcome_labels : relabel K (chosen G (length T.clauses) s r) (order_of K) (label_bits G) ≡ label_bits K
    unfolding asked
    outcome_labels =
        subst (λ (X : Graph). relabel X (chosen G (length T.clauses) s r) (order_of X) (label_bits G) ≡ label_bits X) (sym gave.is)
        (relabelled_anew G (length T.clauses) s r (drawn_laid T valid G A.draws) chosen_in (given_nodes T valid G A.draws s r K A.gives)
        (given_free T valid G A.draws s r K A.gives))

  -- "8 as in the build, unresolved counted, place the number of clauses": for a graph that is drawn and a question that is known, 8 exactly
  -- where the longer core gets it, with a cycle or without
  module _ (G : Graph) (d : graph_of T ≡ drawn G) (U : Tables) (E : Extended T U s r) (h : r < length T.reasons) (t : has_node G.nodes (N.Solvable s)
      ≡ true) where
    pub full_same : fits_graph G r ≡ false → graph_of U ≡ refused 8 (length T.clauses)
    full_same f = what_if_full T valid U s r E h G d (is_in_lem G.nodes (N.Solvable s) t) f

    pub room_same : fits_graph G r ≡ true → graph_of U ≡ refused 8 (length T.clauses) → ⊥
    room_same f e =
        let w = what_if_drawn T valid U s r E h G d (is_in_lem G.nodes (N.Solvable s) t) f in
        let z : drawn w.0 ≡ refused 8 (length T.clauses) = sym w.1 ∙ e in
        clash (cc)
