-- The graph asked for keeps the promise that every drawn graph keeps, so that the crates above can cite it.
use Rattle.std.specs.Prelude.{◌≡◌, ◌⊎◌, Bool, true, false, cond, ◌&&◌, List, [], ◌∷◌, ◌++◌, ℕ, zero, suc, ◌+◌, ◌≤◌, ◌<◌, length, ltb, leb}
use Rattle.std.proofs.Math.Path.{refl}
use Rattle.std.proofs.Common.{sym, ap, ◌∙◌, subst, inl, inr, arith, length-append, leb-true, ltb-true}
use Rattle.std.proofs.Math.Option.{Option, none, some}
use Rattle.basis.specs.Lists.{filter, snoc}
use Rattle.basis.specs.Members.{In, All, split, clash, all_append, and_true}
use Rattle.records.specs.Tables.{Tables}
use Rattle.index.specs.Promise.{Valid}
use Rattle.store.specs.declared.ConflictNode.{ConflictNode}
use Rattle.store.specs.declared.ConflictNode.TheVariants as N
use Rattle.store.specs.declared.Edge.{Edge}
use Rattle.store.specs.Graph.{Graph, is_solvable}
use Rattle.labels.specs.Labels.{targets}
use Rattle.labels.specs.Ordered.{Acyclic}
use Rattle.cycles.specs.Cycles.{cycle_of}
use Rattle.cycles.specs.Laws.Found.{none_free}
use Rattle.graph.specs.Graphs.{Outcome, drawn, refused, graph_of}
use Rattle.shape.specs.Shaped.{Known}
use Rattle.shape.specs.Graphed.{Graphed, graphed}
use Rattle.whatif.specs.Asked.{has_node, nodes_with, new_edge, asked, known, gone_count, fits_graph, unless_cycle, question_of}
use Rattle.whatif.specs.Laws.Laid.{GraphLaid, drawn_laid, laid_sound}
use Rattle.whatif.specs.Laws.Asked.{asked_laid, asked_acyclic, edges_are}
use Rattle.whatif.specs.Laws.Tests.{is_in_lem}

-- a question that gives a graph: what was tested
pub record Given (T : Tables) (G : Graph) (s r : ℕ) (K : Graph) : Type 0 where
  pub is : K ≡ asked G (length T.clauses) s r
  pub solvable : s < length T.solvables
  pub reason : r < length T.reasons
  pub node : has_node G.nodes (N.Solvable s) ≡ true
  pub room : fits_graph G r ≡ true
  pub free : cycle_of G ≡ none

and_both : (a b c : Bool) → a && (b && c) ≡ true → (a ≡ true) × (b ≡ true) × (c ≡ true)
and_both true true c e = (refl, refl, e)
and_both true false c e = clash (cc)
and_both false b c e = clash (cc)

module _ (T : Tables) (G : Graph) (s r : ℕ) (K : Graph) where
  by_cycle : (o : Option ℕ) → cycle_of G ≡ o → unless_cycle o (drawn (asked G (length T.clauses) s r)) ≡ drawn K → known T G s r ≡ true → fits_graph G r ≡ true
      → Given T G s r K
  by_cycle none e q k f =
      let z = and_both (ltb s (length T.solvables)) (ltb r (length T.reasons)) (has_node G.nodes (N.Solvable s)) k in
      let x : asked G (length T.clauses) s r ≡ K = cc in
      record {
        is = sym x;
        solvable = ltb-true s (length T.solvables) z.0;
        reason = ltb-true r (length T.reasons) z.1;
        node = z.2;
        room = f;
        free = e;
      }
  by_cycle (some n) e q k f = clash (cc)

  pub question_given : question_of T G s r ≡ drawn K → Given T G s r K
  unfolding question_of
  question_given q =
      split (known T G s r)
      (λ k. split (fits_graph G r)
      (λ f. by_cycle (cycle_of G) refl (rw (k, f) at q) k f)
      (λ f. let z : refused 8 (length T.clauses) ≡ drawn K = rw (k, f) at q in clash (cc)))
      (λ k. let z : refused 4 0 ≡ drawn K = rw k at q in clash (cc))

-- ---- the promise

same_filter : (ns : List ConflictNode) (r : ℕ) → length (filter is_solvable (nodes_with ns (N.Excluded r))) ≡ length (filter is_solvable ns)
same_filter ns r = split (has_node ns (N.Excluded r)) (λ t. rw (t, nodes_with)) (λ t. rw (t, nodes_with) (ap length (last ns)))
  where
    last : (ms : List ConflictNode) → filter is_solvable (snoc ms (N.Excluded r)) ≡ filter is_solvable ms
    last [] = refl
    last (x ∷ ms) = split (is_solvable x) (λ t. rw (t, filter) (ap (λ (l : List ConflictNode). x ∷ l) (last ms))) (λ t. rw (t, filter) (last ms))

known_with : (T : Tables) (ns : List ConflictNode) (r : ℕ) → All (Known T) ns → r < length T.reasons → All (Known T) (nodes_with ns (N.Excluded r))
known_with T ns r a h =
    split (has_node ns (N.Excluded r)) (λ t. rw (t, nodes_with) a) (λ t. rw (t, nodes_with) (all_append (Known T) ns (N.Excluded r ∷ []) a (h, tt)))

tail_with : (ns tail : List ConflictNode) (r : ℕ) → ns ≡ N.Root ∷ tail → (t : List ConflictNode) × (nodes_with ns (N.Excluded r) ≡ N.Root ∷ t)
tail_with ns tail r q =
    split (has_node ns (N.Excluded r))
    (λ t. (tail, rw (t, nodes_with) q))
    (λ t. (snoc tail (N.Excluded r), rw (t, nodes_with) (ap (λ (l : List ConflictNode). snoc l (N.Excluded r)) q)))

module _ (T : Tables) (valid : Valid T) (G : Graph) (d : graph_of T ≡ drawn G) (s r : ℕ) (K : Graph) (q : question_of T G s r ≡ drawn K) where
  gave : Given T G s r K
  gave = question_given T G s r K q

  P : Graphed T G
  P = (graphed T valid G d).0

  here_laid : GraphLaid G
  here_laid = drawn_laid T valid G d

  pub given_free : Acyclic (targets G)
  given_free = none_free G (record { some = (laid_sound G here_laid).some; ends = (laid_sound G here_laid).ends }) gave.free

  chosen_in : In (N.Solvable s) G.nodes
  chosen_in = is_in_lem G.nodes (N.Solvable s) gave.node

  pub given_nodes : length (nodes_with G.nodes (N.Excluded r)) ≤ 128
  given_nodes =
      let f = and_true (leb (length (nodes_with G.nodes (N.Excluded r)) + gone_count G) 128) (ltb (length G.edges) 1024) gave.room in
      let l : length (nodes_with G.nodes (N.Excluded r)) + gone_count G ≤ 128 =
      leb-true (length (nodes_with G.nodes (N.Excluded r)) + gone_count G) 128 f.0 in
      omega arith

  few_edges : length G.edges < 1024
  few_edges =
      ltb-true (length G.edges) 1024 (and_true (leb (length (nodes_with G.nodes (N.Excluded r)) + gone_count G) 128) (ltb (length G.edges) 1024)
      gave.room).1

  pub given_laid : GraphLaid (asked G (length T.clauses) s r)
  unfolding asked
  given_laid = asked_laid G (length T.clauses) s r here_laid chosen_in given_nodes

  asked_graphed : Graphed T (asked G (length T.clauses) s r)
  unfolding asked
  asked_graphed =
      let t = tail_with G.nodes P.tail r P.nodes_are in
      record {
        tail = t.0;
        nodes_are = t.1;
        known = known_with T G.nodes r P.known gave.reason;
        once = given_laid.once;
        unresolved = given_laid.unresolved;
        nodes_most = given_nodes;
        solvables_most = rw (same_filter G.nodes r) P.solvables_most;
        edges_most = rw (length-append G.edges (new_edge G.nodes (length T.clauses) s r ∷ [])) (omega (arith, few_edges));
        edges = given_laid.runs;
      }

  -- "The graph must have no cycle", and the one asked for has none
  pub given_acyclic : Acyclic (targets K)
  given_acyclic = rw gave.is (asked_acyclic G (length T.clauses) s r here_laid chosen_in given_free)

  pub given_graphed : Graphed T K
  given_graphed = rw gave.is asked_graphed
