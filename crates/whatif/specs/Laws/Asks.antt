-- The ways through the code of `ask`.
use Rattle.std.specs.Prelude.{◌≡◌, refl, Bool, true, false, List, ℕ, ◌+◌, ◌%◌, ◌≤◌, ◌<◌, length, ltb, leb, Ok, Err}
use Rattle.std.proofs.Common.{sym, ◌∙◌, subst, arith, leb-true, ltb-true}
use Rattle.std.proofs.Math.Path.{ap}
use Rattle.std.proofs.Math.Option.{none}
use Rattle.basis.specs.Members.{In, and_true}
use Rattle.records.specs.declared.Table.TheVariants.{Reasons}
use Rattle.records.specs.Tables.{Tables}
use Rattle.records.specs.Read.{tables_of}
use Rattle.index.specs.Promise.{Valid}
use Rattle.index.specs.Index.{Loaded}
use Rattle.index.specs.Found.{loaded_valid}
use Rattle.store.specs.declared.ConflictNode.TheVariants as N
use Rattle.store.specs.declared.Size.{Size}
use Rattle.store.specs.Graph.{Graph}
use Rattle.store.specs.Numbers.{number_of}
use Rattle.store.specs.Table.{graph_in, Stored, nodes_count, edges_count}
use Rattle.links.specs.Build.{Chains, chains_of}
use Rattle.labels.specs.Labels.{targets, order_of}
use Rattle.labels.specs.Marks.{label_bits}
use Rattle.labels.specs.Ordered.{Acyclic}
use Rattle.cycles.specs.Cycles.{cycle_of}
use Rattle.cycles.specs.Laws.Found.{none_free}
use Rattle.graph.specs.Files.{Made}
use Rattle.graph.specs.Graphs.{Outcome, drawn, refused, graph_of}
use Rattle.whatif.specs.Asked.{nodes_with, asked, gone_count, fits_graph, question_of}
use Rattle.whatif.specs.Relabel.{relabel}
use Rattle.whatif.specs.Asks.{Leaves, Asks}
use Rattle.whatif.specs.Laws.Alike.{number_in}
use Rattle.whatif.specs.Laws.Laid.{GraphLaid, drawn_laid, laid_sound}
use Rattle.whatif.specs.Laws.Relabelled.{relabelled_anew}
use Rattle.whatif.specs.Laws.Tests.{Test, refusal_at, pass_at, test_of, Passed, passes, denies, is_in_lem}
use Rattle.whatif.specs.Laws.Exclusion.{asked_from, asked_from_lem}

-- there is room for the exclusion of node a
pub record Passing (G : Graph) (a r : ℕ) : Type 0 where
  pub below : a < length G.nodes
  pub nodes : length (nodes_with G.nodes (N.Excluded r)) ≤ 128
  pub edges : length G.edges < 1024

module _ (g : List ℕ) (s : Size) (ls : List ℕ) (a r : ℕ) (P : Passing (graph_in g s) a r) (C : Chains g s ls) where
  pub passing_below : a < s.nodes
  passing_below = rw (← nodes_count g s C.stored) P.below

  pub passing_nodes : length (nodes_with (graph_in g s).nodes (N.Excluded r)) ≤ 128
  passing_nodes = P.nodes

  pub passing_edges : s.edges < 1024
  passing_edges = rw (← edges_count g s C.stored) P.edges

-- the table g with its chains w is graph G with the exclusion; w₀ is what the chains were
pub record Placed (G : Graph) (n a r : ℕ) (w₀ g w : List ℕ) (t : Size) : Type 0 where
  pub is : graph_in g t ≡ asked_from G n a r
  pub chains : Chains g t w
  pub built : w ≡ chains_of g t w₀

pub placed : (G : Graph) (n a r : ℕ) (w₀ g w : List ℕ) (t : Size) → graph_in g t ≡ asked_from G n a r → w ≡ chains_of g t w₀ → Chains g t w
    → Placed G n a r w₀ g w t
placed G n a r w₀ g w t e q C = record { is = e; chains = C; built = q }

pub placed_chains : (G : Graph) (n a r : ℕ) (w₀ g w : List ℕ) (t : Size) → Placed G n a r w₀ g w t → Chains g t w
placed_chains G n a r w₀ g w t P = P.chains

-- and ms are its marks
pub record After (G : Graph) (n a r : ℕ) (w₀ g w ms : List ℕ) (t : Size) : Type 0 where
  pub placed : Placed G n a r w₀ g w t
  pub marks : ms ≡ relabel (graph_in g t) a (order_of (graph_in g t)) (label_bits G)

pub after : (G : Graph) (n a r : ℕ) (w₀ g w : List ℕ) (t : Size) (m₀ ms : List ℕ) → Placed G n a r w₀ g w t
    → ms ≡ relabel (graph_in g t) a (order_of (graph_in g t)) m₀ → m₀ ≡ label_bits G
    → After G n a r w₀ g w ms t
after G n a r w₀ g w t m₀ ms P q e = record { placed = P; marks = q ∙ ap (relabel (graph_in g t) a (order_of (graph_in g t))) e }

-- ---- the answer

-- x is what the tests gave
module _ (file ix g : List ℕ) (z : Size) (ls : List ℕ) (s r : ℕ) (x : Test) (L : Loaded file ix) (C : Chains g z ls) (d : graph_of (tables_of file)
    ≡ drawn (graph_in g z)) (q : x ≡ test_of (tables_of file) (graph_in g z) s r) where
  abbrev T : Tables
  T = tables_of file

  abbrev G : Graph
  G = graph_in g z

  v : Valid (tables_of file)
  v = loaded_valid file ix L

  pub asks_refused : (m₀ : List ℕ) (y : Made) (k p : ℕ) → x ≡ refusal_at k p → y ≡ Err (record { number = k; place = p })
      → Asks (question_of (tables_of file) (graph_in g z) s r) g ls m₀ g ls m₀ y
  asks_refused m₀ y k p e f = rw f (record { leaves = (denies T G s r k p (sym q ∙ e), refl, refl, refl) })

  module _ (a n : ℕ) (e : x ≡ pass_at a n) where
    P : Passed T G s r a n
    P = passes T G s r a n (sym q ∙ e)

    -- the reason fits its 16 bits
    whole_reason : r % 65536 ≡ r
    whole_reason = let l : length T.reasons ≤ 64 = v.within Reasons in omega (arith, P.reason)

    chosen_in : In (N.Solvable s) G.nodes
    chosen_in = is_in_lem G.nodes (N.Solvable s) P.node

    fits_nodes : length (nodes_with G.nodes (N.Excluded r)) ≤ 128
    fits_nodes =
        let f = and_true (leb (length (nodes_with G.nodes (N.Excluded r)) + gone_count G) 128) (ltb (length G.edges) 1024) P.room in
        let l : length (nodes_with G.nodes (N.Excluded r)) + gone_count G ≤ 128 =
        leb-true (length (nodes_with G.nodes (N.Excluded r)) + gone_count G) 128 f.0 in
        omega arith

    pub asks_passing : Passing (graph_in g z) a (r % 65536)
    asks_passing =
        rw whole_reason
        (record {
          below = rw P.source (number_in G.nodes (N.Solvable s) chosen_in).0;
          nodes = fits_nodes;
          edges =
              ltb-true (length G.edges) 1024 (and_true (leb (length (nodes_with G.nodes (N.Excluded r)) + gone_count G) 128) (ltb (length G.edges) 1024)
              P.room).1;
        })

    -- t is the size that adding the exclusion gave
    pub asks_whole : (m₀ h w ms : List ℕ) (t : Size) (y : Made) → After (graph_in g z) n a (r % 65536) ls h w ms t → y ≡ Ok t
        → Asks (question_of (tables_of file) (graph_in g z) s r) g ls m₀ h w ms y
    unfolding asked
    asks_whole m₀ h w ms t y A f =
        let is : graph_in h t ≡ asked G (length T.clauses) s r = A.placed.is ∙ rw whole_reason (asked_from_lem G n a s r P.source)
        ∙ ap (λ (c : ℕ). asked G c s r) P.clause in
        let K : GraphLaid G = drawn_laid T v G d in
        let free : Acyclic (targets G) = none_free G (record { some = (laid_sound G K).some; ends = (laid_sound G K).ends }) P.free in
        let right : relabel (asked G (length T.clauses) s r) (number_of G.nodes (N.Solvable s)) (order_of (asked G (length T.clauses) s r)) (label_bits G)
        ≡ label_bits (asked G (length T.clauses) s r) =
        relabelled_anew G (length T.clauses) s r K chosen_in fits_nodes free in
        let marks : ms ≡ label_bits (graph_in h t) = A.marks ∙ rw (is, P.source) right in
        rw f (record { leaves = (P.gives ∙ ap drawn (sym is), A.placed.chains, A.placed.built, marks) })
