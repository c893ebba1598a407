-- ORDER 10, the theorem: for a file whose graph G is drawn, and the tables U of its core with one more Excluded clause at the end, the
-- graph rules give for U what asking gives for G: the same refusal 8, or the same nodes, edges in order and labels, by what nodes stand for.
use Rattle.std.specs.Prelude.{◌≡◌, refl, ◌⊎◌, Bool, true, false, cond, List, [], ◌∷◌, ◌++◌, ℕ, zero, suc, ◌+◌, ◌<◌, ◌≤◌, length, get_or, replicate, leb, ltb}
use Rattle.std.proofs.Common.{sym, ap, ◌∙◌, subst, inl, inr, arith, le-leb, leb-true, lt-ltb, ltb-true, ltb-false}
use Rattle.std.proofs.Math.Option.{Option, none, some}
use Rattle.std.proofs.Math.ListN.{get_or-append}
use Rattle.std.proofs.Math.Seq.{get_or-append_seam}
use Rattle.basis.specs.Lists.{snoc}
use Rattle.basis.specs.Members.{In, split, either, clash, no_both, all_in, and_true}
use Rattle.records.specs.declared.Origin.TheVariants as O
use Rattle.records.specs.Shapes.{Rec}
use Rattle.records.specs.Tables.{Tables, at, no_rec}
use Rattle.records.specs.Views.{origin_by, origin_of}
use Rattle.index.specs.Promise.{Valid}
use Rattle.store.specs.declared.ConflictNode.{ConflictNode}
use Rattle.store.specs.declared.ConflictNode.TheVariants as N
use Rattle.store.specs.Graph.{Graph, handing, Added, added, full, node_at, settle, unreached}
use Rattle.expansion.specs.Expand.{Build, start_build}
use Rattle.graph.specs.Graphs.{Built, built, stopped, build_from, build_of, Outcome, drawn, refused, reached_all, graph_of}
use Rattle.shape.specs.Shaped.{Known, Shaped}
use Rattle.shape.specs.Graphed.{Graphed, graphed, build_sane}
use Rattle.shape.specs.Reared.{start_sane}
use Rattle.labels.specs.Ordered.{Acyclic}
use Rattle.labels.specs.Labels.{targets, installable, missing}
use Rattle.whatif.specs.Laws.Laid.{GraphLaid, drawn_laid}
use Rattle.whatif.specs.Alike.{GraphsAlike, SameGraph}
use Rattle.whatif.specs.Asked.{nodes_with, asked, gone_count, fits_graph}
use Rattle.whatif.specs.Extended.{Extended, new_variable, new_clause, with_old, with_new}
use Rattle.whatif.specs.Laws.Settling.{settle_from}
use Rattle.whatif.specs.Laws.Firsts.{build_matched, asked_firsts}
use Rattle.whatif.specs.Laws.Rebuilt.{add_excluded, count_asked, settled_edges, link_full_node, link_full_edge, rebuilt_link, rebuilt_shaped}
use Rattle.whatif.specs.Laws.Rebuilt.{rebuilt_alike, rebuilt_laid, rebuilt_reached, rebuilt_acyclic, rebuilt_installable, rebuilt_missing}
use Rattle.whatif.specs.Laws.Core.{extended_built, extended_full}

-- ---- there are such tables

-- a new variable
pub extended_new : (T : Tables) (s r : ℕ) → Extended T (with_new T s r) s r
unfolding origin_of
extended_new T s r =
    record {
      clause = new_clause (length T.variables) r;
      new = new_variable (length T.variables) s ∷ [];
      variables_are = refl;
      clauses_are = refl;
      candidates_are = refl;
      assigned_are = refl;
      kind = refl;
      core = refl;
      what = refl;
      who = rw (get_or-append_seam T.variables (new_variable (length T.variables) s) [] no_rec);
    }

-- a variable that the file has
pub extended_old : (T : Tables) (s r v : ℕ) → v < length T.variables → origin_of T v ≡ O.Solvable s → Extended T (with_old T v r) s r
unfolding origin_of
extended_old T s r v h e =
    record {
      clause = new_clause v r;
      new = [];
      variables_are = refl;
      clauses_are = refl;
      candidates_are = refl;
      assigned_are = refl;
      kind = refl;
      core = refl;
      what = refl;
      who = rw (get_or-append T.variables [] no_rec v h) e;
    }

-- ---- the theorem

-- what else holds of the rebuilt graph M beside the graph asked for
pub record Rebuilt (A M : Graph) : Type 0 where
  pub same : SameGraph A M
  pub laid : GraphLaid M
  pub acyclic : Acyclic (targets M)

-- the counts "as in the build, unresolved counted"
abbrev Fits : Graph → ℕ → ℕ → ℕ → Type 0
Fits G cl s r = (length (asked G cl s r).nodes + gone_count G ≤ 128) × (length G.edges < 1024)

fits_yes : (G : Graph) (cl s r : ℕ) → fits_graph G r ≡ true → Fits G cl s r
unfolding asked
fits_yes G cl s r e =
    let z = and_true (leb (length (nodes_with G.nodes (N.Excluded r)) + gone_count G) 128) (ltb (length G.edges) 1024) e in
    (leb-true (length (nodes_with G.nodes (N.Excluded r)) + gone_count G) 128 z.0, ltb-true (length G.edges) 1024 z.1)

fits_no : (G : Graph) (cl s r : ℕ) → fits_graph G r ≡ false → Fits G cl s r → ⊥
unfolding asked
fits_no G cl s r e f =
    let z : fits_graph G r ≡ true = rw (
      le-leb (length (nodes_with G.nodes (N.Excluded r)) + gone_count G) 128 f.0,
      lt-ltb (length G.edges) 1024 f.1,
    ) in
    no_both (fits_graph G r) z e

-- what building gave
record From (T : Tables) (G : Graph) : Type 0 where
  build : Build
  comes : build_of T ≡ built build
  settles : settle build.graph ≡ G

from : (T : Tables) (G : Graph) → graph_of T ≡ drawn G → From T G
unfolding graph_of reached_all
from T G e = by (build_of T) refl
  where
    end : (b : Build) → build_of T ≡ built b → (o : Option ℕ) → unreached (settle b.graph) ≡ o → From T G
    end b q none u = let z : drawn (settle b.graph) ≡ drawn G = rw (q, graph_of, u, reached_all) at e in record { build = b; comes = q; settles = cc }
    end b q (some n) u = let z : refused 9 n ≡ drawn G = rw (q, graph_of, u, reached_all) at e in clash (cc)

    by : (B : Built) → build_of T ≡ B → From T G
    by (built b) q = end b q (unreached (settle b.graph)) refl
    by (stopped k i) q = let z : refused k i ≡ drawn G = rw (q, graph_of) at e in clash (cc)

drawn_by_lem : (U : Tables) (b : Build) → build_of U ≡ built b → unreached (settle b.graph) ≡ none → graph_of U ≡ drawn (settle b.graph)
unfolding graph_of reached_all
drawn_by_lem U b q u = rw (q, graph_of, u, reached_all)

refused_by : (U : Tables) (k i : ℕ) → build_of U ≡ stopped k i → graph_of U ≡ refused k i
unfolding graph_of
refused_by U k i q = rw (q, graph_of)

module _ (T : Tables) (valid : Valid T) (U : Tables) (s r : ℕ) (E : Extended T U s r) (k : r < length T.reasons) where
  module _ (b : Build) (q : build_of T ≡ built b) (L : GraphLaid (settle b.graph)) (i : In (N.Solvable s) (settle b.graph).nodes) (ks : s
      < length T.solvables) where
    shaped : Shaped T b.graph
    unfolding build_of
    shaped = (build_sane T valid (length T.clauses) 0 start_build b (start_sane T) q).shaped

    chosen_in : In (N.Solvable s) b.graph.nodes
    chosen_in = (settle_from T b.graph shaped (N.Solvable s) i).0

    -- the rebuilt graph is drawn, with a cycle or without
    drawn_fits : Fits (settle b.graph) (length T.clauses) s r → graph_of U ≡ drawn (settle (asked b.graph (length T.clauses) s r))
    drawn_fits f =
        let d : Build = record { graph = asked b.graph (length T.clauses) s r; last = b.last; made = b.made } in
        let e : build_of U ≡ built d = extended_built T U valid s r E b q (length b.graph.edges) (asked b.graph (length T.clauses) s r)
        (rebuilt_link T b.graph shaped L (length T.clauses) s r i k ks f.0 f.1) in
        drawn_by_lem U d e (rebuilt_reached T b.graph shaped L (length T.clauses) s r i k ks f.0 f.1)

    fits_by : Fits (settle b.graph) (length T.clauses) s r → Acyclic (targets (settle b.graph)) → (M : Graph) × (graph_of U ≡ drawn M)
        × Rebuilt (asked (settle b.graph) (length T.clauses) s r) M
    fits_by f a = (
      settle (asked b.graph (length T.clauses) s r),
      drawn_fits f,
      record {
        same = record {
          alike = rebuilt_alike T b.graph shaped L (length T.clauses) s r i k ks f.0 f.1;
          installables = rebuilt_installable T b.graph shaped L (length T.clauses) s r i k ks f.0 f.1 a;
          missings = rebuilt_missing T b.graph shaped L (length T.clauses) s r i k ks f.0 f.1 a;
          firsts =
              asked_firsts T b.graph (length T.clauses) s r shaped chosen_in
              (rebuilt_shaped T b.graph shaped L (length T.clauses) s r i k ks f.0 f.1) (build_matched T b q);
        };
        laid = rebuilt_laid T b.graph shaped L (length T.clauses) s r i k ks f.0 f.1;
        acyclic = rebuilt_acyclic T b.graph shaped L (length T.clauses) s r i k ks f.0 f.1 a;
      },
    )

    full_by : (Fits (settle b.graph) (length T.clauses) s r → ⊥) → graph_of U ≡ refused 8 (length T.clauses)
    full_by f =
        let c : length (asked (settle b.graph) (length T.clauses) s r).nodes + gone_count (settle b.graph)
        ≡ length (asked b.graph (length T.clauses) s r).nodes = count_asked T b.graph shaped (length T.clauses) s r in
        let w : length (settle b.graph).edges ≡ length b.graph.edges = settled_edges T b.graph shaped in
        split (ltb 128 (length (asked b.graph (length T.clauses) s r).nodes))
        (λ t. refused_by U 8 (length T.clauses) (extended_full T U valid s r E b q
        (link_full_node b.graph (length T.clauses) s r chosen_in shaped.nodes_most
        (ltb-true 128 (length (asked b.graph (length T.clauses) s r).nodes) t))))
        (λ t. let n : length (asked b.graph (length T.clauses) s r).nodes
        ≤ 128 = ltb-false 128 (length (asked b.graph (length T.clauses) s r).nodes) t in
        split (ltb (length b.graph.edges) 1024)
        (λ u. absurd (f (omega arith, (let x : length b.graph.edges < 1024 = ltb-true (length b.graph.edges) 1024 u in omega arith))))
        (λ u. refused_by U 8 (length T.clauses) (extended_full T U valid s r E b q
        (link_full_edge b.graph (length T.clauses) s r chosen_in n (ltb-false (length b.graph.edges) 1024 u)))))

  module _ (G : Graph) (d : graph_of T ≡ drawn G) (i : In (N.Solvable s) G.nodes) where
    known_solvable : s < length T.solvables
    known_solvable = all_in (Known T) G.nodes (N.Solvable s) (graphed T valid G d).0.known i

    F : From T G
    F = from T G d

    -- "The outcome must be what the graph rules give for the file's core with one more Excluded clause at its end": U is drawn, and its graph
    -- has the same nodes, edges in order and labels as the graph asked for
    pub what_if : fits_graph G r ≡ true → Acyclic (targets G) → (M : Graph) × (graph_of U ≡ drawn M) × Rebuilt (asked G (length T.clauses) s r) M
    what_if f =
        subst (λ (X : Graph). GraphLaid X → In (N.Solvable s) X.nodes → Fits X (length T.clauses) s r → Acyclic (targets X) → (M : Graph)
        × (graph_of U ≡ drawn M) × Rebuilt (asked X (length T.clauses) s r) M) F.settles
        (λ L j. fits_by F.build F.comes L j known_solvable) (drawn_laid T valid G d) i (fits_yes G (length T.clauses) s r f)

    -- with room U is drawn, whether or not there is a cycle
    pub what_if_drawn : fits_graph G r ≡ true → (M : Graph) × (graph_of U ≡ drawn M)
    what_if_drawn f =
        subst (λ (X : Graph). GraphLaid X → In (N.Solvable s) X.nodes → Fits X (length T.clauses) s r → (M : Graph) × (graph_of U ≡ drawn M)) F.settles
        (λ L j z. (settle (asked F.build.graph (length T.clauses) s r), drawn_fits F.build F.comes L j known_solvable z)) (drawn_laid T valid G d)
        i (fits_yes G (length T.clauses) s r f)

    -- "8 as in the build, unresolved counted, place the number of clauses": where it is given, the rules give it for U too
    pub what_if_full : fits_graph G r ≡ false → graph_of U ≡ refused 8 (length T.clauses)
    what_if_full f =
        subst (λ (X : Graph). GraphLaid X → In (N.Solvable s) X.nodes → (Fits X (length T.clauses) s r → ⊥)
        → graph_of U ≡ refused 8 (length T.clauses)) F.settles
        (λ L j. full_by F.build F.comes L j known_solvable) (drawn_laid T valid G d) i (fits_no G (length T.clauses) s r f)
