-- Every clause's number in a drawn graph is that of a core clause, or 65,535 for a node that none added.
use Rattle.std.specs.Prelude.{◌≡◌, Bool, true, false, ◌||◌, List, [], ◌∷◌, ◌++◌, map, length, drop}
use Rattle.std.proofs.Math.Path.{refl}
use Rattle.std.proofs.Common.{sym, ap, ◌∙◌, subst}
use Rattle.std.proofs.Math.Option.{Option, none, some}
use Prim.Native.Nat.{ℕ, zero, suc, ◌-◌}
use Rattle.std.proofs.Math.Dec.{eqb}
use Rattle.basis.specs.Lists.{any}
use Rattle.basis.specs.Members.{split, clash, All, all_append, all_map}
use Rattle.records.specs.Tables.{Tables}
use Rattle.records.specs.Views.{core_at}
use Rattle.store.specs.declared.Edge.{Edge}
use Rattle.store.specs.Graph.{Graph, handing, renumber_edge, last_one, front, settle, unreached}
use Rattle.expansion.specs.Expand.{Build, start_build}
use Rattle.graph.specs.Graphs.{Turned, go, halt, turn_at, Built, built, stopped, build_from, build_of, Outcome, drawn, refused, reached_all, graph_of}
use Rattle.graph.specs.Working.{turn_at_in, goes_in}
use Rattle.demands.specs.Noted.{Noted, turned_graph}
use Rattle.demands.specs.Cored.{Cored}
use Rattle.demands.specs.Laws.Noted.{turn_noted}

module _ {A : Type 0} (P : A → Type 0) where
  last_all : (xs : List A) → All P xs → All P (last_one xs)
  last_all [] h = tt
  last_all (x ∷ []) h = h
  last_all (x ∷ y ∷ r) h = last_all (y ∷ r) h.1

  front_all : (xs : List A) → All P xs → All P (front xs)
  front_all [] h = tt
  front_all (x ∷ []) h = tt
  front_all (x ∷ y ∷ r) h = (h.0, front_all (y ∷ r) h.1)

  behind_two : (xs : List A) → All P xs → All P (drop 2 xs)
  behind_two [] h = tt
  behind_two (x ∷ []) h = tt
  behind_two (x ∷ y ∷ r) h = h.1.1

module _ (T : Tables) where
  abbrev InCore : Edge → Type 0
  InCore e = core_at T e.clause ≡ true

  abbrev Shows : ℕ → Type 0
  Shows c = eqb c 65535 || core_at T c ≡ true

  or-true : (a b : Bool) → b ≡ true → a || b ≡ true
  or-true true b q = refl
  or-true false b q = q

  -- ---- one clause

  cored_more : (g h : Graph) (i : ℕ) → core_at T i ≡ true → Noted (handing i g) h → Cored T g → Cored T h
  cored_more g h i t N C =
      let es = N.edges in
      let cs = N.firsts in
      record {
        edges = subst (All InCore) (sym N.edges_are)
            (all_append InCore g.edges es C.edges (all_map (λ e. e.clause ≡ i) InCore es (λ e q. ap (core_at T) q ∙ t) N.edges_noted));
        firsts = subst (All Shows) (sym N.firsts_are)
            (all_append Shows g.firsts cs C.firsts (all_map (λ c. c
            ≡ i) Shows cs (λ c q. or-true (eqb c 65535) (core_at T c) (ap (core_at T) q ∙ t)) N.firsts_noted));
      }

  turn_cored : (i : ℕ) (b : Build) → Cored T b.graph → Cored T (turned_graph (turn_at_in T i b))
  unfolding turn_at_in
  turn_cored i b C =
      split (core_at T i)
      (λ t. cored_more b.graph (turned_graph (turn_at_in T i b)) i t (turn_noted T i b t) C)
      (λ t. rw (t, turn_at_in) C)

  -- ---- all clauses

  build_step : (n i : ℕ) (b d : Build) → ((c : Build) → Cored T c.graph → build_from n T (suc i) c ≡ built d → Cored T d.graph) → Cored T b.graph
      → (t : Turned) → turn_at T i b ≡ t → build_from (suc n) T i b ≡ built d → Cored T d.graph
  unfolding build_from
  build_step n i b d f C (go c) q e = f c (rw (goes_in T i b c q) at (turn_cored i b C)) (rw (q, build_from) at e)
  build_step n i b d f C (halt k) q e = let z : stopped k i ≡ built d = rw (q, build_from) at e in clash (cc)

  build_cored : (n i : ℕ) (b d : Build) → Cored T b.graph → build_from n T i b ≡ built d → Cored T d.graph
  unfolding build_from
  build_cored zero i b d C e = let y : b ≡ d = cc in rw (← y) C
  build_cored (suc n) i b d C e = build_step n i b d (λ c D z. build_cored n (suc i) c d D z) C (turn_at T i b) refl e

  start_cored : Cored T start_build.graph
  start_cored = record { edges = tt; firsts = (refl, (refl, tt)) }

  -- ---- unresolved may go

  map_cored : (last : ℕ) (es : List Edge) → All InCore es → All InCore (map (renumber_edge last) es)
  map_cored last [] h = tt
  map_cored last (e ∷ es) h = (h.0, map_cored last es h.1)

  settle_cored : (G : Graph) → Cored T G → Cored T (settle G)
  unfolding settle
  settle_cored G C =
      split (any (λ e. eqb e.target 1) G.edges)
      (λ t. rw t C)
      (λ t. rw t (record {
        edges = map_cored (length G.nodes - 1) G.edges C.edges;
        firsts = (
          refl,
          all_append Shows (last_one (drop 2 G.firsts)) (front (drop 2 G.firsts))
              (last_all Shows (drop 2 G.firsts) (behind_two Shows G.firsts C.firsts))
              (front_all Shows (drop 2 G.firsts) (behind_two Shows G.firsts C.firsts)),
        );
      }))

  -- ---- the theorem

  pub drawn_cored : (G : Graph) → graph_of T ≡ drawn G → Cored T G
  unfolding graph_of reached_all build_of
  drawn_cored G e = by (build_of T) refl
    where
      end : (b : Build) → build_of T ≡ built b → (o : Option ℕ) → unreached (settle b.graph) ≡ o → Cored T G
      end b q none u =
          let z : drawn (settle b.graph) ≡ drawn G = rw (q, graph_of, u, reached_all) at e in
          let y : settle b.graph ≡ G = cc in
          rw (← y) (settle_cored b.graph (build_cored (length T.clauses) 0 start_build b start_cored q))
      end b q (some n) u = let z : refused 9 n ≡ drawn G = rw (q, graph_of, u, reached_all) at e in clash (cc)

      by : (B : Built) → build_of T ≡ B → Cored T G
      by (built b) q = end b q (unreached (settle b.graph)) refl
      by (stopped k i) q = let z : refused k i ≡ drawn G = rw (q, graph_of) at e in clash (cc)
