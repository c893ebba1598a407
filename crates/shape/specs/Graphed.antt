-- THE GRAPH'S PROMISE: what holds of every graph that is drawn from valid tables. The crates above cite this record.
use Rattle.std.specs.Prelude.{◌≡◌, Bool, true, false, cond, List, [], ◌∷◌, ◌++◌, map, length, get_or, drop, eqb}
use Rattle.std.proofs.Math.Path.{refl}
use Rattle.std.proofs.Common.{sym, ap, ◌∙◌, subst, inl, inr, arith, length-append, eqb-true, eq-eqb, ne_eqb}
use Rattle.std.proofs.Math.Option.{Option, none, some}
use Prim.Native.Nat.{ℕ, zero, suc, ◌+◌, ◌-◌, ◌<◌, ◌≤◌}
use Rattle.std.proofs.lemmas.List.{length-map}
use Rattle.std.proofs.Math.ListN.{get_or-append}
use Rattle.std.proofs.Math.Seq.{get_or-append_seam}
use Rattle.std.proofs.lemmas.Bool.{eqb-false}
use Rattle.basis.specs.Lists.{any, filter, snoc}
use Rattle.basis.specs.Members.{split, clash, either, In, All, Distinct, in_append, in_left, in_right, all_in}
use Rattle.records.specs.Tables.{Tables}
use Rattle.records.specs.Views.{clause_of, core_at}
use Rattle.index.specs.Promise.{Valid}
use Rattle.store.specs.declared.ConflictNode.{ConflictNode}
use Rattle.store.specs.declared.ConflictNode.TheVariants as N
use Rattle.store.specs.declared.ConflictEdge.{ConflictEdge}
use Rattle.store.specs.declared.Edge.{Edge}
use Rattle.store.specs.Graph.{Graph, handing, node_at, is_solvable, renumber, renumber_edge, last_one, front, settle, unreached}
use Rattle.expansion.specs.Expand.{Build, ClauseStep, on, stop, start_build, expand}
use Rattle.graph.specs.Graphs.{is_learnt, Turned, go, halt, expanded, core_turn, handed, turn_at, Built, built, stopped, build_from, build_of, Outcome, drawn}
use Rattle.graph.specs.Graphs.{refused, reached_all, graph_of}
use Rattle.shape.specs.Shaped.{Known, is_end, fits_target, Runs, Shaped, shaped_hand}
use Rattle.shape.specs.Reared.{Sane, expand_sane, start_sane}

pub record Graphed (T : Tables) (G : Graph) : Type 0 where
  -- node 0 is the root, and no other is
  pub tail : List ConflictNode
  pub nodes_are : G.nodes ≡ N.Root ∷ tail
  -- each node names something that there is, and stands once
  pub known : All (Known T) G.nodes
  pub once : Distinct G.nodes
  -- unresolved, if it is there, is node 1
  pub unresolved : (n : ℕ) → n < length G.nodes → node_at G n ≡ N.UnresolvedDependency → n ≡ 1
  pub nodes_most : length G.nodes ≤ 128
  pub solvables_most : length (filter is_solvable G.nodes) ≤ 126
  pub edges_most : length G.edges ≤ 1024
  -- each edge's ends are nodes of the kinds that its weight allows: an Excluded edge leads to an Excluded node, and no other does
  pub edges : All (Runs G.nodes) G.edges

-- ---- lists

filter_most : (ns : List ConflictNode) → length (filter is_solvable ns) ≤ length ns
filter_most [] = omega arith
filter_most (n ∷ ns) =
    split (is_solvable n) (λ t. rw (t, filter) (omega (arith, filter_most ns))) (λ t. rw (t, filter) (omega (arith, filter_most ns)))

-- an element at an index
pub at_in : (ns : List ConflictNode) (n : ℕ) → n < length ns → In (get_or ns n N.Root) ns
at_in [] n h = let f : ⊥ = omega arith in absurd f
at_in (x ∷ ns) zero h = inl refl
at_in (x ∷ ns) (suc n) h = inr (at_in ns n (omega arith))

-- a list that is not empty, cut before its last
pub record Cut (l : List ConflictNode) : Type 0 where
  pub ys : List ConflictNode
  pub z : ConflictNode
  pub whole : l ≡ snoc ys z
  pub last_is : last_one l ≡ z ∷ []
  pub front_is : front l ≡ ys

pub cut : (x : ConflictNode) (l : List ConflictNode) → Cut (x ∷ l)
cut x [] = record { ys = []; z = x; whole = refl; last_is = refl; front_is = refl }
cut x (y ∷ l) =
    let c = cut y l in
    record {
      ys = x ∷ c.ys;
      z = c.z;
      whole = ap (λ (m : List ConflictNode). x ∷ m) c.whole;
      last_is = c.last_is;
      front_is = ap (λ (m : List ConflictNode). x ∷ m) c.front_is;
    }

distinct_last : (ys : List ConflictNode) (z : ConflictNode) → Distinct (snoc ys z) → (In z ys → ⊥) × Distinct ys
distinct_last [] z d = (λ i. i, tt)
distinct_last (y ∷ ys) z d =
    let r = distinct_last ys z d.1 in
    (λ i. either i (λ e. d.0 (in_right y ys (z ∷ []) (inl (sym e)))) r.0, (λ i. d.0 (in_left y ys (z ∷ []) i), r.1))

all_last : (P : ConflictNode → Type 0) (ys : List ConflictNode) (z : ConflictNode) → All P (snoc ys z) → P z × All P ys
all_last P [] z a = (a.0, tt)
all_last P (y ∷ ys) z a = let r = all_last P ys z a.1 in (r.0, (a.0, r.1))

-- ---- unresolved stays

no_second : (x : ConflictNode) (ns : List ConflictNode) → (In x ns → ⊥) → (n : ℕ) → n < length ns → get_or ns n N.Root ≡ x → ⊥
no_second x ns h n l e = h (rw (sym e) (at_in ns n l))

graphed_stays : (T : Tables) (G : Graph) → Shaped T G → Graphed T G
graphed_stays T G S =
    record {
      tail = N.UnresolvedDependency ∷ S.rest;
      nodes_are = S.nodes_are;
      known = S.known;
      once = S.once;
      unresolved = one;
      nodes_most = S.nodes_most;
      solvables_most =
          let l : length G.nodes ≡ suc (suc (length S.rest)) = ap length S.nodes_are in
          rw S.nodes_are (omega (arith, filter_most S.rest, S.nodes_most));
      edges_most = S.edges_most;
      edges = S.edges;
    }
  where
    d : Distinct (N.Root ∷ N.UnresolvedDependency ∷ S.rest)
    d = rw S.nodes_are at S.once

    one : (n : ℕ) → n < length G.nodes → get_or G.nodes n N.Root ≡ N.UnresolvedDependency → n ≡ 1
    one n l e = which n (rw S.nodes_are at l) (rw S.nodes_are at e)
      where
        which : (n : ℕ) → n < length (N.Root ∷ N.UnresolvedDependency ∷ S.rest)
            → get_or (N.Root ∷ N.UnresolvedDependency ∷ S.rest) n N.Root ≡ N.UnresolvedDependency → n ≡ 1
        which zero l e = clash (cc)
        which (suc zero) l e = refl
        which (suc (suc n)) l e = absurd (no_second N.UnresolvedDependency S.rest d.1.0 n (omega arith) e)

-- ---- unresolved goes, and the last node takes its number

-- where the nodes ns stand among ms
pub record Moves (ns ms : List ConflictNode) (last : ℕ) : Type 0 where
  pub inside : (x : ℕ) → x < length ns → (x ≡ 1 → ⊥) → renumber last x < length ms
  pub same : (x : ℕ) → x < length ns → (x ≡ 1 → ⊥) → get_or ms (renumber last x) N.Root ≡ get_or ns x N.Root

runs_moved : (ns ms : List ConflictNode) (last : ℕ) → Moves ns ms last → is_end (get_or ns 1 N.Root) ≡ false → (e : Edge) → Runs ns e → eqb e.target 1 ≡ false
    → Runs ms (renumber_edge last e)
runs_moved ns ms last M f e R t =
    record {
      from = M.inside e.source R.from source;
      to = M.inside e.target R.to target;
      source_end = rw (M.same e.source R.from source) R.source_end;
      target_fits = rw (M.same e.target R.to target) R.target_fits;
    }
  where
    target : e.target ≡ 1 → ⊥
    target = eqb-false e.target 1 t

    source : e.source ≡ 1 → ⊥
    source q = let z : true ≡ false = sym R.source_end ∙ ap (λ (x : ℕ). is_end (get_or ns x N.Root)) q ∙ f in clash (cc)

all_moved : (ns ms : List ConflictNode) (last : ℕ) → Moves ns ms last → is_end (get_or ns 1 N.Root) ≡ false → (es : List Edge)
    → any (λ e. eqb e.target 1) es ≡ false → All (Runs ns) es → All (Runs ms) (map (renumber_edge last) es)
all_moved ns ms last M f [] q R = tt
all_moved ns ms last M f (e ∷ es) q R =
    split (eqb e.target 1)
    (λ t. let z : true ≡ false = rw (t, any) at q in clash (cc))
    (λ t. (runs_moved ns ms last M f e R.0 t, all_moved ns ms last M f es (rw (t, any) at q) R.1))

pub moves_none : Moves (N.Root ∷ N.UnresolvedDependency ∷ []) (N.Root ∷ []) 1
moves_none = record { inside = inside; same = same }
  where
    inside : (x : ℕ) → x < 2 → (x ≡ 1 → ⊥) → renumber 1 x < 1
    inside zero l n = omega arith
    inside (suc x) l n = absurd (n (omega arith))

    same : (x : ℕ) → x < 2 → (x ≡ 1 → ⊥) → get_or (N.Root ∷ []) (renumber 1 x) N.Root ≡ get_or (N.Root ∷ N.UnresolvedDependency ∷ []) x N.Root
    same zero l n = refl
    same (suc x) l n = absurd (n (omega arith))

pub length_snoc : (ys : List ConflictNode) (z : ConflictNode) → length (snoc ys z) ≡ suc (length ys)
length_snoc ys z = length-append ys (z ∷ []) ∙ omega arith

pub moves_last : (ys : List ConflictNode) (z : ConflictNode) → Moves (N.Root ∷ N.UnresolvedDependency ∷ snoc ys z) (N.Root ∷ z ∷ ys) (suc (suc (length ys)))
moves_last ys z = record { inside = inside; same = same }
  where
    long : length (snoc ys z) ≡ suc (length ys)
    long = length_snoc ys z

    inside : (x : ℕ) → x < suc (suc (length (snoc ys z))) → (x ≡ 1 → ⊥) → renumber (suc (suc (length ys))) x < suc (suc (length ys))
    inside x l n =
        split (eqb x (suc (suc (length ys))))
        (λ t. rw t (omega arith))
        (λ t. let d : x ≡ suc (suc (length ys)) → ⊥ = eqb-false x (suc (suc (length ys))) t in rw t (omega (arith, long, d)))

    other : (x : ℕ) → x < suc (suc (length ys)) → (x ≡ 1 → ⊥) → get_or (N.Root ∷ z ∷ ys) x N.Root ≡ get_or (N.Root ∷ N.UnresolvedDependency ∷ snoc ys z) x N.Root
    other zero l n = refl
    other (suc zero) l n = absurd (n refl)
    other (suc (suc x)) l n = sym (get_or-append ys (z ∷ []) N.Root x (omega arith))

    same : (x : ℕ) → x < suc (suc (length (snoc ys z))) → (x ≡ 1 → ⊥)
        → get_or (N.Root ∷ z ∷ ys) (renumber (suc (suc (length ys))) x) N.Root ≡ get_or (N.Root ∷ N.UnresolvedDependency ∷ snoc ys z) x N.Root
    same x l n =
        split (eqb x (suc (suc (length ys))))
        (λ t. rw t (sym (ap (λ (i : ℕ). get_or (N.Root ∷ N.UnresolvedDependency ∷ snoc ys z) i N.Root) (eqb-true x (suc (suc (length ys))) t)
        ∙ get_or-append_seam ys z [] N.Root)))
        (λ t. let d : x ≡ suc (suc (length ys)) → ⊥ = eqb-false x (suc (suc (length ys))) t in rw t (other x (omega (arith, long, d)) n))

-- fs, c: the nodes' clauses and the one at hand, whatever they are
abbrev gone : List ConflictNode → List Edge → List ℕ → ℕ → Graph
gone ns es fs c = record { nodes = N.Root ∷ last_one (drop 2 ns) ++ front (drop 2 ns); edges = map (renumber_edge (length ns - 1)) es; firsts = fs; hand = c }

gone_none : (T : Tables) (es : List Edge) (fs : List ℕ) (c : ℕ) → length es ≤ 1024 → any (λ e. eqb e.target 1) es ≡ false
    → All (Runs (N.Root ∷ N.UnresolvedDependency ∷ [])) es → Graphed T (gone (N.Root ∷ N.UnresolvedDependency ∷ []) es fs c)
gone_none T es fs c m q R =
    record {
      tail = [];
      nodes_are = refl;
      known = (tt, tt);
      once = (λ i. i, tt);
      unresolved = none;
      nodes_most = omega arith;
      solvables_most = omega arith;
      edges_most = rw length-map m;
      edges = all_moved (N.Root ∷ N.UnresolvedDependency ∷ []) (N.Root ∷ []) 1 moves_none refl es q R;
    }
  where
    none : (n : ℕ) → n < 1 → get_or (N.Root ∷ []) n N.Root ≡ N.UnresolvedDependency → n ≡ 1
    none zero l e = clash (cc)
    none (suc n) l e = let f : ⊥ = omega arith in absurd f

gone_last : (T : Tables) (ys : List ConflictNode) (z : ConflictNode) (es : List Edge) (fs : List ℕ) (c : ℕ)
    → All (Known T) (N.Root ∷ N.UnresolvedDependency ∷ snoc ys z) → Distinct (N.Root ∷ N.UnresolvedDependency ∷ snoc ys z) → suc (suc (suc (length ys))) ≤ 128
    → length es ≤ 1024 → any (λ e. eqb e.target 1) es ≡ false → All (Runs (N.Root ∷ N.UnresolvedDependency ∷ snoc ys z)) es
    → Graphed T (record { nodes = N.Root ∷ z ∷ ys; edges = map (renumber_edge (suc (suc (length ys)))) es; firsts = fs; hand = c })
gone_last T ys z es fs c k d l m q R =
    let a = all_last (Known T) ys z k.1.1 in
    let b = distinct_last ys z d.1.1 in
    record {
      tail = z ∷ ys;
      nodes_are = refl;
      known = (tt, (a.0, a.1));
      once = (rootless, (b.0, b.1));
      unresolved = λ n h e. absurd (none n h e);
      nodes_most = omega arith;
      solvables_most = omega (arith, filter_most (z ∷ ys));
      edges_most = rw length-map m;
      edges = all_moved (N.Root ∷ N.UnresolvedDependency ∷ snoc ys z) (N.Root ∷ z ∷ ys) (suc (suc (length ys))) (moves_last ys z) refl es q R;
    }
  where
    rootless : In N.Root (z ∷ ys) → ⊥
    rootless i = d.0 (either i (λ e. inr (in_right N.Root ys (z ∷ []) (inl e))) (λ j. inr (in_left N.Root ys (z ∷ []) j)))

    gone_in : In N.UnresolvedDependency (N.Root ∷ z ∷ ys) → ⊥
    gone_in i =
        either i (λ e. clash (cc)) (λ j. d.1.0 (either j (λ e. in_right N.UnresolvedDependency ys (z ∷ []) (inl e)) (λ o.
        in_left N.UnresolvedDependency ys (z ∷ []) o)))

    none : (n : ℕ) → n < length (N.Root ∷ z ∷ ys) → get_or (N.Root ∷ z ∷ ys) n N.Root ≡ N.UnresolvedDependency → ⊥
    none n h e = no_second N.UnresolvedDependency (N.Root ∷ z ∷ ys) gone_in n h e

gone_by : (T : Tables) (rest : List ConflictNode) (es : List Edge) (fs : List ℕ) (h : ℕ) → All (Known T) (N.Root ∷ N.UnresolvedDependency ∷ rest)
    → Distinct (N.Root ∷ N.UnresolvedDependency ∷ rest) → suc (suc (length rest)) ≤ 128 → length es ≤ 1024 → any (λ e. eqb e.target 1) es ≡ false
    → All (Runs (N.Root ∷ N.UnresolvedDependency ∷ rest)) es → Graphed T (gone (N.Root ∷ N.UnresolvedDependency ∷ rest) es fs h)
gone_by T [] es fs h k d l m q R = gone_none T es fs h m q R
gone_by T (x ∷ r) es fs h k d l m q R =
    let c : Cut (x ∷ r) = cut x r in
    let w : x ∷ r ≡ snoc c.ys c.z = c.whole in
    let n : length (x ∷ r) ≡ suc (length c.ys) = ap length w ∙ length_snoc c.ys c.z in
    let o : length (N.Root ∷ N.UnresolvedDependency ∷ x ∷ r) - 1 ≡ suc (suc (length c.ys)) = omega arith in
    rw (c.last_is, c.front_is, o)
    (gone_last T c.ys c.z es fs h
    (subst (λ (l : List ConflictNode). All (Known T) (N.Root ∷ N.UnresolvedDependency ∷ l)) w k)
    (subst (λ (l : List ConflictNode). Distinct (N.Root ∷ N.UnresolvedDependency ∷ l)) w d) (omega arith) m q
    (subst (λ (l : List ConflictNode). All (Runs (N.Root ∷ N.UnresolvedDependency ∷ l)) es) w R))

pub graphed_settle : (T : Tables) (G : Graph) → Shaped T G → Graphed T (settle G)
unfolding settle
graphed_settle T G S =
    split (any (λ e. eqb e.target 1) G.edges)
    (λ t. rw t (graphed_stays T G S))
    (λ t. let p : G.nodes ≡ N.Root ∷ N.UnresolvedDependency ∷ S.rest = S.nodes_are in
    rw (t, p) (gone_by T S.rest G.edges (65535 ∷ last_one (drop 2 G.firsts)
    ++ front (drop 2 G.firsts)) G.hand (rw p at S.known) (rw p at S.once) (rw p at S.nodes_most) S.edges_most t (rw p at S.edges)))

-- ---- all clauses

module _ (T : Tables) (valid : Valid T) where
  turn_sane : (i : ℕ) (b d : Build) → Sane T b → turn_at T i b ≡ go d → Sane T d
  unfolding turn_at
  turn_sane i b d P e =
      split (core_at T i)
      (λ t. split (is_learnt (clause_of T i))
      (λ u. let z : halt 7 ≡ go d = rw (t, turn_at, u, core_turn) at e in clash (cc))
      (λ u. step (expand T (clause_of T i) (handed i b)) refl (rw (t, turn_at, u, core_turn) at e)))
      (λ t. let z : go b ≡ go d = rw (t, turn_at) at e in let y : b ≡ d = cc in rw (← y) P)
    where
      step : (s : ClauseStep) → expand T (clause_of T i) (handed i b) ≡ s → expanded (expand T (clause_of T i) (handed i b)) ≡ go d → Sane T d
      step (on c) q z =
          let y : go c ≡ go d = rw (q, expanded) at z in let x : c ≡ d = cc in
          rw (← x) (expand_sane T valid i (handed i b) c (record { shaped = shaped_hand T b.graph i P.shaped; lasts = P.lasts }) q)
      step stop q z = let y : halt 8 ≡ go d = rw (q, expanded) at z in clash (cc)

  build_step : (n i : ℕ) (b d : Build) → ((c : Build) → Sane T c → build_from n T (suc i) c ≡ built d → Sane T d) → Sane T b → (t : Turned) → turn_at T i b ≡ t
      → build_from (suc n) T i b ≡ built d → Sane T d
  unfolding build_from
  build_step n i b d f P (go c) q e = f c (turn_sane i b c P q) (rw (q, build_from) at e)
  build_step n i b d f P (halt k) q e = let z : stopped k i ≡ built d = rw (q, build_from) at e in clash (cc)

  pub build_sane : (n i : ℕ) (b d : Build) → Sane T b → build_from n T i b ≡ built d → Sane T d
  unfolding build_from
  build_sane zero i b d P e = let y : b ≡ d = cc in rw (← y) P
  build_sane (suc n) i b d P e = build_step n i b d (λ c Q z. build_sane n (suc i) c d Q z) P (turn_at T i b) refl e

  settled : (b : Build) → build_of T ≡ built b → Graphed T (settle b.graph)
  unfolding build_of
  settled b e = graphed_settle T b.graph (build_sane (length T.clauses) 0 start_build b (start_sane T) e).shaped

  -- the theorem: a drawn graph is as promised, and every node of it is reached
  pub graphed : (G : Graph) → graph_of T ≡ drawn G → Graphed T G × (unreached G ≡ none)
  unfolding graph_of reached_all
  graphed G e = by (build_of T) refl
    where
      end : (b : Build) → build_of T ≡ built b → (o : Option ℕ) → unreached (settle b.graph) ≡ o → Graphed T G × (unreached G ≡ none)
      end b q none u =
          let z : drawn (settle b.graph) ≡ drawn G = rw (q, graph_of, u, reached_all) at e in
          let y : settle b.graph ≡ G = cc in
          rw (← y) (settled b q, u)
      end b q (some n) u = let z : refused 9 n ≡ drawn G = rw (q, graph_of, u, reached_all) at e in clash (cc)

      by : (B : Built) → build_of T ≡ B → Graphed T G × (unreached G ≡ none)
      by (built b) q = end b q (unreached (settle b.graph)) refl
      by (stopped k i) q = let z : refused k i ≡ drawn G = rw (q, graph_of) at e in clash (cc)
