-- (B) "What if this one were excluded too": the graph with one more edge behind the others, to the excluded node of the reason, which is
-- added at the end where there is none. What it keeps of a laid graph, and which labels stay.
use Rattle.std.specs.Prelude.{◌≡◌, ◌⊎◌, Bool, true, false, not, ◌&&◌, ◌||◌, ℕ, zero, suc, ◌+◌, ◌<◌, ◌≤◌, length, get_or, ltb}
use Rattle.std.proofs.Math.Path.{refl, sym}
use Rattle.std.proofs.Common.{ap, ◌∙◌, subst, inl, inr, arith, length-append}
use mathlib.Core.List.{List, [], ◌∷◌, ◌++◌, map, reverse, reverse-append}
use Rattle.std.proofs.Math.ListN.{get_or-append}
use Rattle.std.proofs.Math.Seq.{get_or-append_seam}
use Rattle.std.proofs.Math.Dec.{eqb}
use borrow.Author.Tests.{eqb-true, eqb-false, eq-eqb, ne_eqb, ltb-true, ltb-false}
use Rattle.basis.specs.Lists.{any, filter, snoc}
use Rattle.basis.specs.Members.{In, All, Distinct, split, either, clash, no_both, in_append, in_left, in_right, all_append, all_map, any_in, any_some}
use Rattle.basis.specs.Members.{filter_in}
use Rattle.store.specs.declared.ConflictNode.{ConflictNode}
use Rattle.store.specs.declared.ConflictNode.TheVariants as N
use Rattle.store.specs.declared.ConflictCause.{ConflictCause}
use Rattle.store.specs.declared.ConflictCause.TheVariants as C
use Rattle.store.specs.declared.ConflictEdge.{ConflictEdge}
use Rattle.store.specs.declared.ConflictEdge.TheVariants as W
use Rattle.store.specs.declared.Edge.{Edge}
use Rattle.store.specs.Graph.{Graph, same_node, node_at, out, into, is_unresolved, is_excluded}
use Rattle.store.specs.Words.{same_true, same_refl}
use Rattle.links.specs.Paths.{Path, here, along}
use Rattle.shape.specs.Shaped.{Runs, is_end, fits_target, runs_more, distinct_snoc}
use Rattle.labels.specs.Runs.{runs_of, every_run, some_run}
use Rattle.labels.specs.Ordered.{Leads, edge, onto, Acyclic}
use Rattle.labels.specs.Labels.{targets, order_of, conflicts, excludes, can_install, is_lacking, installable, missing, has_unresolved}
use Rattle.labels.specs.Facts.{reverse_in, order_ordered, missing_none}
use Rattle.labels.proofs.Local.{install_local, lacking_local}
use Rattle.whatif.specs.Laws.Well.{induct, begins, before}
use Rattle.whatif.specs.Laws.Laid.{GraphLaid, edge_of, edge_target', runs_at_lem, target_below, laid_sound, in_order, laid_installable, laid_missing}
use Rattle.store.specs.Numbers.{number_of}
use Rattle.whatif.specs.Asked.{has_node, nodes_with, with_first, new_edge, asked}
use Rattle.whatif.specs.Laws.Alike.{number_in, number_out_lem}

-- ---- the nodes

-- either the node was there, or it is the last
pub data With (ns : List ConflictNode) (x : ConflictNode) : List ConflictNode → Type 0 where
  there : In x ns → With ns x ns
  new : (In x ns → ⊥) → With ns x (snoc ns x)

pub with_node_lem : (ns : List ConflictNode) (x : ConflictNode) → With ns x (nodes_with ns x)
with_node_lem ns x =
    split (any (same_node x) ns)
    (λ t. let r = any_some (same_node x) ns t in rw (t, nodes_with) (there (rw (same_true x r.0 r.2) r.1)))
    (λ t. rw (t, nodes_with) (new (λ i. no_both (any (same_node x) ns) (any_in (same_node x) x ns (same_refl x) i) t)))

-- the nodes as they were, with the number of x among them
pub record Kept (ns : List ConflictNode) (x : ConflictNode) (ms : List ConflictNode) : Type 0 where
  pub ys : List ConflictNode
  pub grown : ms ≡ ns ++ ys
  pub inside : number_of ns x < length ms
  pub stands : get_or ms (number_of ns x) N.Root ≡ x
  pub which : (n : ℕ) → n < length ms → (n < length ns) ⊎ (n ≡ number_of ns x)
  pub once : Distinct ns → Distinct ms
  pub from : (y : ConflictNode) → In y ms → In y ns ⊎ (y ≡ x)
  pub has_x : In x ms

append_none : (l : List ConflictNode) → l ≡ l ++ []
append_none [] = refl
append_none (x ∷ l) = ap (λ (m : List ConflictNode). x ∷ m) (append_none l)

kept_by : (ns : List ConflictNode) (x : ConflictNode) (ms : List ConflictNode) → With ns x ms → Kept ns x ms
kept_by ns x ms (there i) =
    let r = number_in ns x i in
    record { ys = []; grown = append_none ns; inside = r.0; stands = r.1; which = λ n h. inl h; once = λ d. d; from = λ y j. inl j; has_x = i }
kept_by ns x ms (new f) =
    let q : number_of ns x ≡ length ns = number_out_lem ns x f in
    let l : length (snoc ns x) ≡ suc (length ns) = length-append ns (x ∷ []) ∙ omega arith in
    record {
      ys = x ∷ [];
      grown = refl;
      inside = omega arith;
      stands = rw q (get_or-append_seam ns x [] N.Root);
      which =
          λ n h. split (ltb n (length ns)) (λ t. inl (ltb-true n (length ns) t)) (λ t. inr (let u : length ns ≤ n = ltb-false n (length ns) t in omega arith));
      once = λ d. distinct_snoc ns x d f;
      from = λ y j. either (in_append y ns (x ∷ []) j) (λ k. inl k) (λ k. either k (λ e. inr e) (λ z. absurd z));
      has_x = in_right x ns (x ∷ []) (inl refl);
    }

pub kept : (ns : List ConflictNode) (x : ConflictNode) → Kept ns x (nodes_with ns x)
kept ns x = kept_by ns x (nodes_with ns x) (with_node_lem ns x)

-- ---- the graph

excluded_weight : (w : ConflictEdge) (r : ℕ) → fits_target w (N.Excluded r) ≡ true → is_excluded w ≡ true
excluded_weight (W.Requires q) r e = clash (cc)
excluded_weight (W.Conflict (C.Locked l)) r e = clash (cc)
excluded_weight (W.Conflict (C.Constrains v)) r e = clash (cc)
excluded_weight (W.Conflict C.ForbidMultipleInstances) r e = clash (cc)
excluded_weight (W.Conflict C.Excluded) r e = refl

module _ (G : Graph) (cl s r : ℕ) where
  -- the numbers of the chosen one and of the reason
  abbrev pub chosen : ℕ
  chosen = number_of G.nodes (N.Solvable s)

  abbrev pub reason : ℕ
  reason = number_of G.nodes (N.Excluded r)

  pub nodes_kept : Kept G.nodes (N.Excluded r) (asked G cl s r).nodes
  unfolding asked
  nodes_kept = kept G.nodes (N.Excluded r)

  pub edges_are : (asked G cl s r).edges ≡ snoc G.edges (new_edge G.nodes cl s r)
  unfolding asked
  edges_are = refl

  pub longer : length G.nodes ≤ length (asked G cl s r).nodes
  longer = rw (nodes_kept.grown, length-append G.nodes nodes_kept.ys) (omega arith)

  pub old_node : (n : ℕ) → n < length G.nodes → node_at (asked G cl s r) n ≡ node_at G n
  old_node n h = ap (λ (l : List ConflictNode). get_or l n N.Root) nodes_kept.grown ∙ get_or-append G.nodes nodes_kept.ys N.Root n h

  pub reason_node : node_at (asked G cl s r) reason ≡ N.Excluded r
  reason_node = nodes_kept.stands

  old_edge : (e : Edge) → In e G.edges → In e (asked G cl s r).edges
  old_edge e i = rw edges_are (in_left e G.edges (new_edge G.nodes cl s r ∷ []) i)

  new_edge_lem : In (new_edge G.nodes cl s r) (asked G cl s r).edges
  new_edge_lem = rw edges_are (in_right (new_edge G.nodes cl s r) G.edges (new_edge G.nodes cl s r ∷ []) (inl refl))

  which_edge : (e : Edge) → In e (asked G cl s r).edges → In e G.edges ⊎ (e ≡ new_edge G.nodes cl s r)
  which_edge e i =
      either (in_append e G.edges (new_edge G.nodes cl s r ∷ []) (subst (λ (es : List Edge). In e es) edges_are i)) (λ j. inl j) (λ j.
      either j (λ q. inr q) (λ z. absurd z))

  module _ (L : GraphLaid G) (i : In (N.Solvable s) G.nodes) where
    pub chosen_below : chosen < length G.nodes
    chosen_below = (number_in G.nodes (N.Solvable s) i).0

    pub chosen_node : node_at G chosen ≡ N.Solvable s
    chosen_node = (number_in G.nodes (N.Solvable s) i).1

    chosen_still : node_at (asked G cl s r) chosen ≡ N.Solvable s
    chosen_still = old_node chosen chosen_below ∙ chosen_node

    pub two : 1 < length G.nodes
    two = by chosen refl
      where
        by : (k : ℕ) → chosen ≡ k → 1 < length G.nodes
        by zero q = let z : N.Root ≡ N.Solvable s = sym L.root ∙ ap (node_at G) (sym q) ∙ chosen_node in clash (cc)
        by (suc k) q = omega (arith, chosen_below)

    pub apart : chosen ≡ reason → ⊥
    apart q = let z : N.Solvable s ≡ N.Excluded r = sym chosen_still ∙ ap (node_at (asked G cl s r)) q ∙ reason_node in clash (cc)

    new_runs : Runs (asked G cl s r).nodes (new_edge G.nodes cl s r)
    new_runs = record { from = omega (arith, chosen_below, longer); to = nodes_kept.inside; source_end = rw chosen_still; target_fits = rw reason_node }

    old_path : {n : ℕ} → Path G 0 n → Path (asked G cl s r) 0 n
    old_path here = here
    old_path (along e j p) = along e (old_edge e j) (old_path p)

    pub asked_laid : length (asked G cl s r).nodes ≤ 128 → GraphLaid (asked G cl s r)
    asked_laid m =
        record {
          some = omega (arith, L.some, longer);
          root = old_node 0 L.some ∙ L.root;
          most = m;
          once = nodes_kept.once L.once;
          runs = rw edges_are (all_append (Runs (asked G cl s r).nodes) G.edges (new_edge G.nodes cl s r ∷ []) grown (new_runs, tt));
          unresolved = only;
          reached =
              λ n h. either (nodes_kept.which n h) (λ l. old_path (L.reached n l)) (λ q.
              rw q (along (new_edge G.nodes cl s r) new_edge_lem (old_path (L.reached chosen chosen_below))));
        }
      where
        grown : All (Runs (asked G cl s r).nodes) G.edges
        grown =
            rw nodes_kept.grown
            (all_map (Runs G.nodes) (Runs (G.nodes ++ nodes_kept.ys)) G.edges (λ e R. runs_more G.nodes nodes_kept.ys e R) L.runs)

        only : (n : ℕ) → n < length (asked G cl s r).nodes → node_at (asked G cl s r) n ≡ N.UnresolvedDependency → n ≡ 1
        only n h e =
            either (nodes_kept.which n h)
            (λ l. L.unresolved n l (sym (old_node n l) ∙ e))
            (λ q. let z : N.Excluded r ≡ N.UnresolvedDependency = sym reason_node ∙ ap (node_at (asked G cl s r)) (sym q) ∙ e in clash (cc))

    -- ---- paths

    pub old_target : (n t : ℕ) → In t (targets G n) → In t (targets (asked G cl s r) n)
    old_target n t j = let w = edge_of G n t j in edge_target' (asked G cl s r) n t w.0 (old_edge w.0 w.1) w.2 w.3

    pub which_target : (n t : ℕ) → In t (targets (asked G cl s r) n) → In t (targets G n) ⊎ ((n ≡ chosen) × (t ≡ reason))
    which_target n t j =
        let w = edge_of (asked G cl s r) n t j in
        either (which_edge w.0 w.1)
        (λ k. inl (edge_target' G n t w.0 k w.2 w.3))
        (λ q. inr (sym w.2 ∙ ap (λ (e : Edge). e.source) q, sym w.3 ∙ ap (λ (e : Edge). e.target) q))

    old_leads : {a b : ℕ} → Leads (targets G) a b → Leads (targets (asked G cl s r)) a b
    old_leads {a} {b} (edge j) = edge (old_target a b j)
    old_leads {a} {b} (onto {b = d} p j) = onto (old_leads p) (old_target d b j)

    -- no edge leaves an excluded node
    pub ends_there : (t : ℕ) → In t (targets (asked G cl s r) reason) → ⊥
    ends_there t j =
        either (which_target reason t j)
        (λ k. let w = edge_of G reason t k in
        let R : Runs G.nodes w.0 = runs_at_lem G L w.0 w.1 in
        let h : reason < length G.nodes = rw (← w.2) R.from in
        let q : node_at G w.0.source ≡ N.Excluded r = ap (node_at G) w.2 ∙ sym (old_node reason h) ∙ reason_node in
        let z : is_end (N.Excluded r) ≡ true = rw q at R.source_end in
        clash (cc))
        (λ k. apart (sym k.0))

    leads_back : {a b : ℕ} → Leads (targets (asked G cl s r)) a b → Leads (targets G) a b ⊎ (b ≡ reason)
    leads_back {a} {b} (edge j) = either (which_target a b j) (λ k. inl (edge k)) (λ k. inr k.1)
    leads_back {a} {b} (onto {b = d} p j) =
        either (which_target d b j)
        (λ k. either (leads_back p) (λ q. inl (onto q k)) (λ q. absurd (ends_there b (rw q at j))))
        (λ k. inr k.1)

    -- "The graph must have no cycle": asking makes none, and removes none
    pub asked_acyclic : Acyclic (targets G) → Acyclic (targets (asked G cl s r))
    asked_acyclic a n p =
        either (leads_back p) (λ q. a n q)
        (λ q. let w = begins (targets (asked G cl s r)) (subst (λ (k : ℕ). Leads (targets (asked G cl s r)) k n) q p) in ends_there w.0 w.1)

    pub asked_cyclic : Acyclic (targets (asked G cl s r)) → Acyclic (targets G)
    asked_cyclic a n p = a n (old_leads p)

    -- ---- what stands around the other nodes

    pub out_same : (n : ℕ) → (n ≡ chosen → ⊥) → out (asked G cl s r) n ≡ out G n
    unfolding out
    out_same n d =
        rw (edges_are, reverse-append G.edges (new_edge G.nodes cl s r ∷ []), ne_eqb chosen n (λ q. d (sym q)), filter)

    into_same : (n : ℕ) → (n ≡ reason → ⊥) → into (asked G cl s r) n ≡ into G n
    unfolding into
    into_same n d =
        rw (edges_are, reverse-append G.edges (new_edge G.nodes cl s r ∷ []), ne_eqb reason n (λ q. d (sym q)), filter)

    pub into_reason : any excludes (into (asked G cl s r) reason) ≡ true
    unfolding into
    into_reason =
        rw (edges_are, reverse-append G.edges (new_edge G.nodes cl s r ∷ []), eq-eqb reason reason refl, filter)

    pub out_chosen : any conflicts (out (asked G cl s r) chosen) ≡ true
    unfolding out
    out_chosen =
        rw (edges_are, reverse-append G.edges (new_edge G.nodes cl s r ∷ []), eq-eqb chosen chosen refl, filter)

    -- an excluded node that was there has an Excluded edge already: it is reached
    was_excluded : {n : ℕ} → Path G 0 n → node_at G n ≡ N.Excluded r → any excludes (into G n) ≡ true
    unfolding into
    was_excluded here q = let z : N.Root ≡ N.Excluded r = sym L.root ∙ q in clash (cc)
    was_excluded (along e j p) q =
        any_in excludes e (into G e.target) (excluded_weight e.weight r (rw q at (runs_at_lem G L e j).target_fits))
        (filter_in (λ (x : Edge). eqb x.target e.target) e (reverse G.edges) (eq-eqb e.target e.target refl) (reverse_in e G.edges j))

    excluded_same : (n : ℕ) → n < length G.nodes → any excludes (into (asked G cl s r) n) ≡ any excludes (into G n)
    excluded_same n h =
        split (eqb n reason)
        (λ t. let q : n ≡ reason = eqb-true n reason t in
        let e : node_at G n ≡ N.Excluded r = sym (old_node n h) ∙ ap (node_at (asked G cl s r)) q ∙ reason_node in
        ap (λ (k : ℕ). any excludes (into (asked G cl s r) k)) q ∙ into_reason ∙ sym (was_excluded (L.reached n h) e))
        (λ t. rw (into_same n (eqb-false n reason t)))

    pub install_same : (p : ℕ → Bool) (n : ℕ) → n < length G.nodes → (n ≡ chosen → ⊥) → can_install (asked G cl s r) p n ≡ can_install G p n
    unfolding can_install
    install_same p n h d = rw (old_node n h, excluded_same n h, out_same n d)

    pub lacking_same : (p : ℕ → Bool) (n : ℕ) → (n ≡ chosen → ⊥) → is_lacking (asked G cl s r) p n ≡ is_lacking G p n
    unfolding is_lacking
    lacking_same p n d = rw (out_same n d)

    pub unresolved_same : has_unresolved (asked G cl s r) ≡ has_unresolved G
    unresolved_same = rw (old_node 1 two)

    -- ---- the labels

    -- a node that is not the chosen one, and from which it can't be reached
    pub record Aside (n : ℕ) : Type 0 where
      pub other : n ≡ chosen → ⊥
      pub far : Leads (targets G) n chosen → ⊥

    aside_on : (n t : ℕ) → Aside n → In t (targets G n) → Aside t
    aside_on n t A j = record { other = λ q. A.far (edge (rw q at j)); far = λ p. A.far (before (targets G) j p) }

    module _ (m : length (asked G cl s r).nodes ≤ 128) (a : Acyclic (targets G)) where
      M : GraphLaid (asked G cl s r)
      M = asked_laid m

      c : Acyclic (targets (asked G cl s r))
      c = asked_acyclic a

      -- "the labels of every package from which the chosen one can't be reached" stay
      pub stays_installable : (n : ℕ) → n < length G.nodes → Aside n → installable (asked G cl s r) n ≡ installable G n
      stays_installable n h A =
          induct (targets G) (Acyclic (targets G)) a (λ n. n < length G.nodes → Aside n
          → installable (asked G cl s r) n ≡ installable G n) step (order_of G) (order_ordered G (laid_sound G L)) n (in_order G L a n h) h A
        where
          step : (n : ℕ) → ((t : ℕ) → In t (targets G n) → t < length G.nodes → Aside t → installable (asked G cl s r) t ≡ installable G t)
              → n < length G.nodes → Aside n → installable (asked G cl s r) n ≡ installable G n
          step n ih l A =
              laid_installable (asked G cl s r) M c n (omega (arith, longer))
              ∙ install_same (installable (asked G cl s r)) n l A.other
              ∙ install_local G n (installable (asked G cl s r)) (installable G) (λ t j. ih t j (target_below G L n t j) (aside_on n t A j))
              ∙ sym (laid_installable G L a n l)

      pub stays_missing : (n : ℕ) → n < length G.nodes → Aside n → missing (asked G cl s r) n ≡ missing G n
      stays_missing n h A =
          split (has_unresolved G)
          (λ u. induct (targets G) (Acyclic (targets G)) a (λ n. n < length G.nodes → Aside n
          → missing (asked G cl s r) n ≡ missing G n) (step u) (order_of G) (order_ordered G (laid_sound G L)) n (in_order G L a n h) h A)
          (λ u. missing_none (asked G cl s r) (laid_sound (asked G cl s r) M) c (unresolved_same ∙ u) n ∙ sym (missing_none G (laid_sound G L) a u n))
        where
          step : has_unresolved G ≡ true → (n : ℕ) → ((t : ℕ) → In t (targets G n) → t < length G.nodes → Aside t → missing (asked G cl s r) t ≡ missing G t)
              → n < length G.nodes → Aside n → missing (asked G cl s r) n ≡ missing G n
          step u n ih l A =
              laid_missing (asked G cl s r) M c n (omega (arith, longer)) (unresolved_same ∙ u)
              ∙ ap (λ (b : Bool). eqb n 1 || b)
              (lacking_same (missing (asked G cl s r)) n A.other ∙ lacking_local G n (missing (asked G cl s r)) (missing G) (λ t j.
              ih t j (target_below G L n t j) (aside_on n t A j)))
              ∙ sym (laid_missing G L a n l u)
