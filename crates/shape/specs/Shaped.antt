-- What holds of a graph while it grows: the root is node 0 and unresolved node 1, no node stands twice, each node names something that
-- there is, and each edge leads from one node to another of the kinds that its weight allows.
use Rattle.std.specs.Prelude.{◌≡◌, refl, Bool, true, false, ◌&&◌, List, [], ◌∷◌, ◌++◌, ℕ, zero, suc, ◌+◌, ◌<◌, ◌≤◌, length, get_or, ltb}
use Rattle.std.proofs.Common.{sym, ap, ◌∙◌, append_assoc, inl, inr, arith, length-append, ltb-true}
use Rattle.std.proofs.Math.Option.{Option, none, some}
use Rattle.std.proofs.Math.ListN.{get_or-append}
use Rattle.std.proofs.Math.Seq.{get_or-append_seam}
use Rattle.basis.specs.Lists.{place, snoc}
use Rattle.basis.specs.Members.{split, clash, either, In, All, Distinct, in_append, all_append, all_map}
use Rattle.records.specs.Tables.{Tables}
use Rattle.store.specs.declared.ConflictNode.{ConflictNode}
use Rattle.store.specs.declared.ConflictNode.TheVariants as N
use Rattle.store.specs.declared.ConflictCause.{ConflictCause}
use Rattle.store.specs.declared.ConflictCause.TheVariants as K
use Rattle.store.specs.declared.ConflictEdge.{ConflictEdge}
use Rattle.store.specs.declared.ConflictEdge.TheVariants as W
use Rattle.store.specs.declared.Edge.{Edge}
use Rattle.store.specs.Graph.{Graph, Added, added, full, same_node, start_graph, handing, with_node, with_edge, add_node, add_edge, add_link}
use Rattle.store.specs.Words.{same_true, same_refl}

-- a node's number is below its table's count
abbrev pub Known : Tables → ConflictNode → Type 0
Known T N.Root = Unit {0}
Known T (N.Solvable s) = s < length T.solvables
Known T N.UnresolvedDependency = Unit {0}
Known T (N.Excluded r) = r < length T.reasons

-- the kinds of nodes that an edge of a weight runs between
abbrev pub is_end : ConflictNode → Bool
is_end N.Root = true
is_end (N.Solvable s) = true
is_end N.UnresolvedDependency = false
is_end (N.Excluded r) = false

abbrev pub fits_target : ConflictEdge → ConflictNode → Bool
fits_target (W.Requires q) N.Root = false
fits_target (W.Requires q) (N.Solvable s) = true
fits_target (W.Requires q) N.UnresolvedDependency = true
fits_target (W.Requires q) (N.Excluded r) = false
fits_target (W.Conflict (K.Locked l)) y = is_end y
fits_target (W.Conflict (K.Constrains v)) y = is_end y
fits_target (W.Conflict K.ForbidMultipleInstances) y = is_end y
fits_target (W.Conflict K.Excluded) N.Root = false
fits_target (W.Conflict K.Excluded) (N.Solvable s) = false
fits_target (W.Conflict K.Excluded) N.UnresolvedDependency = false
fits_target (W.Conflict K.Excluded) (N.Excluded r) = true

-- an edge among the nodes ns
pub record Runs (ns : List ConflictNode) (e : Edge) : Type 0 where
  pub from : e.source < length ns
  pub to : e.target < length ns
  pub source_end : is_end (get_or ns e.source N.Root) ≡ true
  pub target_fits : fits_target e.weight (get_or ns e.target N.Root) ≡ true

pub record Shaped (T : Tables) (G : Graph) : Type 0 where
  pub rest : List ConflictNode
  pub nodes_are : G.nodes ≡ N.Root ∷ N.UnresolvedDependency ∷ rest
  pub known : All (Known T) G.nodes
  pub once : Distinct G.nodes
  pub nodes_most : length G.nodes ≤ 128
  pub edges_most : length G.edges ≤ 1024
  pub edges : All (Runs G.nodes) G.edges

pub shaped_start : (T : Tables) → Shaped T start_graph
shaped_start T =
    record {
      rest = [];
      nodes_are = refl;
      known = (tt, (tt, tt));
      once = (λ i. either i (λ e. clash (cc)) (λ z. z), (λ i. i, tt));
      nodes_most = omega arith;
      edges_most = omega arith;
      edges = tt;
    }

-- the clause at hand does not matter
pub shaped_hand : (T : Tables) (G : Graph) (i : ℕ) → Shaped T G → Shaped T (handing i G)
shaped_hand T G i S =
    record {
      rest = S.rest;
      nodes_are = S.nodes_are;
      known = S.known;
      once = S.once;
      nodes_most = S.nodes_most;
      edges_most = S.edges_most;
      edges = S.edges;
    }

-- ---- a node at the end

pub runs_more : (ns ys : List ConflictNode) (e : Edge) → Runs ns e → Runs (ns ++ ys) e
runs_more ns ys e R =
    record {
      from = rw length-append (omega (arith, R.from));
      to = rw length-append (omega (arith, R.to));
      source_end = rw (get_or-append ns ys N.Root e.source R.from) R.source_end;
      target_fits = rw (get_or-append ns ys N.Root e.target R.to) R.target_fits;
    }

pub place_some : (x : ConflictNode) (ns : List ConflictNode) (a i : ℕ) → place (same_node x) ns a ≡ some i → (j : ℕ) × (i ≡ a + j) × (j < length ns)
    × (get_or ns j N.Root ≡ x)
place_some x [] a i e = clash (cc)
place_some x (n ∷ ns) a i e =
    split (same_node x n)
    (λ t. let z : some a ≡ some i = rw (t, place) at e in let y : a ≡ i = cc in (0, omega arith, omega arith, sym (same_true x n t)))
    (λ t. let r = place_some x ns (suc a) i (rw (t, place) at e) in
    let h : i ≡ suc a + r.0 = r.1 in let l : r.0 < length ns = r.2 in
    (suc r.0, omega arith, omega arith, r.3))

pub place_none : (x : ConflictNode) (ns : List ConflictNode) (a : ℕ) → place (same_node x) ns a ≡ none → In x ns → ⊥
place_none x [] a e i = i
place_none x (n ∷ ns) a e i =
    split (same_node x n)
    (λ t. let z : some a ≡ none = rw (t, place) at e in clash (cc))
    (λ t. either i
    (λ q. let z : true ≡ false = sym (same_refl x) ∙ ap (same_node x) q ∙ t in clash (cc))
    (λ j. place_none x ns (suc a) (rw (t, place) at e) j))

pub distinct_snoc : (l : List ConflictNode) (a : ConflictNode) → Distinct l → (In a l → ⊥) → Distinct (snoc l a)
distinct_snoc [] a d h = (λ i. i, tt)
distinct_snoc (x ∷ xs) a d h =
    (λ i. either (in_append x xs (a ∷ []) i) d.0 (λ j. either j (λ e. h (inl (sym e))) (λ z. z)), distinct_snoc xs a d.1 (λ i. h (inr i)))

-- what adding a node leaves: h holds x at i, and all that g held
record Placed (T : Tables) (g h : Graph) (x : ConflictNode) (i : ℕ) : Type 0 where
  shaped : Shaped T h
  below : i < length h.nodes
  here : get_or h.nodes i N.Root ≡ x
  ys : List ConflictNode
  grown : h.nodes ≡ g.nodes ++ ys

append_none : (l : List ConflictNode) → l ≡ l ++ []
append_none [] = refl
append_none (x ∷ l) = ap (λ (m : List ConflictNode). x ∷ m) (append_none l)

placed : (T : Tables) (g h : Graph) (x : ConflictNode) (i : ℕ) → Shaped T g → Known T x → add_node g x ≡ added i h → Placed T g h x i
unfolding add_node
placed T g h x i S k e = go (place (same_node x) g.nodes 0) refl
  where
    new : place (same_node x) g.nodes 0 ≡ none → ltb (length g.nodes) 128 ≡ true → Placed T g (with_node g x) x (length g.nodes)
    new q t =
        record {
          shaped = record {
            rest = snoc S.rest x;
            nodes_are = ap (λ (l : List ConflictNode). snoc l x) S.nodes_are;
            known = all_append (Known T) g.nodes (x ∷ []) S.known (k, tt);
            once = distinct_snoc g.nodes x S.once (place_none x g.nodes 0 q);
            nodes_most = rw length-append (omega (arith, ltb-true (length g.nodes) 128 t));
            edges_most = S.edges_most;
            edges = all_map (Runs g.nodes) (Runs (snoc g.nodes x)) g.edges (λ f R. runs_more g.nodes (x ∷ []) f R) S.edges;
          };
          below = rw length-append (omega arith);
          here = get_or-append_seam g.nodes x [] N.Root;
          ys = x ∷ [];
          grown = refl;
        }

    go : (o : Option ℕ) → place (same_node x) g.nodes 0 ≡ o → Placed T g h x i
    go (some j) q =
        let z : added j g ≡ added i h = rw (q, add_node) at e in
        let y : g ≡ h = cc in
        let u : j ≡ i = cc in
        let r = place_some x g.nodes 0 j q in
        let v : r.0 ≡ i = omega (arith, r.1) in
        rw (← y, ← v) (record { shaped = S; below = r.2; here = r.3; ys = []; grown = append_none g.nodes })
    go none q =
        split (ltb (length g.nodes) 128)
        (λ t. let z : added (length g.nodes) (with_node g x) ≡ added i h = rw (q, add_node, t) at e in
        let y : with_node g x ≡ h = cc in
        let u : length g.nodes ≡ i = cc in
        rw (← y, ← u) (new q t))
        (λ t. let z : full ≡ added i h = rw (q, add_node, t) at e in clash (cc))

-- the edge at the end
shaped_edge : (T : Tables) (g h : Graph) (e : Edge) (i : ℕ) → Shaped T g → Runs g.nodes e → add_edge g e ≡ added i h → Shaped T h
unfolding add_edge
shaped_edge T g h e i S R q =
    split (ltb (length g.edges) 1024)
    (λ t. let z : added (length g.edges) (with_edge g e) ≡ added i h = rw t at q in
    let y : with_edge g e ≡ h = cc in
    rw (← y) (record {
      rest = S.rest;
      nodes_are = S.nodes_are;
      known = S.known;
      once = S.once;
      nodes_most = S.nodes_most;
      edges_most = rw length-append (omega (arith, ltb-true (length g.edges) 1024 t));
      edges = all_append (Runs g.nodes) g.edges (e ∷ []) S.edges (R, tt);
    }))
    (λ t. let z : full ≡ added i h = rw t at q in clash (cc))

-- a link with ends that are known and fit
pub record Good (T : Tables) (x y : ConflictNode) (w : ConflictEdge) : Type 0 where
  pub source_known : Known T x
  pub target_known : Known T y
  pub source_end : is_end x ≡ true
  pub target_fits : fits_target w y ≡ true

pub shaped_link : (T : Tables) (g h : Graph) (x y : ConflictNode) (w : ConflictEdge) (i : ℕ) → Shaped T g → Good T x y w → add_link g x y w ≡ added i h
    → Shaped T h
unfolding add_link
shaped_link T g h x y w i S O e = first (add_node g x) refl
  where
    last : (j m : ℕ) (k l : Graph) → Placed T g k x j → Placed T k l y m
        → add_edge l (record { source = j; target = m; weight = w; clause = l.hand }) ≡ added i h → Shaped T h
    last j m k l A B z =
        let s : get_or l.nodes j N.Root ≡ x = ap (λ (ns : List ConflictNode). get_or ns j N.Root) B.grown
        ∙ get_or-append k.nodes B.ys N.Root j A.below ∙ A.here in
        let b : length l.nodes ≡ length k.nodes + length B.ys = ap length B.grown ∙ length-append k.nodes B.ys in
        shaped_edge T l h (record { source = j; target = m; weight = w; clause = l.hand }) i B.shaped
        (record { from = omega (arith, A.below); to = B.below; source_end = rw s O.source_end; target_fits = rw B.here O.target_fits }) z

    second : (j : ℕ) (k : Graph) → add_node g x ≡ added j k → (b : Added) → add_node k y ≡ b → Shaped T h
    second j k p (added m l) q =
        let A : Placed T g k x j = placed T g k x j S O.source_known p in
        last j m k l A (placed T k l y m A.shaped O.target_known q) (rw (p, add_link, q) at e)
    second j k p full q = let z : full ≡ added i h = rw (p, add_link, q) at e in clash (cc)

    first : (a : Added) → add_node g x ≡ a → Shaped T h
    first (added j k) p = second j k p (add_node k y) refl
    first full p = let z : full ≡ added i h = rw (p, add_link) at e in clash (cc)

pub shaped_node : (T : Tables) (g h : Graph) (x : ConflictNode) (i : ℕ) → Shaped T g → Known T x → add_node g x ≡ added i h → Shaped T h
shaped_node T g h x i S k e = (placed T g h x i S k e).shaped
