-- (A), (C), (D) together: the graph asked for, and the graph of the core with one more Excluded clause at its end. 8 is told from the
-- drawn graph alone.
use Rattle.std.specs.Prelude.{◌≡◌, ◌⊎◌, Bool, false, cond, not, get_or, eqb, ltb}
use Rattle.std.proofs.Math.Path.{refl, sym, ap}
use Rattle.std.proofs.Common.{◌∙◌, subst, inl, inr, arith, length-append, eqb-true, ne_eqb, lt-ltb, le-ltb, ltb-true, ltb-false}
use Rattle.std.proofs.Math.Bool.{true}
use mathlib.Core.List.{List, [], ◌∷◌, ◌++◌, map}
use Rattle.std.proofs.Math.Option.{Option, none, some}
use Prim.Native.Nat.{ℕ, zero, suc, ◌+◌, ◌-◌, ◌<◌, ◌≤◌}
use Rattle.std.proofs.Math.ListN.{length, get_or-eq_default}
use Rattle.std.proofs.lemmas.List.{length-map}
use Rattle.std.proofs.lemmas.Bool.{eqb-false}
use Rattle.basis.specs.Lists.{any, place, snoc, has, first, upto}
use Rattle.basis.specs.Members.{In, All, Distinct, split, either, clash, no_both, in_append, in_left, in_right, any_in, any_some}
use Rattle.records.specs.Tables.{Tables}
use Rattle.index.specs.Promise.{Valid}
use Rattle.store.specs.declared.ConflictNode.{ConflictNode}
use Rattle.store.specs.declared.ConflictNode.TheVariants as N
use Rattle.store.specs.declared.ConflictCause.TheVariants as C
use Rattle.store.specs.declared.ConflictEdge.TheVariants as W
use Rattle.store.specs.declared.Edge.{Edge}
use Rattle.store.specs.Graph.{Graph, handing, Added, added, full, same_node, add_node, add_edge, add_link, node_at, is_unresolved, last_one, front, settle, reached}
use Rattle.store.specs.Graph.{unreached}
use Rattle.store.specs.Words.{same_true, same_refl}
use Rattle.links.specs.Paths.{Path, GraphWhole, path_reached, upto_in}
use Rattle.shape.specs.Shaped.{Known, Runs, Shaped, Good, shaped_link, shaped_hand}
use Rattle.shape.specs.Graphed.{Graphed, Cut, cut, length_snoc, graphed_settle, at_in}
use Rattle.shape.specs.Uses.{some_node, root_first}
use Rattle.labels.specs.Ordered.{Acyclic}
use Rattle.labels.specs.Labels.{targets, installable, missing, has_unresolved}
use Rattle.whatif.specs.Laws.Laid.{GraphLaid, laid_sound, runs_at_lem}
use Rattle.store.specs.Numbers.{number_of}
use Rattle.whatif.specs.Alike.{GraphsAlike}
use Rattle.whatif.specs.Laws.Alike.{number_in, number_out_lem, alike_reached, alike_acyclic, alike_installable, alike_missing}
use Rattle.whatif.specs.Asked.{has_node, nodes_with, with_first, new_edge, asked, gone_count}
use Rattle.whatif.specs.Laws.Asked.{With, there, new, with_node_lem, Kept, kept, asked_laid, asked_acyclic}
use Rattle.whatif.specs.Laws.Settling.{stays, settle_from, settle_to, chosen_settled, stays_same, asked_alike}

-- ---- adding the link behind the core

place_there : (x : ConflictNode) (ns : List ConflictNode) (a : ℕ) → In x ns → place (same_node x) ns a ≡ some (a + number_of ns x)
place_there x [] a i = absurd i
place_there x (y ∷ ns) a i =
    split (same_node x y)
    (λ t. rw (t, place, number_of) (ap some (omega arith)))
    (λ t. let j : In x ns = either i (λ e. let z : true ≡ false = sym (same_refl x) ∙ ap (same_node x) e ∙ t in clash (cc)) (λ j. j) in
    rw (t, place, number_of) (place_there x ns (suc a) j ∙ ap some (omega arith)))

place_out : (x : ConflictNode) (ns : List ConflictNode) (a : ℕ) → (In x ns → ⊥) → place (same_node x) ns a ≡ none
place_out x [] a f = refl
place_out x (y ∷ ns) a f =
    split (same_node x y) (λ t. absurd (f (inl (same_true x y t)))) (λ t. rw (t, place) (place_out x ns (suc a) (λ i. f (inr i))))

node_old : (g : Graph) (x : ConflictNode) → In x g.nodes → add_node g x ≡ added (number_of g.nodes x) g
unfolding add_node
node_old g x i =
    let q : place (same_node x) g.nodes 0 ≡ some (number_of g.nodes x) = place_there x g.nodes 0 i ∙ ap some (omega arith) in rw (q, add_node)

node_new : (g : Graph) (x : ConflictNode) → (In x g.nodes → ⊥) → length g.nodes < 128
    → add_node g x ≡ added (length g.nodes) (record { nodes = snoc g.nodes x; edges = g.edges; firsts = snoc g.firsts g.hand; hand = g.hand })
unfolding add_node
node_new g x f h = rw (place_out x g.nodes 0 f, add_node, lt-ltb (length g.nodes) 128 h)

node_full : (g : Graph) (x : ConflictNode) → (In x g.nodes → ⊥) → 128 ≤ length g.nodes → add_node g x ≡ full
unfolding add_node
node_full g x f h = rw (place_out x g.nodes 0 f, add_node, le-ltb (length g.nodes) 128 h)

-- the graph with node x, which stays as it is where it has one
abbrev grown_by : Graph → ConflictNode → Graph
grown_by g x = record { nodes = nodes_with g.nodes x; edges = g.edges; firsts = with_first g.nodes x g.firsts g.hand; hand = g.hand }

node_with : (g : Graph) (x : ConflictNode) → length (nodes_with g.nodes x) ≤ 128 → add_node g x ≡ added (number_of g.nodes x) (grown_by g x)
node_with g x h =
    split (has_node g.nodes x)
    (λ t. let r = any_some (same_node x) g.nodes t in
    let i : In x g.nodes = rw (same_true x r.0 r.2) r.1 in
    rw (t, nodes_with, with_first) (node_old g x i))
    (λ t. let f : In x g.nodes → ⊥ = λ i. no_both (has_node g.nodes x) (any_in (same_node x) x g.nodes (same_refl x) i) t in
    let l : length (snoc g.nodes x) ≡ length g.nodes + 1 = length-append g.nodes (x ∷ []) in
    let m : length (snoc g.nodes x) ≤ 128 = rw (t, nodes_with) at h in
    rw (t, nodes_with, with_first, number_out_lem g.nodes x f) (node_new g x f (omega arith)))

abbrev pub add_excluded : Graph → ℕ → ℕ → Added
add_excluded H s r = add_link H (N.Solvable s) (N.Excluded r) (W.Conflict C.Excluded)

-- with room, the link makes the graph asked for, of the graph before unresolved may go
pub link_asked : (H : Graph) (cl s r : ℕ) → In (N.Solvable s) H.nodes → length (asked H cl s r).nodes ≤ 128 → length H.edges < 1024
    → add_excluded (handing cl H) s r ≡ added (length H.edges) (asked H cl s r)
unfolding add_link add_edge asked
link_asked H cl s r i n e =
    rw (node_old (handing cl H) (N.Solvable s) i, add_link, node_with (handing cl H) (N.Excluded r) n, lt-ltb (length H.edges) 1024 e)

-- else 8
pub link_full_node : (H : Graph) (cl s r : ℕ) → In (N.Solvable s) H.nodes → length H.nodes ≤ 128 → 128 < length (asked H cl s r).nodes
    → add_excluded (handing cl H) s r ≡ full
unfolding add_link asked
link_full_node H cl s r i m n = by (nodes_with H.nodes (N.Excluded r)) (with_node_lem H.nodes (N.Excluded r)) n
  where
    by : (ms : List ConflictNode) → With H.nodes (N.Excluded r) ms → 128 < length ms → add_excluded (handing cl H) s r ≡ full
    by ms (there j) h = let f : ⊥ = omega arith in absurd f
    by ms (new f) h =
        let l : length (snoc H.nodes (N.Excluded r)) ≡ length H.nodes + 1 = length-append H.nodes (N.Excluded r ∷ []) in
        rw (node_old (handing cl H) (N.Solvable s) i, add_link, node_full (handing cl H) (N.Excluded r) f (omega arith))

pub link_full_edge : (H : Graph) (cl s r : ℕ) → In (N.Solvable s) H.nodes → length (asked H cl s r).nodes ≤ 128 → 1024 ≤ length H.edges
    → add_excluded (handing cl H) s r ≡ full
unfolding add_link add_edge asked
link_full_edge H cl s r i n e =
    rw (node_old (handing cl H) (N.Solvable s) i, add_link, node_with (handing cl H) (N.Excluded r) n, le-ltb (length H.edges) 1024 e)

-- ---- "unresolved counted": the counts before unresolved may go, from the settled graph

module _ (T : Tables) (H : Graph) (S : Shaped T H) where
  two : length H.nodes ≡ suc (suc (length S.rest))
  two = ap length S.nodes_are

  unresolved_there : In N.UnresolvedDependency H.nodes
  unresolved_there = rw S.nodes_are (inr (inl refl))

  pub settled_unresolved : has_unresolved (settle H) ≡ stays H
  unfolding settle
  settled_unresolved =
      split (stays H)
      (λ t. rw (t, S.nodes_are))
      (λ t. split (has_unresolved (settle H)) (λ u. absurd (never t u)) (λ u. u ∙ sym t))
    where
      is : (x : ConflictNode) → is_unresolved x ≡ true → x ≡ N.UnresolvedDependency
      is N.Root e = clash (cc)
      is (N.Solvable s) e = clash (cc)
      is N.UnresolvedDependency e = refl
      is (N.Excluded r) e = clash (cc)

      never : stays H ≡ false → has_unresolved (settle H) ≡ true → ⊥
      never t u =
          split (ltb 1 (length (settle H).nodes))
          (λ h. let j : In (node_at (settle H) 1) (settle H).nodes = at_in (settle H).nodes 1 (ltb-true 1 (length (settle H).nodes) h) in
          no_both (stays H) ((settle_from T H S (node_at (settle H) 1) j).1 (is (node_at (settle H) 1) u)) t)
          (λ h. let z : node_at (settle H) 1 ≡ N.Root = get_or-eq_default (settle H).nodes N.Root (ltb-false 1 (length (settle H).nodes) h) in
          let y : is_unresolved N.Root ≡ true = rw z at u in clash (cc))

  pub settled_edges : length (settle H).edges ≡ length H.edges
  unfolding settle
  settled_edges = split (stays H) (λ t. rw t) (λ t. rw (t, length-map))

  settled_count : length (settle H).nodes + cond (stays H) 0 1 ≡ length H.nodes
  unfolding settle
  settled_count =
      split (stays H)
      (λ t. rw t (omega arith))
      (λ t. let p : H.nodes ≡ N.Root ∷ N.UnresolvedDependency ∷ S.rest = S.nodes_are in rw (t, p) (omega (arith, moved S.rest)))
    where
      moved : (l : List ConflictNode) → length (last_one l ++ front l) ≡ length l
      moved [] = refl
      moved (x ∷ l) =
          let c : Cut (x ∷ l) = cut x l in
          let n : length (x ∷ l) ≡ suc (length c.ys) = ap length c.whole ∙ length_snoc c.ys c.z in
          rw (c.last_is, c.front_is) (omega arith)

  -- "unresolved counted": the nodes before unresolved may go
  pub count_settled : length (settle H).nodes + gone_count (settle H) ≡ length H.nodes
  count_settled = rw settled_unresolved settled_count

  same_with : (x : ConflictNode) → (x ≡ N.UnresolvedDependency → ⊥) → (ms ks : List ConflictNode) → With (settle H).nodes x ms → With H.nodes x ks
      → length ms + gone_count (settle H) ≡ length ks
  same_with x d ms ks (there i) (there j) = count_settled
  same_with x d ms ks (there i) (new g) = absurd (g (settle_from T H S x i).0)
  same_with x d ms ks (new f) (there j) = absurd (f (settle_to T H S x j (λ q. absurd (d q))))
  same_with x d ms ks (new f) (new g) =
      rw (length-append (settle H).nodes (x ∷ []), length-append H.nodes (x ∷ [])) (omega (arith, count_settled))

  -- 8 is told from the settled graph: the nodes asked for, and one more where unresolved has gone
  pub count_asked : (cl s r : ℕ) → length (asked (settle H) cl s r).nodes + gone_count (settle H) ≡ length (asked H cl s r).nodes
  unfolding asked
  count_asked cl s r =
      same_with (N.Excluded r) (λ q. clash (cc)) (nodes_with (settle H).nodes (N.Excluded r)) (nodes_with H.nodes (N.Excluded r))
      (with_node_lem (settle H).nodes (N.Excluded r)) (with_node_lem H.nodes (N.Excluded r))

-- ---- (D): what every node is reached in gets no 9

first_all : (p : ℕ → Bool) (l : List ℕ) → ((n : ℕ) → In n l → p n ≡ false) → first p l ≡ none
first_all p [] h = refl
first_all p (x ∷ l) h = rw (h x (inl refl), first) (first_all p l (λ n i. h n (inr i)))

pub no_nine : (G : Graph) → GraphWhole G → ((n : ℕ) → n < length G.nodes → Path G 0 n) → unreached G ≡ none
unfolding unreached
no_nine G w f =
    first_all (λ n. not (has n (reached G))) (upto (length G.nodes) 0)
    (λ n i. let b = upto_in (length G.nodes) 0 n i in
    let h : has n (reached G) ≡ true = path_reached G w n (f n (omega (arith, b.1))) in
    rw h)

-- ---- the theorem

module _ (T : Tables) (H : Graph) (S : Shaped T H) (L : GraphLaid (settle H)) (cl s r : ℕ) (i : In (N.Solvable s) (settle H).nodes) (k : r
    < length T.reasons) (ks : s < length T.solvables) (n : length (asked (settle H) cl s r).nodes + gone_count (settle H)
    ≤ 128) (e : length (settle H).edges < 1024) where
  in_core_lem : In (N.Solvable s) H.nodes
  in_core_lem = (settle_from T H S (N.Solvable s) i).0

  fits : length (asked H cl s r).nodes ≤ 128
  fits = rw (← count_asked T H S cl s r) n

  -- the core with the Excluded clause behind it, before unresolved may go
  pub rebuilt_link : add_excluded (handing cl H) s r ≡ added (length H.edges) (asked H cl s r)
  rebuilt_link = link_asked H cl s r in_core_lem fits (rw (← settled_edges T H S) e)

  pub rebuilt_shaped : Shaped T (asked H cl s r)
  rebuilt_shaped =
      shaped_link T (handing cl H) (asked H cl s r) (N.Solvable s) (N.Excluded r) (W.Conflict C.Excluded) (length H.edges) (shaped_hand T H cl S)
      (record { source_known = ks; target_known = k; source_end = refl; target_fits = refl }) rebuilt_link

  -- the rebuilt graph
  abbrev rebuilt : Graph
  rebuilt = settle (asked H cl s r)

  P : Graphed T rebuilt
  P = graphed_settle T (asked H cl s r) rebuilt_shaped

  here_laid : GraphLaid (asked (settle H) cl s r)
  here_laid = asked_laid (settle H) cl s r L i (omega (arith, n))

  -- (A) "the same nodes, edges .., compared by what a node stands for"
  pub rebuilt_alike : GraphsAlike (asked (settle H) cl s r) rebuilt
  rebuilt_alike = asked_alike T H cl s r S in_core_lem rebuilt_shaped

  pub rebuilt_laid : GraphLaid rebuilt
  rebuilt_laid =
      record {
        some = some_node T rebuilt P;
        root = root_first T rebuilt P;
        most = P.nodes_most;
        once = P.once;
        runs = P.edges;
        unresolved = P.unresolved;
        reached =
            alike_reached (asked (settle H) cl s r) rebuilt here_laid.once P.once P.edges rebuilt_alike (root_first T rebuilt P
            ∙ sym here_laid.root) (some_node T rebuilt P) here_laid.reached;
      }

  -- (D) 9 does not come
  pub rebuilt_reached : unreached rebuilt ≡ none
  rebuilt_reached = no_nine rebuilt (record { some = rebuilt_laid.some; ends = λ f j. (runs_at_lem rebuilt rebuilt_laid f j).to }) rebuilt_laid.reached

  module _ (a : Acyclic (targets (settle H))) where
    asked_no_cycle : Acyclic (targets (asked (settle H) cl s r))
    asked_no_cycle = asked_acyclic (settle H) cl s r L i a

    pub rebuilt_acyclic : Acyclic (targets rebuilt)
    rebuilt_acyclic = alike_acyclic (asked (settle H) cl s r) rebuilt here_laid rebuilt_laid rebuilt_alike asked_no_cycle

    module _ (m j : ℕ) (hm : m < length (asked (settle H) cl s r).nodes) (hj : j < length rebuilt.nodes) (q : node_at (asked (settle H) cl s r) m
        ≡ node_at rebuilt j) where
      -- (C) ".. and labels"
      pub rebuilt_installable : installable (asked (settle H) cl s r) m ≡ installable rebuilt j
      rebuilt_installable = alike_installable (asked (settle H) cl s r) rebuilt here_laid rebuilt_laid rebuilt_alike asked_no_cycle m j hm hj q

      pub rebuilt_missing : missing (asked (settle H) cl s r) m ≡ missing rebuilt j
      rebuilt_missing = alike_missing (asked (settle H) cl s r) rebuilt here_laid rebuilt_laid rebuilt_alike asked_no_cycle m j hm hj q
