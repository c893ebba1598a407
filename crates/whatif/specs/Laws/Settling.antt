-- (A) Asking behind `settle` and settling behind the new clause give the same graph, by what a node stands for.
use Rattle.std.specs.Prelude.{◌≡◌, ◌⊎◌, Bool, true, false, cond, List, [], ◌∷◌, ◌++◌, map, ℕ, zero, suc, ◌+◌, ◌-◌, ◌<◌, ◌≤◌, length, get_or, drop, ltb}
use Rattle.std.proofs.Math.Path.{refl}
use Rattle.std.proofs.Common.{sym, ap, ◌∙◌, subst, inl, inr, arith, length-append, eqb-true, ne_eqb, lt-ltb, le-ltb, ltb-true, ltb-false}
use Rattle.std.proofs.lemmas.List.{map-append, length-map}
use Rattle.std.proofs.Math.Option.{Option, none, some}
use Rattle.std.proofs.Math.ListN.{get_or-append}
use Rattle.std.proofs.Math.Dec.{eqb}
use Rattle.std.proofs.lemmas.Bool.{eqb-false}
use Rattle.basis.specs.Lists.{any, place, snoc}
use Rattle.basis.specs.Members.{In, All, Distinct, split, either, clash, no_both, in_append, in_left, in_right}
use Rattle.records.specs.Tables.{Tables}
use Rattle.store.specs.declared.ConflictNode.{ConflictNode}
use Rattle.store.specs.declared.ConflictNode.TheVariants as N
use Rattle.store.specs.declared.ConflictCause.TheVariants as C
use Rattle.store.specs.declared.ConflictEdge.{ConflictEdge}
use Rattle.store.specs.declared.ConflictEdge.TheVariants as W
use Rattle.store.specs.declared.Edge.{Edge}
use Rattle.store.specs.Graph.{Graph, Added, added, full, same_node, add_node, add_edge, add_link, node_at, renumber, renumber_edge, last_one, front, settle}
use Rattle.store.specs.Words.{same_true, same_refl}
use Rattle.shape.specs.Shaped.{Known, Runs, Shaped, is_end, Good, shaped_link}
use Rattle.shape.specs.Graphed.{Graphed, Moves, moves_none, moves_last, Cut, cut, length_snoc, graphed_settle}
use Rattle.store.specs.Numbers.{number_of}
use Rattle.whatif.specs.Alike.{Arc, stands_for, named, GraphsAlike}
use Rattle.whatif.specs.Laws.Alike.{number_in, number_out_lem}
use Rattle.whatif.specs.Asked.{nodes_with, with_first, new_edge, asked}
use Rattle.whatif.specs.Laws.Asked.{With, there, new, with_node_lem, Kept, kept}

-- ---- settling

-- some edge leads to unresolved: it stays
abbrev pub stays : Graph → Bool
stays H = any (λ e. eqb e.target 1) H.edges

abbrev gone_nodes : List ConflictNode → List ConflictNode
gone_nodes rest = N.Root ∷ last_one rest ++ front rest

gone_moves : (rest : List ConflictNode) → Moves (N.Root ∷ N.UnresolvedDependency ∷ rest) (gone_nodes rest) (length (N.Root ∷ N.UnresolvedDependency ∷ rest) - 1)
gone_moves [] = moves_none
gone_moves (x ∷ l) =
    let c : Cut (x ∷ l) = cut x l in
    let w : x ∷ l ≡ snoc c.ys c.z = c.whole in
    let n : length (x ∷ l) ≡ suc (length c.ys) = ap length w ∙ length_snoc c.ys c.z in
    let o : length (N.Root ∷ N.UnresolvedDependency ∷ x ∷ l) - 1 ≡ suc (suc (length c.ys)) = omega arith in
    rw (c.last_is, c.front_is, o)
    (subst (λ (k : List ConflictNode). Moves (N.Root ∷ N.UnresolvedDependency ∷ k) (N.Root ∷ c.z ∷ c.ys) (suc (suc (length c.ys)))) (sym w)
    (moves_last c.ys c.z))

gone_from : (rest : List ConflictNode) (x : ConflictNode) → In x (last_one rest ++ front rest) → In x rest
gone_from [] x i = i
gone_from (y ∷ l) x i =
    let c : Cut (y ∷ l) = cut y l in
    let j : In x (c.z ∷ c.ys) = rw (c.last_is, c.front_is) at i in
    subst (λ (k : List ConflictNode). In x k) (sym c.whole) (either j (λ e. in_right x c.ys (c.z ∷ []) (inl e)) (λ k. in_left x c.ys (c.z ∷ []) k))

gone_to : (rest : List ConflictNode) (x : ConflictNode) → In x rest → In x (last_one rest ++ front rest)
gone_to [] x i = i
gone_to (y ∷ l) x i =
    let c : Cut (y ∷ l) = cut y l in
    let j : In x (snoc c.ys c.z) = subst (λ (k : List ConflictNode). In x k) c.whole i in
    rw (c.last_is, c.front_is) (either (in_append x c.ys (c.z ∷ []) j) (λ k. inr k) (λ k. either k (λ e. inl e) (λ z. absurd z)))

named_moved : (ns ms : List ConflictNode) (last : ℕ) → Moves ns ms last → is_end (get_or ns 1 N.Root) ≡ false → (es : List Edge)
    → any (λ e. eqb e.target 1) es ≡ false → All (Runs ns) es → map (stands_for ms) (map (renumber_edge last) es) ≡ map (stands_for ns) es
named_moved ns ms last M f [] q R = refl
named_moved ns ms last M f (e ∷ es) q R =
    split (eqb e.target 1)
    (λ t. let z : true ≡ false = rw (t, any) at q in clash (cc))
    (λ t. let a : get_or ms (renumber last e.source) N.Root ≡ get_or ns e.source N.Root = M.same e.source R.0.from source in
    let b : get_or ms (renumber last e.target) N.Root ≡ get_or ns e.target N.Root = M.same e.target R.0.to (eqb-false e.target 1 t) in
    let k : stands_for ms (renumber_edge last e) ≡ stands_for ns e = cc in
    let j : map (stands_for ms) (map (renumber_edge last) es) ≡ map (stands_for ns) es = named_moved ns ms last M f es (rw (t, any) at q) R.1 in
    ap (λ (x : Arc). x ∷ map (stands_for ms) (map (renumber_edge last) es)) k ∙ ap (λ (l : List Arc). stands_for ns e ∷ l) j)
  where
    source : e.source ≡ 1 → ⊥
    source q = let z : true ≡ false = sym R.0.source_end ∙ ap (λ (x : ℕ). is_end (get_or ns x N.Root)) q ∙ f in clash (cc)

module _ (T : Tables) (H : Graph) (S : Shaped T H) where
  abbrev bare : List ConflictNode → List Edge → Graph
  bare rest es =
      record {
        nodes = gone_nodes rest;
        edges = map (renumber_edge (length (N.Root ∷ N.UnresolvedDependency ∷ rest) - 1)) es;
        firsts = 65535 ∷ last_one (drop 2 H.firsts) ++ front (drop 2 H.firsts);
        hand = H.hand;
      }

  settle_stays : stays H ≡ true → settle H ≡ H
  unfolding settle
  settle_stays t = rw t

  settle_goes : stays H ≡ false → settle H ≡ bare S.rest H.edges
  unfolding settle
  settle_goes t = let p : H.nodes ≡ N.Root ∷ N.UnresolvedDependency ∷ S.rest = S.nodes_are in rw (t, p)

  -- the edges stay as they are, in their order
  pub settle_named : named (settle H) ≡ named H
  unfolding named
  settle_named =
      split (stays H)
      (λ t. rw (settle_stays t))
      (λ t. rw (settle_goes t, S.nodes_are)
      (named_moved (N.Root ∷ N.UnresolvedDependency ∷ S.rest) (gone_nodes S.rest) (length (N.Root ∷ N.UnresolvedDependency ∷ S.rest) - 1)
      (gone_moves S.rest) refl H.edges t (rw S.nodes_are at S.edges)))

  -- the nodes too, but for unresolved
  pub settle_from : (x : ConflictNode) → In x (settle H).nodes → In x H.nodes × (x ≡ N.UnresolvedDependency → stays H ≡ true)
  settle_from x i =
      split (stays H)
      (λ t. (subst (λ (G : Graph). In x G.nodes) (settle_stays t) i, λ q. t))
      (λ t. let j : In x (gone_nodes S.rest) = subst (λ (G : Graph). In x G.nodes) (settle_goes t) i in
      let d : Distinct (N.Root ∷ N.UnresolvedDependency ∷ S.rest) = rw S.nodes_are at S.once in (
        rw S.nodes_are (either j (λ e. inl e) (λ k. inr (inr (gone_from S.rest x k)))),
        λ q. absurd (either j (λ e. let z : N.Root ≡ N.UnresolvedDependency = sym e ∙ q in
            clash (cc)) (λ k. d.1.0 (subst (λ (y : ConflictNode). In y S.rest) q (gone_from S.rest x k)))),
      ))

  pub settle_to : (x : ConflictNode) → In x H.nodes → (x ≡ N.UnresolvedDependency → stays H ≡ true) → In x (settle H).nodes
  settle_to x i f =
      split (stays H)
      (λ t. subst (λ (G : Graph). In x G.nodes) (sym (settle_stays t)) i)
      (λ t. let j : In x (N.Root ∷ N.UnresolvedDependency ∷ S.rest) = subst (λ (l : List ConflictNode). In x l) S.nodes_are i in
      subst (λ (G : Graph). In x G.nodes) (sym (settle_goes t))
      (either j (λ e. inl e) (λ k. either k (λ e. no_both (stays H) (f e) t) (λ o. inr (gone_to S.rest x o)))))

-- ---- asking

abbrev pub as_arc : ℕ → ℕ → ℕ → Arc
as_arc cl s r = record { source = N.Solvable s; target = N.Excluded r; weight = W.Conflict C.Excluded; clause = cl }

named_more : (ns ys : List ConflictNode) (es : List Edge) → All (Runs ns) es → map (stands_for (ns ++ ys)) es ≡ map (stands_for ns) es
named_more ns ys [] R = refl
named_more ns ys (e ∷ es) R =
    rw (get_or-append ns ys N.Root e.source R.0.from, get_or-append ns ys N.Root e.target R.0.to)
    (ap (λ (l : List Arc). stands_for ns e ∷ l) (named_more ns ys es R.1))

-- the new edge is the newest
pub named_asked : (G : Graph) (cl s r : ℕ) → All (Runs G.nodes) G.edges → In (N.Solvable s) G.nodes
    → named (asked G cl s r) ≡ snoc (named G) (as_arc cl s r)
unfolding named asked
named_asked G cl s r R i =
    let k : Kept G.nodes (N.Excluded r) (nodes_with G.nodes (N.Excluded r)) = kept G.nodes (N.Excluded r) in
    let n = number_in G.nodes (N.Solvable s) i in
    let a : get_or (nodes_with G.nodes (N.Excluded r)) (number_of G.nodes (N.Solvable s)) N.Root ≡ N.Solvable s =
    ap (λ (l : List ConflictNode). get_or l (number_of G.nodes (N.Solvable s)) N.Root) k.grown
    ∙ get_or-append G.nodes k.ys N.Root (number_of G.nodes (N.Solvable s)) n.0 ∙ n.1 in
    let b : get_or (nodes_with G.nodes (N.Excluded r)) (number_of G.nodes (N.Excluded r)) N.Root ≡ N.Excluded r = k.stands in
    let c : stands_for (nodes_with G.nodes (N.Excluded r)) (new_edge G.nodes cl s r) ≡ as_arc cl s r = cc in
    let d : map (stands_for (nodes_with G.nodes (N.Excluded r))) G.edges ≡ map (stands_for G.nodes) G.edges =
    ap (λ (l : List ConflictNode). map (stands_for l) G.edges) k.grown ∙ named_more G.nodes k.ys G.edges R in
    map-append (stands_for (nodes_with G.nodes (N.Excluded r))) G.edges (new_edge G.nodes cl s r ∷ [])
    ∙ ap (λ (l : List Arc). l ++ (stands_for (nodes_with G.nodes (N.Excluded r)) (new_edge G.nodes cl s r) ∷ [])) d
    ∙ ap (λ (x : Arc). map (stands_for G.nodes) G.edges ++ (x ∷ [])) c

any_last : (p : Edge → Bool) (l : List Edge) (e : Edge) → p e ≡ false → any p (snoc l e) ≡ any p l
any_last p [] e q = rw (q, any)
any_last p (x ∷ l) e q = split (p x) (λ t. rw (t, any)) (λ t. rw (t, any) (any_last p l e q))

module _ (T : Tables) (H : Graph) (cl s r : ℕ) (S : Shaped T H) (i : In (N.Solvable s) H.nodes) (S⁺ : Shaped T (asked H cl s r)) where
  K : Kept H.nodes (N.Excluded r) (asked H cl s r).nodes
  unfolding asked
  K = kept H.nodes (N.Excluded r)

  not_one : number_of H.nodes (N.Excluded r) ≡ 1 → ⊥
  not_one q =
      let a : get_or (asked H cl s r).nodes 1 N.Root ≡ N.Excluded r = subst (λ (k : ℕ). get_or (asked H cl s r).nodes k N.Root ≡ N.Excluded r) q K.stands in
      let b : get_or (asked H cl s r).nodes 1 N.Root ≡ N.UnresolvedDependency = ap (λ (l : List ConflictNode). get_or l 1 N.Root) S⁺.nodes_are in
      let z : N.Excluded r ≡ N.UnresolvedDependency = sym a ∙ b in
      clash (cc)

  -- whether unresolved goes does not change
  pub stays_same : stays (asked H cl s r) ≡ stays H
  unfolding asked
  stays_same = any_last (λ e. eqb e.target 1) H.edges (new_edge H.nodes cl s r) (ne_eqb (number_of H.nodes (N.Excluded r)) 1 not_one)

  pub chosen_settled : In (N.Solvable s) (settle H).nodes
  chosen_settled = settle_to T H S (N.Solvable s) i (λ q. clash (cc))

  K⁺ : Kept (settle H).nodes (N.Excluded r) (asked (settle H) cl s r).nodes
  unfolding asked
  K⁺ = kept (settle H).nodes (N.Excluded r)

  -- (A)
  pub asked_alike : GraphsAlike (asked (settle H) cl s r) (settle (asked H cl s r))
  asked_alike =
      record {
        once_on = K⁺.once (graphed_settle T H S).once;
        once_back = (graphed_settle T (asked H cl s r) S⁺).once;
        nodes_on = forth;
        nodes_back = back;
        edges = named_asked (settle H) cl s r (graphed_settle T H S).edges chosen_settled
            ∙ ap (λ (l : List Arc). snoc l (as_arc cl s r)) (settle_named T H S)
            ∙ sym (named_asked H cl s r S.edges i)
            ∙ sym (settle_named T (asked H cl s r) S⁺);
      }
    where
      forth : (x : ConflictNode) → In x (asked (settle H) cl s r).nodes → In x (settle (asked H cl s r)).nodes
      forth x j =
          either (K⁺.from x j)
          (λ k. let w = settle_from T H S x k in
          settle_to T (asked H cl s r) S⁺ x (subst (λ (l : List ConflictNode). In x l) (sym K.grown) (in_left x H.nodes K.ys w.0)) (λ q. stays_same
          ∙ w.1 q))
          (λ q. settle_to T (asked H cl s r) S⁺ x (rw q K.has_x) (λ u. let z : N.Excluded r ≡ N.UnresolvedDependency = sym q ∙ u in clash (cc)))

      back : (x : ConflictNode) → In x (settle (asked H cl s r)).nodes → In x (asked (settle H) cl s r).nodes
      back x j =
          let w = settle_from T (asked H cl s r) S⁺ x j in
          either (K.from x w.0)
          (λ k. subst (λ (l : List ConflictNode). In x l) (sym K⁺.grown)
          (in_left x (settle H).nodes K⁺.ys (settle_to T H S x k (λ q. sym stays_same ∙ w.1 q))))
          (λ q. rw q K⁺.has_x)
