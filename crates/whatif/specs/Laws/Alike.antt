-- (C) Two graphs compared "by what a node stands for": the same nodes, and the same edges in order, each number replaced by the node that
-- it stands for. Then the labels of each node are the same, there is a cycle in both or in none, and every node is reached in both or in none.
use Rattle.std.specs.Prelude.{◌≡◌, refl, ◌⊎◌, Bool, true, false, ℕ, zero, suc, ◌<◌, ◌≤◌, length, get_or}
use Rattle.std.proofs.Math.Path.{sym, ap}
use Rattle.std.proofs.Common.{◌∙◌, subst, inl, inr, arith}
use mathlib.Core.List.{List, [], ◌∷◌, map, map-map}
use Rattle.basis.specs.Lists.{any}
use Rattle.basis.specs.Members.{In, All, Distinct, split, either, clash, map_in}
use Rattle.store.specs.declared.ConflictNode.{ConflictNode}
use Rattle.store.specs.declared.ConflictNode.TheVariants as N
use Rattle.store.specs.declared.Edge.{Edge}
use Rattle.store.specs.Graph.{Graph, same_node, node_at}
use Rattle.store.specs.Numbers.{number_of}
use Rattle.store.specs.Words.{same_true, same_refl}
use Rattle.links.specs.Paths.{Path, here, along}
use Rattle.shape.specs.Shaped.{Runs}
use Rattle.shape.specs.Graphed.{at_in}
use Rattle.shape.specs.Uses.{one_number}
use Rattle.labels.specs.Ordered.{Acyclic}
use Rattle.labels.specs.Labels.{targets, installable, missing}
use Rattle.whatif.specs.Alike.{Arc, stands_for, named, GraphsAlike}
use Rattle.whatif.specs.Laws.Moving.{move_edge}
use Rattle.whatif.specs.Laws.Laid.{GraphLaid}
use Rattle.whatif.specs.Laws.Carried.{Carried, carried_acyclic, carried_installable, carried_missing}

-- ---- numbers

pub number_in : (ns : List ConflictNode) (x : ConflictNode) → In x ns → (number_of ns x < length ns) × (get_or ns (number_of ns x) N.Root ≡ x)
number_in [] x i = absurd i
number_in (y ∷ ns) x i =
    split (same_node x y)
    (λ t. rw (t, number_of) (omega arith, sym (same_true x y t)))
    (λ t. let r = number_in ns x (either i (λ e. let z : true ≡ false = sym (same_refl x) ∙ ap (same_node x) e ∙ t in clash (cc)) (λ j. j)) in
    rw (t, number_of) (omega (arith, r.0), r.1))

pub number_out_lem : (ns : List ConflictNode) (x : ConflictNode) → (In x ns → ⊥) → number_of ns x ≡ length ns
number_out_lem [] x f = refl
number_out_lem (y ∷ ns) x f =
    split (same_node x y)
    (λ t. absurd (f (inl (same_true x y t))))
    (λ t. rw (t, number_of) (ap suc (number_out_lem ns x (λ i. f (inr i)))))

pub number_at_lem : (ns : List ConflictNode) → Distinct ns → (n : ℕ) → n < length ns → number_of ns (get_or ns n N.Root) ≡ n
number_at_lem ns d n h = let r = number_in ns (get_or ns n N.Root) (at_in ns n h) in one_number ns d (number_of ns (get_or ns n N.Root)) n r.0 h r.1

-- ---- the numbers of one graph in the other

abbrev unnamed : List ConflictNode → Arc → Edge
unnamed ns l = record { source = number_of ns l.source; target = number_of ns l.target; weight = l.weight; clause = l.clause }

unname : (ns : List ConflictNode) → Distinct ns → (es : List Edge) → All (Runs ns) es → map (unnamed ns) (map (stands_for ns) es) ≡ es
unname ns d [] R = refl
unname ns d (e ∷ es) R =
    rw (number_at_lem ns d e.source R.0.from, number_at_lem ns d e.target R.0.to) (ap (λ (l : List Edge). e ∷ l) (unname ns d es R.1))

module _ (H G : Graph) where
  -- the number in G of H's node m
  abbrev pub across : ℕ → ℕ
  across m = number_of G.nodes (node_at H m)

  module _ (dH : Distinct H.nodes) (dG : Distinct G.nodes) (rG : All (Runs G.nodes) G.edges) (A : GraphsAlike H G) where
    across_in : (m : ℕ) → m < length H.nodes → (across m < length G.nodes) × (node_at G (across m) ≡ node_at H m)
    across_in m h = number_in G.nodes (node_at H m) (A.nodes_on (node_at H m) (at_in H.nodes m h))

    across_edges : G.edges ≡ map (move_edge across) H.edges
    unfolding named
    across_edges =
        sym (unname G.nodes dG G.edges rG)
        ∙ ap (map (unnamed G.nodes)) (sym A.edges)
        ∙ map-map (unnamed G.nodes) (stands_for H.nodes) H.edges

    pub alike_carried : Carried across H G
    alike_carried =
        record {
          edges_are = across_edges;
          inside = λ m h. (across_in m h).0;
          stands = λ m h. (across_in m h).1;
          one = λ m k h l q. one_number H.nodes dH m k h l (sym (across_in m h).1 ∙ ap (node_at G) q ∙ (across_in k l).1);
          all = each;
        }
      where
        each : (n : ℕ) → n < length G.nodes → (m : ℕ) × (m < length H.nodes) × (across m ≡ n)
        each n h =
            let r = number_in H.nodes (node_at G n) (A.nodes_back (node_at G n) (at_in G.nodes n h)) in
            (number_of H.nodes (node_at G n), r.0, ap (number_of G.nodes) r.1 ∙ number_at_lem G.nodes dG n h)

    -- (D) what is reached in H is reached in G
    module _ (z : node_at G 0 ≡ node_at H 0) (sG : 0 < length G.nodes) where
      path_across : {m : ℕ} → Path H 0 m → Path G 0 (across m)
      path_across here = let q : across 0 ≡ 0 = ap (number_of G.nodes) (sym z) ∙ number_at_lem G.nodes dG 0 sG in rw q here
      path_across (along e i p) =
          along (move_edge across e) (subst (λ (es : List Edge). In (move_edge across e) es) (sym across_edges) (map_in (move_edge across) e H.edges i))
          (path_across p)

      pub alike_reached : ((m : ℕ) → m < length H.nodes → Path H 0 m) → (n : ℕ) → n < length G.nodes → Path G 0 n
      alike_reached f n h = let r = alike_carried.all n h in rw (← r.2) (path_across (f r.0 r.1))

-- ---- the labels

module _ (H G : Graph) (L : GraphLaid H) (K : GraphLaid G) (A : GraphsAlike H G) where
  carried : Carried (across H G) H G
  carried = alike_carried H G L.once K.once K.runs A

  pub alike_acyclic : Acyclic (targets H) → Acyclic (targets G)
  alike_acyclic a = carried_acyclic (across H G) H G L K carried a

  module _ (a : Acyclic (targets H)) (m n : ℕ) (h : m < length H.nodes) (k : n < length G.nodes) (e : node_at H m ≡ node_at G n) where
    number : across H G m ≡ n
    number = ap (number_of G.nodes) e ∙ number_at_lem G.nodes K.once n k

    pub alike_installable : installable H m ≡ installable G n
    alike_installable = sym (subst (λ (i : ℕ). installable G i ≡ installable H m) number (carried_installable (across H G) H G L K carried a m h))

    pub alike_missing : missing H m ≡ missing G n
    alike_missing = sym (subst (λ (i : ℕ). missing G i ≡ missing H m) number (carried_missing (across H G) H G L K carried a m h))
