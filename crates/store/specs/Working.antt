-- Adding, with what stays in working memory where there is no room: the graph as far as it came, which the lent table then holds. With
-- that graph forgotten it is the adding of `Graph`.
use Rattle.std.specs.Prelude.{◌≡◌, refl, Bool, true, false, cond, ℕ, length, ltb}
use Rattle.std.proofs.Common.{sym, ap, ◌∙◌}
use Rattle.std.proofs.Math.Option.{Option, none, some}
use Rattle.basis.specs.Lists.{place}
use Rattle.store.specs.declared.ConflictNode.{ConflictNode}
use Rattle.store.specs.declared.ConflictEdge.{ConflictEdge}
use Rattle.store.specs.declared.Edge.{Edge}
use Rattle.store.specs.Graph.{Graph, same_node, with_node, with_edge, Added, added, full, add_node, add_edge, add_link}

-- ---- the definitions

-- `Added`; where there is no room, with the graph so far
pub data AddedSoFar : Type 0 where
  added_to : ℕ → Graph → AddedSoFar
  full_at : Graph → AddedSoFar

unfoldable pub add_node_in : Graph → ConflictNode → AddedSoFar
add_node_in g x =
    elim (place (same_node x) g.nodes 0) [
      | some i ↦ added_to i g
      | none ↦ cond (ltb (length g.nodes) 128) (added_to (length g.nodes) (with_node g x)) (full_at g)
    ]

unfoldable pub add_edge_in : Graph → Edge → AddedSoFar
add_edge_in g e =
    cond (ltb (length g.edges) 1024) (added_to (length g.edges) (with_edge g e)) (full_at g)

-- an end that was added stays where the other end or the edge finds no room
unfoldable pub add_link_in : Graph → ConflictNode → ConflictNode → ConflictEdge → AddedSoFar
unfolding add_node_in add_edge_in
add_link_in g x y w =
    elim (add_node_in g x) [
      | full_at h ↦ full_at h
      | added_to i h ↦
          elim (add_node_in h y) [
            | full_at k ↦ full_at k
            | added_to j k ↦ add_edge_in k (record { source = i; target = j; weight = w; clause = k.hand })
          ]
    ]

-- ---- with the graph forgotten

abbrev pub forget_added : AddedSoFar → Added
forget_added (added_to i g) = added i g
forget_added (full_at g) = full

pub forget_node : (g : Graph) (x : ConflictNode) → forget_added (add_node_in g x) ≡ add_node g x
unfolding add_node_in add_node
forget_node g x = by_place (ltb (length g.nodes) 128) (length g.nodes) (with_node g x) (place (same_node x) g.nodes 0)
  where
    by_place : (b : Bool) (n : ℕ) (h : Graph) (o : Option ℕ)
        → forget_added (elim o [ some i ↦ added_to i g | none ↦ cond b (added_to n h) (full_at g) ])
        ≡ elim o [ some i ↦ added i g | none ↦ cond b (added n h) full ]
    by_place b n h (some i) = refl
    by_place true n h none = refl
    by_place false n h none = refl

pub forget_edge : (g : Graph) (e : Edge) → forget_added (add_edge_in g e) ≡ add_edge g e
unfolding add_edge_in add_edge
forget_edge g e = by_room (ltb (length g.edges) 1024) (length g.edges) (with_edge g e)
  where
    by_room : (b : Bool) (n : ℕ) (h : Graph) → forget_added (cond b (added_to n h) (full_at g)) ≡ cond b (added n h) full
    by_room true n h = refl
    by_room false n h = refl

pub forget_link : (g : Graph) (x y : ConflictNode) (w : ConflictEdge) → forget_added (add_link_in g x y w) ≡ add_link g x y w
unfolding add_link_in add_link
forget_link g x y w = source (add_node_in g x) refl
  where
    target : (i : ℕ) (h : Graph) → add_node_in g x ≡ added_to i h → (a : AddedSoFar) → add_node_in h y ≡ a
        → forget_added (add_link_in g x y w) ≡ add_link g x y w
    target i h p (added_to j k) q =
        let a : add_node g x ≡ added i h = sym (forget_node g x) ∙ ap forget_added p in
        let b : add_node h y ≡ added j k = sym (forget_node h y) ∙ ap forget_added q in
        rw (p, add_link_in, q, a, add_link, b) (forget_edge k (record { source = i; target = j; weight = w; clause = k.hand }))
    target i h p (full_at k) q =
        let a : add_node g x ≡ added i h = sym (forget_node g x) ∙ ap forget_added p in
        let b : add_node h y ≡ full = sym (forget_node h y) ∙ ap forget_added q in
        rw (p, add_link_in, q, a, add_link, b)

    source : (a : AddedSoFar) → add_node_in g x ≡ a → forget_added (add_link_in g x y w) ≡ add_link g x y w
    source (added_to i h) p = target i h p (add_node_in h y) refl
    source (full_at h) p =
        let a : add_node g x ≡ full = sym (forget_node g x) ∙ ap forget_added p in
        rw (p, add_link_in, a, add_link)
