-- Links of one node to several solvables: the laws of `fan`, and that a node which is there stays where it is.
use Rattle.std.specs.Prelude.{Result, Ok, Err, ◌≡◌, Bool, true, false, List, [], ◌∷◌, ℕ, zero, suc, ◌+◌, ◌*◌, ◌-◌, ◌/◌, ◌%◌, ◌<◌, ◌≤◌, length, get_or, set, ltb, leb}
use Rattle.std.proofs.Math.Path.{refl, sym}
use Rattle.std.proofs.Common.{ap, ◌∙◌, arith}
use Rattle.std.proofs.Math.Option.{Option, none, some}
use borrow.Author.Tests.{lt-ltb, le-ltb, lt-leb, le-leb, ltb-true}
use Rattle.basis.specs.Lists.{place, snoc}
use Rattle.basis.specs.Members.{split, clash}
use Rattle.store.specs.declared.ConflictNode.{ConflictNode}
use Rattle.store.specs.declared.ConflictNode.TheVariants as N
use Rattle.store.specs.declared.ConflictEdge.{ConflictEdge}
use Rattle.store.specs.declared.Edge.{Edge}
use Rattle.store.specs.declared.Size.{Size}
use Rattle.store.specs.declared.Put.{Put}
use Rattle.store.specs.declared.Full.{Full}
use Rattle.store.specs.Direct.{entry_in, more, with_nodes, put_at}
use Rattle.store.specs.Laws.Direct.{more_old}
use Rattle.store.specs.Graph.{Graph, same_node, with_node, with_edge}
use Rattle.store.specs.Working.{AddedSoFar, added_to, full_at, add_node_in, add_edge_in, add_link_in}
use Rattle.store.specs.Words.{NodeWord, EdgeWord, same_refl}
use Rattle.store.specs.Table.{graph_in, Growing, added_in, size_of, place_of, taken_growing}
use Rattle.store.specs.Finding.{find_of, direct_found}
use Rattle.store.specs.Keeping.{one_edge}
use Rattle.store.specs.Adding.{add_old, node_at, edge_full, edge_new, grow_edge, add_target, target_full, target_edge, held_full}
use Rattle.store.specs.Fan.{known_at, edge_by, linked_by}

-- ---- the direct table by the solvable's number

pub known_low : (g : List ℕ) (c e k : ℕ) → c < 512 → k ≡ c → e ≡ entry_in g (2 * k) → e ≡ known_at g c
unfolding known_at
known_low g c e k h p q = rw (lt-ltb c 512 h) (rw p at q)

pub known_past : (g : List ℕ) (c : ℕ) → 512 ≤ c → 0 ≡ known_at g c
unfolding known_at
known_past g c h = rw (le-ltb c 512 h)

pub ruleset knows = (known_low, known_past)

-- e is not 0: it is one more than the number of the node
module _ (g : List ℕ) (s : Size) (c e : ℕ) (P : Growing g s) (q : e ≡ known_at g c) (d : e ≡ 0 → ⊥) where
  low : c < 512
  unfolding known_at
  low =
      split (ltb c 512) (λ t. ltb-true c 512 t)
      (λ t. let z : e ≡ 0 = rw t at q in absurd (d z))

  entry : e ≡ entry_in g (2 * c)
  unfolding known_at
  entry = rw (lt-ltb c 512 low) at q

  word : NodeWord (N.Solvable c) (1 + 4 * c)
  word = record { is = refl; fits = omega (arith, low); small = omega (arith, low) }

  half : (1 + 4 * c) / 2 ≡ 2 * c
  half = omega arith

  found : (e - 1) ≡ find_of g s.nodes (1 + 4 * c)
  found = direct_found g s (1 + 4 * c) e P (rw half entry) (omega arith) (omega (arith, low)) d

  known_below : (e - 1) < s.nodes
  known_below = (P.stored.direct.stands (e - 1) (2 * c) (omega (arith, low)) (sym entry ∙ back e d)).0
    where
      back : (e : ℕ) → (e ≡ 0 → ⊥) → e ≡ (e - 1) + 1
      back e d = omega (arith, d)

  -- j is the number as a byte
  pub known_target : (j : ℕ) → j ≡ e - 1 → j < s.nodes
  known_target j z = omega (arith, known_below)

  pub known_small : (e - 1) < 128
  known_small = omega (arith, known_below, P.stored.nodes_most)

  pub known_node : add_node_in (graph_in g s) (N.Solvable c) ≡ added_to (e - 1) (graph_in g s)
  unfolding graph_in
  known_node =
      sym (node_at g g s (N.Solvable c) (e - 1) (add_old g s (N.Solvable c) (1 + 4 * c) P word (e - 1) found known_below) s.nodes known_small
      (more_old s.nodes (e - 1) known_below))

-- ---- an edge, answered by whether there was no room

pub by_full : (g : List ℕ) (s : Size) (e : Edge) → Growing g s → 1024 ≤ s.edges → added_in g (edge_by s true) ≡ add_edge_in (graph_in g s) e
unfolding edge_by
by_full g s e P l = edge_full g s e P l

pub by_full_grows : (g : List ℕ) (s : Size) → Growing g s → 1024 ≤ s.edges → Growing g (size_of (edge_by s true))
unfolding edge_by
by_full_grows g s P l = P

module _ (g : List ℕ) (s : Size) (e : Edge) (w n : ℕ) (E : EdgeWord e w) (P : Growing g s) (b : n ≡ get_or g s.edges 0 / 72057594037927936) where
  pub by_new : s.edges < 1024 → added_in (set g s.edges (w + 72057594037927936 * n)) (edge_by s false) ≡ add_edge_in (graph_in g s) e
  unfolding edge_by
  by_new l = edge_new g s e w n E P b l

  pub by_new_grows : s.edges < 1024 → e.source < 128 → e.target < s.nodes → Growing (set g s.edges (w + 72057594037927936 * n)) (size_of (edge_by s false))
  unfolding edge_by
  by_new_grows l hs ht = grow_edge g s e w n E P b l hs ht

pub ruleset edges_by = (by_full, by_full_grows, by_new, by_new_grows)

-- ---- what the number says

linked_full : (s : Size) (n r : ℕ) → r ≡ 2 + (n - s.nodes) → s.nodes ≤ n → linked_by s r ≡ Err (record { size = with_nodes s n })
unfolding linked_by
linked_full s n r q h =
    let a : s.nodes + (r - 2) ≡ n = omega arith in
    rw (le-leb 2 r (omega arith), a)

linked_at : (s : Size) (n r : ℕ) → r ≡ n - s.nodes → s.nodes ≤ n → n ≤ s.nodes + 1 → linked_by s r ≡ Ok (record { place = s.edges; size = one_edge (with_nodes s n) })
unfolding linked_by
linked_at s n r q h l =
    let a : s.nodes + r ≡ n = omega arith in
    rw (lt-leb 2 r (omega arith), a)

more_least : (k j : ℕ) → k ≤ more k j
more_least k j = split (ltb j k) (λ t. rw t (omega arith)) (λ t. rw t (omega arith))

more_most : (k j : ℕ) → more k j ≤ k + 1
more_most k j = split (ltb j k) (λ t. rw t (omega arith)) (λ t. rw t (omega arith))

pub few_stop : (k j n : ℕ) → n ≡ more k j → 2 + (n - k) ≤ 3
few_stop k j n q = omega (arith, more_most k j)

pub few_on : (k j n : ℕ) → n ≡ more k j → n - k ≤ 3
few_on k j n q = omega (arith, more_most k j)

pub added_least : (k j n : ℕ) → n ≡ more k j → k ≤ n
added_least k j n q = omega (arith, more_least k j)

-- ---- a link whose target may be new: j is its number, n how many nodes there are then

-- no room for the node
module _ (g h : List ℕ) (s : Size) (y : ConflictNode) (w : ConflictEdge) (i j : ℕ) where
  pub new_full : added_in h (put_at s j) ≡ add_node_in (graph_in g s) y → 128 ≤ j → added_in h (linked_by s 2) ≡ add_target (graph_in g s) i y w
  unfolding graph_in
  new_full p b = rw (linked_full s s.nodes 2 (omega arith) (omega arith)) (target_full g h s y j p y w i b)

pub new_full_grows : (h : List ℕ) (s : Size) (j : ℕ) → Growing h (size_of (put_at s j)) → 128 ≤ j → Growing h (size_of (linked_by s 2))
new_full_grows h s j P b = rw (linked_full s s.nodes 2 (omega arith) (omega arith)) (taken_growing h s s.hand (held_full h s j P b))

-- j' is the number as a byte, b what adding the edge answered
module _ (g h m : List ℕ) (s : Size) (y : ConflictNode) (w : ConflictEdge) (i j j' n : ℕ) (b : Bool) where
  edge_said : added_in h (put_at s j) ≡ add_node_in (graph_in g s) y → j < 128 → n ≡ more s.nodes j
      → added_in m (edge_by (with_nodes s n) b) ≡ add_edge_in (graph_in h (with_nodes s n)) (record { source = i; target = j'; weight = w; clause = s.hand }) → j' ≡ j
      → added_in m (edge_by (with_nodes s n) b) ≡ add_target (graph_in g s) i y w
  edge_said p l q o e = target_edge g h s y j p y w m (edge_by (with_nodes s n) b) n i j' l q o e

  pub new_stop : added_in h (put_at s j) ≡ add_node_in (graph_in g s) y → j < 128 → n ≡ more s.nodes j
      → added_in m (edge_by (with_nodes s n) b) ≡ add_edge_in (graph_in h (with_nodes s n)) (record { source = i; target = j'; weight = w; clause = s.hand }) → j' ≡ j
      → b ≡ true → added_in m (linked_by s (2 + (n - s.nodes))) ≡ add_target (graph_in g s) i y w
  unfolding edge_by
  new_stop p l q o e t =
      let z : added_in m (edge_by (with_nodes s n) b) ≡ add_target (graph_in g s) i y w = edge_said p l q o e in
      rw (linked_full s n (2 + (n - s.nodes)) refl (added_least s.nodes j n q)) (rw t at z)

  pub new_on : added_in h (put_at s j) ≡ add_node_in (graph_in g s) y → j < 128 → n ≡ more s.nodes j
      → added_in m (edge_by (with_nodes s n) b) ≡ add_edge_in (graph_in h (with_nodes s n)) (record { source = i; target = j'; weight = w; clause = s.hand }) → j' ≡ j
      → b ≡ false → added_in m (linked_by s (n - s.nodes)) ≡ add_target (graph_in g s) i y w
  unfolding edge_by
  new_on p l q o e t =
      let z : added_in m (edge_by (with_nodes s n) b) ≡ add_target (graph_in g s) i y w = edge_said p l q o e in
      rw (linked_at s n (n - s.nodes) refl (added_least s.nodes j n q) (omega (arith, more_most s.nodes j))) (rw t at z)

module _ (m : List ℕ) (s : Size) (j n : ℕ) (b : Bool) where
  pub new_stop_grows : Growing m (size_of (edge_by (with_nodes s n) b)) → b ≡ true → n ≡ more s.nodes j → Growing m (size_of (linked_by s (2 + (n - s.nodes))))
  unfolding edge_by
  new_stop_grows P t q = rw (linked_full s n (2 + (n - s.nodes)) refl (added_least s.nodes j n q)) (rw t at P)

  pub new_on_grows : Growing m (size_of (edge_by (with_nodes s n) b)) → b ≡ false → n ≡ more s.nodes j → Growing m (size_of (linked_by s (n - s.nodes)))
  unfolding edge_by
  new_on_grows P t q = rw (linked_at s n (n - s.nodes) refl (added_least s.nodes j n q) (omega (arith, more_most s.nodes j))) (rw t at P)

pub ruleset new_links = (new_full, new_stop, new_on)

pub ruleset new_grows = (new_full_grows, new_stop_grows, new_on_grows)

-- ---- a link to a node that is there: e is its entry

module _ (g m : List ℕ) (s : Size) (w : ConflictEdge) (i c e j' : ℕ) (b : Bool) where
  known_said : Growing g s → e ≡ known_at g c → (e ≡ 0 → ⊥) → added_in m (edge_by s b)
      ≡ add_edge_in (graph_in g s) (record { source = i; target = j'; weight = w; clause = s.hand }) → j' ≡ e - 1
      → added_in m (edge_by s b) ≡ add_target (graph_in g s) i (N.Solvable c) w
  unfolding add_target graph_in
  known_said P q d o z = rw (known_node g s c e P q d, add_target) (rw z at o)

  pub known_stop : Growing g s → e ≡ known_at g c → (e ≡ 0 → ⊥) → added_in m (edge_by s b)
      ≡ add_edge_in (graph_in g s) (record { source = i; target = j'; weight = w; clause = s.hand }) → j' ≡ e - 1 → b ≡ true
      → added_in m (linked_by s 2) ≡ add_target (graph_in g s) i (N.Solvable c) w
  unfolding edge_by graph_in
  known_stop P q d o z t =
      let y : added_in m (edge_by s b) ≡ add_target (graph_in g s) i (N.Solvable c) w = known_said P q d o z in
      rw (linked_full s s.nodes 2 (omega arith) (omega arith)) (rw t at y)

  pub known_on : Growing g s → e ≡ known_at g c → (e ≡ 0 → ⊥) → added_in m (edge_by s b)
      ≡ add_edge_in (graph_in g s) (record { source = i; target = j'; weight = w; clause = s.hand }) → j' ≡ e - 1 → b ≡ false
      → added_in m (linked_by s 0) ≡ add_target (graph_in g s) i (N.Solvable c) w
  unfolding edge_by
  known_on P q d o z t =
      let y : added_in m (edge_by s b) ≡ add_target (graph_in g s) i (N.Solvable c) w = known_said P q d o z in
      rw (linked_at s s.nodes 0 (omega arith) (omega arith) (omega arith)) (rw t at y)

module _ (m : List ℕ) (s : Size) (b : Bool) where
  pub known_stop_grows : Growing m (size_of (edge_by s b)) → b ≡ true → Growing m (size_of (linked_by s 2))
  unfolding edge_by
  known_stop_grows P t =
      let z : Growing m s = rw t at P in
      rw (linked_full s s.nodes 2 (omega arith) (omega arith)) (taken_growing m s s.hand z)

  pub known_on_grows : Growing m (size_of (edge_by s b)) → b ≡ false → Growing m (size_of (linked_by s 0))
  unfolding edge_by
  known_on_grows P t = rw (linked_at s s.nodes 0 (omega arith) (omega arith) (omega arith)) (rw t at P)

pub ruleset known_links = (known_stop, known_on)

pub ruleset known_grows = (known_stop_grows, known_on_grows)

-- ---- the size after a link

pub after_none : (s : Size) (r : ℕ) → r ≡ 0 → one_edge s ≡ size_of (linked_by s r)
unfolding linked_by
after_none s r e =
    let a : s.nodes + r ≡ s.nodes = omega arith in
    rw (lt-leb 2 r (omega arith), a)

pub after_stop : (s : Size) (r : ℕ) → 2 ≤ r → with_nodes s (s.nodes + (r - 2)) ≡ size_of (linked_by s r)
unfolding linked_by
after_stop s r h = rw (le-leb 2 r h)

pub after_on : (s : Size) (r : ℕ) → r < 2 → one_edge (with_nodes s (s.nodes + r)) ≡ size_of (linked_by s r)
unfolding linked_by
after_on s r h = rw (lt-leb 2 r h)

pub ruleset afters = (after_none, after_stop, after_on)

-- the answer taken apart
pub linked_stops : (s u : Size) (r : ℕ) → 2 ≤ r → u ≡ size_of (linked_by s r) → linked_by s r ≡ Err (record { size = u })
unfolding linked_by
linked_stops s u r h q = rw q (rw (le-leb 2 r h))

pub linked_goes : (s u : Size) (r : ℕ) → r < 2 → u ≡ size_of (linked_by s r) → linked_by s r ≡ Ok (record { place = s.edges; size = u })
unfolding linked_by
linked_goes s u r h q = rw q (rw (lt-leb 2 r h))

-- ---- a node that is there stays where it is

place_on : (x y : ConflictNode) (ns : List ConflictNode) (a i : ℕ) → place (same_node x) ns a ≡ some i → place (same_node x) (snoc ns y) a ≡ some i
place_on x y [] a i e = clash (cc)
place_on x y (n ∷ ns) a i e =
    split (same_node x n)
    (λ t. rw (t, place) (rw (t, place) at e))
    (λ t. rw (t, place) (place_on x y ns (suc a) i (rw (t, place) at e)))

place_end : (x : ConflictNode) (ns : List ConflictNode) (a : ℕ) → place (same_node x) ns a ≡ none → place (same_node x) (snoc ns x) a ≡ some (a + length ns)
place_end x [] a e = rw (same_refl x, place) (ap some (omega arith))
place_end x (n ∷ ns) a e =
    split (same_node x n)
    (λ t. let z : some a ≡ none = rw (t, place) at e in clash (cc))
    (λ t. let z : a + suc (length ns) ≡ suc a + length ns = omega arith in
    rw (t, place, z) (place_end x ns (suc a) (rw (t, place) at e)))

longer : (ns : List ConflictNode) (x : ConflictNode) → length (snoc ns x) ≡ length ns → ⊥
longer [] x q = omega arith
longer (n ∷ ns) x q = longer ns x (omega arith)

-- the place of a node that was found
is_placed : (g : Graph) (x : ConflictNode) (i : ℕ) → add_node_in g x ≡ added_to i g → place (same_node x) g.nodes 0 ≡ some i
unfolding add_node_in
is_placed g x i e = go (place (same_node x) g.nodes 0) refl
  where
    go : (o : Option ℕ) → place (same_node x) g.nodes 0 ≡ o → place (same_node x) g.nodes 0 ≡ some i
    go (some j) q = let z : added_to j g ≡ added_to i g = rw (q, add_node_in) at e in let y : j ≡ i = cc in q ∙ ap some y
    go none q =
        split (ltb (length g.nodes) 128)
        (λ t. let z : added_to (length g.nodes) (with_node g x) ≡ added_to i g = rw (q, add_node_in, t) at e in
        let y : with_node g x ≡ g = cc in
        let u : length (with_node g x).nodes ≡ length g.nodes = ap (λ (k : Graph). length k.nodes) y in
        absurd (longer g.nodes x u))
        (λ t. let z : full_at g ≡ added_to i g = rw (q, add_node_in, t) at e in clash (cc))

at_place_again : (g : Graph) (x : ConflictNode) (i : ℕ) → place (same_node x) g.nodes 0 ≡ some i → add_node_in g x ≡ added_to i g
unfolding add_node_in
at_place_again g x i q = rw (q, add_node_in)

none_before : (n : ℕ) → 0 + n ≡ n
none_before n = omega arith

-- what adding gave is there
pub known_self : (g h : Graph) (x : ConflictNode) (i : ℕ) → add_node_in g x ≡ added_to i h → add_node_in h x ≡ added_to i h
unfolding add_node_in
known_self g h x i e = go (place (same_node x) g.nodes 0) refl
  where
    go : (o : Option ℕ) → place (same_node x) g.nodes 0 ≡ o → add_node_in h x ≡ added_to i h
    go (some j) q =
        let z : added_to j g ≡ added_to i h = rw (q, add_node_in) at e in
        let y : g ≡ h = cc in
        rw (← y) (rw (← y) at e)
    go none q =
        split (ltb (length g.nodes) 128)
        (λ t. let z : added_to (length g.nodes) (with_node g x) ≡ added_to i h = rw (q, add_node_in, t) at e in
        let y : with_node g x ≡ h = cc in
        let u : length g.nodes ≡ i = cc in
        rw (← y, ← u) (at_place_again (with_node g x) x (length g.nodes) (place_end x g.nodes 0 q ∙ ap some (none_before (length g.nodes)))))
        (λ t. let z : full_at g ≡ added_to i h = rw (q, add_node_in, t) at e in clash (cc))

-- and is there after another node, and after an edge
on_node : (g h : Graph) (x y : ConflictNode) (i j : ℕ) → add_node_in g x ≡ added_to i g → add_node_in g y ≡ added_to j h → add_node_in h x ≡ added_to i h
unfolding add_node_in
on_node g h x y i j p e = go (place (same_node y) g.nodes 0) refl
  where
    go : (o : Option ℕ) → place (same_node y) g.nodes 0 ≡ o → add_node_in h x ≡ added_to i h
    go (some k) q =
        let z : added_to k g ≡ added_to j h = rw (q, add_node_in) at e in
        let u : g ≡ h = cc in
        rw (← u) p
    go none q =
        split (ltb (length g.nodes) 128)
        (λ t. let z : added_to (length g.nodes) (with_node g y) ≡ added_to j h = rw (q, add_node_in, t) at e in
        let u : with_node g y ≡ h = cc in
        rw (← u) (at_place_again (with_node g y) x i (place_on x y g.nodes 0 i (is_placed g x i p))))
        (λ t. let z : full_at g ≡ added_to j h = rw (q, add_node_in, t) at e in clash (cc))

on_edge : (g h : Graph) (x : ConflictNode) (e : Edge) (i m : ℕ) → add_node_in g x ≡ added_to i g → add_edge_in g e ≡ added_to m h → add_node_in h x ≡ added_to i h
unfolding add_edge_in
on_edge g h x e i m p q =
    split (ltb (length g.edges) 1024)
    (λ t. let z : added_to (length g.edges) (with_edge g e) ≡ added_to m h = rw t at q in
    let u : with_edge g e ≡ h = cc in
    rw (← u) (at_place_again (with_edge g e) x i (is_placed g x i p)))
    (λ t. let z : full_at g ≡ added_to m h = rw t at q in clash (cc))

pub known_keeps : (g h : Graph) (x y : ConflictNode) (w : ConflictEdge) (i m : ℕ) → add_node_in g x ≡ added_to i g → add_target g i y w ≡ added_to m h
    → add_node_in h x ≡ added_to i h
unfolding add_target
known_keeps g h x y w i m p e = go (add_node_in g y) refl
  where
    go : (a : AddedSoFar) → add_node_in g y ≡ a → add_node_in h x ≡ added_to i h
    go (added_to j k) q =
        let z : add_edge_in k (record { source = i; target = j; weight = w; clause = k.hand }) ≡ added_to m h = rw (q, add_target) at e in
        on_edge k h x (record { source = i; target = j; weight = w; clause = k.hand }) i m (on_node g k x y i j p q) z
    go (full_at k) q = let z : full_at k ≡ added_to m h = rw (q, add_target) at e in clash (cc)

-- so that a link from it is its second half
pub known_link : (g h : Graph) (x y : ConflictNode) (w : ConflictEdge) (i : ℕ) → add_node_in g x ≡ added_to i h → add_link_in g x y w ≡ add_target h i y w
unfolding add_link_in add_target
known_link g h x y w i p = rw (p, add_link_in)
