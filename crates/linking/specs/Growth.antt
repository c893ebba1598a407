-- Links added one after another to a table that holds the graph: what an answer means, what is left to add, and how the two meet.
use Rattle.std.specs.Prelude.{◌≡◌, refl, length, ltb, Result, Ok, Err}
use Rattle.std.proofs.Math.Path.{sym, ap}
use Rattle.std.proofs.Common.{◌∙◌, add-one, sub-one, not-suc-le-zero, arith, length-append, ltb-true, ltb-false, lt-ltb, le-ltb}
use mathlib.Core.List.{List, [], ◌∷◌, ◌++◌, append-nil}
use Prim.Native.Nat.{ℕ, zero, suc, ◌+◌, ◌-◌, ◌<◌, ◌≤◌}
use Rattle.basis.specs.Members.{split, clash}
use Rattle.basis.specs.Lists.{place, snoc}
use Rattle.std.proofs.Math.Option.{Option, none, some}
use Rattle.store.specs.declared.ConflictNode.{ConflictNode}
use Rattle.store.specs.declared.ConflictNode.TheVariants as N
use Rattle.store.specs.declared.ConflictCause.TheVariants as K
use Rattle.store.specs.declared.ConflictEdge.{ConflictEdge}
use Rattle.store.specs.declared.ConflictEdge.TheVariants as W
use Rattle.store.specs.declared.Edge.{Edge}
use Rattle.store.specs.declared.Size.{Size}
use Rattle.store.specs.declared.Put.{Put}
use Rattle.store.specs.Graph.{Graph, same_node, with_node, with_edge}
use Rattle.store.specs.Working.{AddedSoFar, added_to, full_at, add_node_in, add_edge_in, add_link_in}
use Rattle.store.specs.Table.{graph_in, Stored, Growing, added_in, size_of, place_of, edges_count}
use Rattle.store.specs.declared.Full.{Full}
use Rattle.linking.specs.Links.{Link, link, previous_links}
use Rattle.linking.specs.Working.{LinkedSoFar, more_to, short_at, link_all_in, forbid_all_in, last_by}

-- ---- what an answer means

abbrev pub grown_in : List ℕ → Result Size Full → LinkedSoFar
grown_in g (Ok s) = more_to (graph_in g s)
grown_in g (Err e) = short_at (graph_in g e.size)

abbrev pub grown_size : Result Size Full → Size
grown_size (Ok s) = s
grown_size (Err e) = e.size

-- table h and answer r hold W, and the graph can grow on
pub record Grew (W : LinkedSoFar) (h : List ℕ) (r : Result Size Full) : Type 0 where
  pub is : grown_in h r ≡ W
  pub growing : Growing h (grown_size r)

-- adding the links ls to what table g holds gives W
pub record LinksLeft (W : LinkedSoFar) (ls : List Link) (g : List ℕ) (s : Size) : Type 0 where
  pub left : link_all_in ls (graph_in g s) ≡ W
  pub growing : Growing g s

-- ---- links one after another

abbrev pub and_then : LinkedSoFar → List Link → LinkedSoFar
and_then (more_to g) ls = link_all_in ls g
and_then (short_at g) ls = short_at g

after : (a : AddedSoFar) (xs ys : List Link) → ((g : Graph) → link_all_in (xs ++ ys) g ≡ and_then (link_all_in xs g) ys)
    → elim a [ full_at h ↦ short_at h | added_to i h ↦ link_all_in (xs ++ ys) h ] ≡ and_then (elim a [ full_at h ↦ short_at h | added_to i h ↦ link_all_in xs h ]) ys
after (added_to i h) xs ys f = f h
after (full_at h) xs ys f = refl

pub link_append : (xs ys : List Link) (g : Graph) → link_all_in (xs ++ ys) g ≡ and_then (link_all_in xs g) ys
unfolding link_all_in
link_append [] ys g = refl
link_append (x ∷ xs) ys g = after (add_link_in g x.source x.target x.weight) xs ys (link_append xs ys)

-- ---- the ways of a loop: r is what adding the first part xs gave

module _ (W : LinkedSoFar) (ls xs ys : List Link) (g h : List ℕ) (s : Size) (r : Result Size Full) where
  pub left_next : (t : Size) → LinksLeft W ls g s → Grew (link_all_in xs (graph_in g s)) h r → r ≡ Ok t → ls ≡ xs ++ ys → LinksLeft W ys h t
  left_next t L R q e =
      let z : link_all_in xs (graph_in g s) ≡ more_to (graph_in h t) = sym R.is ∙ ap (grown_in h) q in
      record {
        left =
            sym (ap (λ (l : LinkedSoFar). and_then l ys) z) ∙ sym (link_append xs ys (graph_in g s)) ∙ ap (λ (l : List Link). link_all_in l (graph_in g s)) (sym e)
            ∙ L.left;
        growing = rw q at R.growing;
      }

  pub left_stop : (e : Full) → LinksLeft W ls g s → Grew (link_all_in xs (graph_in g s)) h r → r ≡ Err e → ls ≡ xs ++ ys → Grew W h (Err e)
  left_stop e L R q f =
      let z : link_all_in xs (graph_in g s) ≡ short_at (graph_in h e.size) = sym R.is ∙ ap (grown_in h) q in
      record {
        is =
            sym (ap (λ (l : LinkedSoFar). and_then l ys) z) ∙ sym (link_append xs ys (graph_in g s)) ∙ ap (λ (l : List Link). link_all_in l (graph_in g s)) (sym f)
            ∙ L.left;
        growing = rw q at R.growing;
      }

pub left_start : (ls : List Link) (g : List ℕ) (s : Size) → Growing g s → LinksLeft (link_all_in ls (graph_in g s)) ls g s
left_start ls g s P = record { left = refl; growing = P }

pub left_end : (W : LinkedSoFar) (ls : List Link) (g : List ℕ) (s : Size) → LinksLeft W ls g s → ls ≡ [] → Grew W g (Ok s)
unfolding link_all_in
left_end W ls g s L e = record { is = ap (λ (l : List Link). link_all_in l (graph_in g s)) (sym e) ∙ L.left; growing = L.growing }

-- no link at all
pub grew_none : (ls : List Link) (g : List ℕ) (s : Size) → ls ≡ [] → Growing g s → Grew (link_all_in ls (graph_in g s)) g (Ok s)
grew_none ls g s e P = left_end (link_all_in ls (graph_in g s)) ls g s (left_start ls g s P) e

-- the same links, told another way
pub grew_as : (ls ms : List Link) (g h : List ℕ) (s : Size) (r : Result Size Full) → Grew (link_all_in ms (graph_in g s)) h r → ls ≡ ms
    → Grew (link_all_in ls (graph_in g s)) h r
grew_as ls ms g h s r R e = rw e R

-- ---- one link, by `store::link`

module _ (g h : List ℕ) (s : Size) (x y : ConflictNode) (w : ConflictEdge) (a : Result Put Full) where
  pub one_on : (i : Put) → added_in h a ≡ add_link_in (graph_in g s) x y w → a ≡ Ok i → Growing h (size_of a)
      → Grew (link_all_in (link x y w ∷ []) (graph_in g s)) h (Ok i.size)
  unfolding link_all_in
  one_on i p q P =
      let z : add_link_in (graph_in g s) x y w ≡ added_to i.place (graph_in h i.size) = sym p ∙ ap (added_in h) q in
      record { is = rw (z, link_all_in); growing = rw q at P }

  pub one_full : (e : Full) → added_in h a ≡ add_link_in (graph_in g s) x y w → a ≡ Err e → Growing h (size_of a)
      → Grew (link_all_in (link x y w ∷ []) (graph_in g s)) h (Err e)
  unfolding link_all_in
  one_full e p q P =
      let z : add_link_in (graph_in g s) x y w ≡ full_at (graph_in h e.size) = sym p ∙ ap (added_in h) q in
      record { is = rw (z, link_all_in); growing = rw q at P }

pub ruleset ones = (one_on, one_full)

-- ---- edges are only added

pub edges_node : (g h : Graph) (x : ConflictNode) (i : ℕ) → add_node_in g x ≡ added_to i h → h.edges ≡ g.edges
unfolding add_node_in
edges_node g h x i e =
    go (place (same_node x) g.nodes 0) refl
  where
    go : (o : Option ℕ) → place (same_node x) g.nodes 0 ≡ o → h.edges ≡ g.edges
    go (some j) q = let z : added_to j g ≡ added_to i h = rw (q, add_node_in) at e in cc
    go none q =
        split (ltb (length g.nodes) 128)
        (λ t. let z : added_to (length g.nodes) (with_node g x) ≡ added_to i h = rw (q, add_node_in, t) at e in
        let y : with_node g x ≡ h = cc in ap (λ (k : Graph). k.edges) (sym y))
        (λ t. let z : full_at g ≡ added_to i h = rw (q, add_node_in, t) at e in clash (cc))

pub edges_edge : (g h : Graph) (e : Edge) (i : ℕ) → add_edge_in g e ≡ added_to i h → length h.edges ≡ suc (length g.edges)
unfolding add_edge_in
edges_edge g h e i q =
    split (ltb (length g.edges) 1024)
    (λ t. let z : added_to (length g.edges) (with_edge g e) ≡ added_to i h = rw t at q in
    let y : with_edge g e ≡ h = cc in
    ap (λ (k : Graph). length k.edges) (sym y) ∙ rw length-append (omega arith))
    (λ t. let z : full_at g ≡ added_to i h = rw t at q in clash (cc))

pub edges_link : (g h : Graph) (x y : ConflictNode) (w : ConflictEdge) (i : ℕ) → add_link_in g x y w ≡ added_to i h → length h.edges ≡ suc (length g.edges)
unfolding add_link_in
edges_link g h x y w i e = first (add_node_in g x) refl
  where
    second : (j : ℕ) (k : Graph) → add_node_in g x ≡ added_to j k → (b : AddedSoFar) → add_node_in k y ≡ b → length h.edges ≡ suc (length g.edges)
    second j k p (added_to m l) q =
        let z : add_edge_in l (record { source = j; target = m; weight = w; clause = l.hand }) ≡ added_to i h = rw (p, add_link_in, q) at e in
        let a : l.edges ≡ k.edges = edges_node k l y m q in
        let b : k.edges ≡ g.edges = edges_node g k x j p in
        edges_edge l h (record { source = j; target = m; weight = w; clause = l.hand }) i z ∙ ap (λ (u : List Edge). suc (length u)) (a ∙ b)
    second j k p (full_at l) q = let z : full_at l ≡ added_to i h = rw (p, add_link_in, q) at e in clash (cc)

    first : (a : AddedSoFar) → add_node_in g x ≡ a → length h.edges ≡ suc (length g.edges)
    first (added_to j k) p = second j k p (add_node_in k y) refl
    first (full_at k) p = let z : full_at k ≡ added_to i h = rw (p, add_link_in) at e in clash (cc)

edges_one : (l : Link) (ls : List Link) (g h : Graph) → ((k : Graph) → link_all_in ls k ≡ more_to h → length k.edges ≤ length h.edges) → (a : AddedSoFar)
    → add_link_in g l.source l.target l.weight ≡ a → link_all_in (l ∷ ls) g ≡ more_to h → length g.edges ≤ length h.edges
unfolding link_all_in
edges_one l ls g h f (added_to i k) q e =
    let z : link_all_in ls k ≡ more_to h = rw (q, link_all_in) at e in
    omega (arith, edges_link g k l.source l.target l.weight i q, f k z)
edges_one l ls g h f (full_at k) q e = let z : short_at k ≡ more_to h = rw (q, link_all_in) at e in clash (cc)

pub edges_all : (ls : List Link) (g h : Graph) → link_all_in ls g ≡ more_to h → length g.edges ≤ length h.edges
unfolding link_all_in
edges_all [] g h e = let z : g ≡ h = cc in rw z (omega arith)
edges_all (l ∷ ls) g h e = edges_one l ls g h (λ k z. edges_all ls k h z) (add_link_in g l.source l.target l.weight) refl e

-- ---- a node of its own, then the link from the previous one: p is that one as the table holds it

module _ (g h : List ℕ) (s : Size) (p n : ℕ) (a : Result Put Full) where
  pub forbid_full : (e : Full) → added_in h a ≡ add_node_in (graph_in g s) (N.Solvable n) → a ≡ Err e → Growing h (size_of a)
      → Grew (forbid_all_in (graph_in g s) (last_by p) n) h (Err e)
  unfolding forbid_all_in
  forbid_full e q f P =
      let z : add_node_in (graph_in g s) (N.Solvable n) ≡ full_at (graph_in h e.size) = sym q ∙ ap (added_in h) f in
      record { is = rw (z, forbid_all_in); growing = rw f at P }

  pub forbid_first : (i : Put) → added_in h a ≡ add_node_in (graph_in g s) (N.Solvable n) → a ≡ Ok i → Growing h (size_of a) → p ≡ 0
      → Grew (forbid_all_in (graph_in g s) (last_by p) n) h (Ok i.size)
  unfolding forbid_all_in link_all_in
  forbid_first i q e P f =
      let z : add_node_in (graph_in g s) (N.Solvable n) ≡ added_to i.place (graph_in h i.size) = sym q ∙ ap (added_in h) e in
      let u : previous_links (last_by p) n ≡ [] = ap (λ (k : ℕ). previous_links (last_by k) n) f in
      record { is = ap (λ (l : List Link). link_all_in l (graph_in h i.size)) (sym u) ∙ rw (z, forbid_all_in); growing = rw e at P }

  pub forbid_next : (m : List ℕ) (r : Result Size Full) (i : Put) → added_in h a ≡ add_node_in (graph_in g s) (N.Solvable n) → a ≡ Ok i → (p ≡ 0 → ⊥)
      → Grew (link_all_in (link (N.Solvable (p - 1)) (N.Solvable n) (W.Conflict K.ForbidMultipleInstances) ∷ []) (graph_in h i.size)) m r
      → Grew (forbid_all_in (graph_in g s) (last_by p) n) m r
  unfolding forbid_all_in
  forbid_next m r i q e f R =
      let z : add_node_in (graph_in g s) (N.Solvable n) ≡ added_to i.place (graph_in h i.size) = sym q ∙ ap (added_in h) e in
      let y : p ≡ suc (p - 1) = omega (arith, f) in
      let u : previous_links (last_by p) n ≡ link (N.Solvable (p - 1)) (N.Solvable n) (W.Conflict K.ForbidMultipleInstances) ∷ [] =
      ap (λ (k : ℕ). previous_links (last_by k) n) y in
      record { is = R.is ∙ ap (λ (l : List Link). link_all_in l (graph_in h i.size)) (sym u) ∙ rw (z, forbid_all_in); growing = R.growing }

pub edges_forbid : (g h : Graph) (p : Option ℕ) (n : ℕ) → forbid_all_in g p n ≡ more_to h → length g.edges ≤ length h.edges
unfolding forbid_all_in
edges_forbid g h p n e = go (add_node_in g (N.Solvable n)) refl
  where
    go : (a : AddedSoFar) → add_node_in g (N.Solvable n) ≡ a → length g.edges ≤ length h.edges
    go (added_to i k) q =
        let z : link_all_in (previous_links p n) k ≡ more_to h = rw (q, forbid_all_in) at e in
        let y : k.edges ≡ g.edges = edges_node g k (N.Solvable n) i q in
        rw (← y) (edges_all (previous_links p n) k h z)
    go (full_at k) q = let z : short_at k ≡ more_to h = rw (q, forbid_all_in) at e in clash (cc)

pub held_on : (h : List ℕ) (a : Result Put Full) (i : Put) → a ≡ Ok i → Growing h (size_of a) → Growing h i.size
held_on h a i e P = rw e at P

pub ruleset forbids = (forbid_full, forbid_first, forbid_next)
