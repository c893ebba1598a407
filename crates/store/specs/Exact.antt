-- The table and its size are known from the graph that they hold: what the contracts of `start`, `add_node`, `link` and `settle` say of
-- the graph and the promise determines every word that was lent.
use Rattle.std.specs.Prelude.{Result, Ok, Err, ◌≡◌, refl, List, ℕ, ◌+◌, ◌*◌, ◌-◌, ◌%◌, ◌<◌, ◌≤◌, length, get_or, ltb, leb}
use Rattle.std.proofs.Common.{sym, ap, ◌∙◌, arith, ext_get_or, ltb-true, ltb-false, leb-true}
use Rattle.basis.specs.Members.{split, clash}
use Rattle.store.specs.declared.ConflictNode.{ConflictNode}
use Rattle.store.specs.declared.Size.{Size}
use Rattle.store.specs.declared.Put.{Put}
use Rattle.store.specs.declared.Full.{Full}
use Rattle.store.specs.Direct.{entry_in, with_nodes}
use Rattle.store.specs.Laws.Direct.{both_parts, entry_one}
use Rattle.store.specs.Keeping.{one_edge}
use Rattle.store.specs.Fan.{linked_by}
use Rattle.store.specs.Graph.{Graph, node_at, first_at}
use Rattle.store.specs.Words.{NodeWord, word_of, node_of, first_clause, edge_word}
use Rattle.store.specs.Table.{graph_in, edge_in, no_edge, Stored, Growing, added_in, size_of, nodes_count, edges_count, node_in_lem, first_in_lem, edge_in_lem, node_read}
use Rattle.store.specs.Table.{first_read}

size_same : (s t : Size) → s.nodes ≡ t.nodes → s.edges ≡ t.edges → s.hand ≡ t.hand → s ≡ t
size_same s t p q r =
    ap (λ (n : ℕ). sized n s.edges s.hand) p ∙ ap (λ (m : ℕ). sized t.nodes m s.hand) q ∙ ap (λ (h : ℕ). sized t.nodes t.edges h) r
  where
    sized : ℕ → ℕ → ℕ → Size
    sized n m h = record { nodes = n; edges = m; hand = h }

-- a word is that of its node, of its edge
node_word_lem : (g : List ℕ) (s : Size) → Stored g s → (n : ℕ) → n < s.nodes
    → get_or g (1024 + n) 0 ≡ word_of (node_at (graph_in g s) n) + 262144 * first_at (graph_in g s) n
node_word_lem g s S n h =
    let z : node_of (get_or g (1024 + n) 0) ≡ node_at (graph_in g s) n =
    node_read g n (get_or g (1024 + n) 0) (node_of (get_or g (1024 + n) 0)) refl refl (omega (arith, S.nodes_most)) ∙ node_in_lem g s S n h in
    let y : first_clause (get_or g (1024 + n) 0) ≡ first_at (graph_in g s) n = first_read g n (get_or g (1024 + n) 0) refl (omega (arith, S.nodes_most))
    ∙ first_in_lem g s S n h in
    sym (S.word n h) ∙ ap (λ (x : ConflictNode). word_of x + 262144 * first_clause (get_or g (1024 + n) 0)) z
    ∙ ap (λ (c : ℕ). word_of (node_at (graph_in g s) n) + 262144 * c) y

edge_word_lem : (g : List ℕ) (s : Size) → Stored g s → (e : ℕ) → e < s.edges → get_or g e 0 % 72057594037927936 ≡ edge_word (get_or (graph_in g s).edges e no_edge)
unfolding edge_in
edge_word_lem g s S e h = sym (S.packed e h) ∙ ap edge_word (edge_in_lem g s S e h)

module _ (g h : List ℕ) (s t : Size) (S : Stored g s) (T : Stored h t) (q : graph_in g s ≡ graph_in h t) where
  nodes_one : s.nodes ≡ t.nodes
  nodes_one = sym (nodes_count g s S) ∙ ap (λ (x : Graph). length x.nodes) q ∙ nodes_count h t T

  edges_one : s.edges ≡ t.edges
  edges_one = sym (edges_count g s S) ∙ ap (λ (x : Graph). length x.edges) q ∙ edges_count h t T

  pub size_one : s ≡ t
  unfolding graph_in
  size_one = size_same s t nodes_one edges_one (ap (λ (x : Graph). x.hand) q)

  pub table_one : g ≡ h
  table_one = ext_get_or 0 g h (S.long ∙ sym T.long) each
    where
      under : (i : ℕ) → i < 1024 → get_or g i 0 % 72057594037927936 ≡ get_or h i 0 % 72057594037927936
      under i l =
          split (ltb i s.edges)
          (λ u. let b : i < s.edges = ltb-true i s.edges u in
          edge_word_lem g s S i b ∙ ap (λ (x : Graph). edge_word (get_or x.edges i no_edge)) q ∙ sym (edge_word_lem h t T i (omega (arith, edges_one))))
          (λ u. let b : s.edges ≤ i = ltb-false i s.edges u in S.no_edge_lem i b l ∙ sym (T.no_edge_lem i (omega (arith, edges_one)) l))

      node : (i : ℕ) → i < 128 → get_or g (1024 + i) 0 ≡ get_or h (1024 + i) 0
      node i l =
          split (ltb i s.nodes)
          (λ u. let b : i < s.nodes = ltb-true i s.nodes u in
          node_word_lem g s S i b ∙ ap (λ (x : Graph). word_of (node_at x i) + 262144 * first_at x i) q ∙ sym (node_word_lem h t T i (omega (arith, nodes_one))))
          (λ u. let b : s.nodes ≤ i = ltb-false i s.nodes u in S.no_node i b l ∙ sym (T.no_node i (omega (arith, nodes_one)) l))

      low : ℕ → ℕ
      low n = n % 262144

      entry : (i : ℕ) → i < 1024 → entry_in g i ≡ entry_in h i
      entry i l =
          entry_one (entry_in g i) (entry_in h i)
          (λ j p. let z = S.direct.stands j i l p in
          T.direct.told j i (omega (arith, z.0, nodes_one)) l (ap low (sym (node j (omega (arith, z.0, S.nodes_most)))) ∙ z.1))
          (λ j p. let z = T.direct.stands j i l p in
          S.direct.told j i (omega (arith, z.0, nodes_one)) l (ap low (node j (omega (arith, z.0, T.nodes_most))) ∙ z.1))

      edge : (i : ℕ) → i < 1024 → get_or g i 0 ≡ get_or h i 0
      edge i l = both_parts (get_or g i 0) (get_or h i 0) (under i l) (entry i l)

      each : (i : ℕ) → i < length g → get_or g i 0 ≡ get_or h i 0
      each i l =
          split (ltb i 1024)
          (λ u. edge i (ltb-true i 1024 u))
          (λ u. let b : 1024 ≤ i = ltb-false i 1024 u in
          let z : i ≡ 1024 + (i - 1024) = omega arith in
          rw z (node (i - 1024) (omega (arith, S.long))))

put_same : (p q : Put) → p.place ≡ q.place → p.size ≡ q.size → p ≡ q
put_same p q e f = ap (λ (i : ℕ). put i p.size) e ∙ ap (λ (s : Size). put q.place s) f
  where
    put : ℕ → Size → Put
    put i s = record { place = i; size = s }

pub full_same : (p q : Full) → p.size ≡ q.size → p ≡ q
full_same p q e = ap full e
  where
    full : Size → Full
    full s = record { size = s }

-- two answers of `add_node`, or of `link`, to the same call
pub put_one : (g h : List ℕ) (a b : Result Put Full) → Growing g (size_of a) → Growing h (size_of b) → added_in g a ≡ added_in h b → (a ≡ b) × (g ≡ h)
put_one g h (Ok p) (Ok r) P Q e =
    let z : p.place ≡ r.place = cc in
    let q : graph_in g p.size ≡ graph_in h r.size = cc in
    (ap Ok (put_same p r z (size_one g h p.size r.size P.stored Q.stored q)), table_one g h p.size r.size P.stored Q.stored q)
put_one g h (Ok p) (Err r) P Q e = clash cc
put_one g h (Err p) (Ok r) P Q e = clash cc
put_one g h (Err p) (Err r) P Q e =
    let q : graph_in g p.size ≡ graph_in h r.size = cc in
    (ap Err (full_same p r (size_one g h p.size r.size P.stored Q.stored q)), table_one g h p.size r.size P.stored Q.stored q)

-- ---- a link's answer as a plain number

abbrev full_by : Size → ℕ → Result Put Full
full_by s r = Err (record { size = with_nodes s (s.nodes + (r - 2)) })

abbrev put_by : Size → ℕ → Result Put Full
put_by s r = Ok (record { place = s.edges; size = one_edge (with_nodes s (s.nodes + r)) })

pub linked_one : (s : Size) (r q : ℕ) → linked_by s r ≡ linked_by s q → r ≡ q
unfolding linked_by
linked_one s r q e =
    split (leb 2 r)
    (λ t. split (leb 2 q)
    (λ u. let z : full_by s r ≡ full_by s q = rw (t, u) at e in
    let y : s.nodes + (r - 2) ≡ s.nodes + (q - 2) = ap (λ (p : Result Put Full). (size_of p).nodes) z in
    omega (arith, leb-true 2 r t, leb-true 2 q u))
    (λ u. let z : full_by s r ≡ put_by s q = rw (t, u) at e in clash cc))
    (λ t. split (leb 2 q)
    (λ u. let z : put_by s r ≡ full_by s q = rw (t, u) at e in clash cc)
    (λ u. let z : put_by s r ≡ put_by s q = rw (t, u) at e in
    let y : s.nodes + r ≡ s.nodes + q = ap (λ (p : Result Put Full). (size_of p).nodes) z in
    omega arith))

-- a node has one word
pub node_word_one : (x : ConflictNode) (r w : ℕ) → NodeWord x r → NodeWord x w → r ≡ w
node_word_one x r w p q = p.is ∙ sym q.is
