-- A table with one more node or one more edge: it holds the graph with that node or edge, and keeps its promise.
use Rattle.std.specs.Prelude.{◌≡◌, refl, Bool, true, false, ℕ, zero, suc, ◌+◌, ◌*◌, ◌/◌, ◌%◌, ◌<◌, ◌≤◌, get_or, drop, set, eqb}
use Rattle.std.proofs.Common.{sym, ap, ◌∙◌, arith, length-set, get_or-set_same, get_or-set_other, get_or-take, get_or-drop, eqb-true}
use Rattle.std.proofs.Math.Option.{Option, none, some}
use mathlib.Core.List.{List, [], ◌∷◌, map, map-append}
use Rattle.std.proofs.Math.Numerals.{add-one}
use Rattle.std.proofs.Math.ListN.{length, length-drop}
use Rattle.std.proofs.Math.Seq.{take-suc-set, take-set-le, drop-set-add, drop-set-lt, length-take-le}
use Rattle.std.proofs.lemmas.Bool.{eqb-false}
use Rattle.basis.specs.Lists.{place}
use Rattle.basis.specs.Members.{split}
use Rattle.store.specs.declared.ConflictNode.{ConflictNode}
use Rattle.store.specs.declared.Edge.{Edge}
use Rattle.store.specs.declared.Size.{Size}
use Rattle.store.specs.Direct.{entry_in, entered}
use Rattle.store.specs.Laws.Direct.{edge_same, under_low, under_entry, under_edge, direct_same}
use Rattle.store.specs.Laws.Direct.{entered_length, entered_node, entered_nodes, entered_edges}
use Rattle.store.specs.Laws.Direct.{entered_low, entered_own, entered_other}
use Rattle.store.specs.Graph.{same_node, with_node, with_edge}
use Rattle.store.specs.Words.{word_of, node_of, first_clause, edge_word, edge_of, EdgeWord, NodeWord}
use Rattle.store.specs.Words.{node_back, node_low, first_back, low_back, low_word, same_word}
use Rattle.store.specs.Numbers.{node_number}
use Rattle.store.specs.Table.{node_words, graph_in, Stored, Growing}
use Rattle.store.specs.Finding.{word_at, is_word, placed, find_of}

-- ---- the tables

-- how much there is with one more node, with one more edge
abbrev pub one_node : Size → Size
one_node s = record { nodes = s.nodes + 1; edges = s.edges; hand = s.hand }

abbrev pub one_edge : Size → Size
one_edge s = record { nodes = s.nodes; edges = s.edges + 1; hand = s.hand }

-- table g with word w as one more node, which the clause at hand first added, and with its entry in the direct table
abbrev pub node_put : List ℕ → Size → ℕ → List ℕ
node_put g s w = entered (set g (1024 + s.nodes) (w + 262144 * s.hand)) w (s.nodes + 1)

-- table g with word w as one more edge, below the entry n of the direct table
abbrev pub edge_put : List ℕ → Size → ℕ → ℕ → List ℕ
edge_put g s w n = set g s.edges (w + 72057594037927936 * n)

-- h keeps the promise with one more node than g, of word w; the older ones stand as they did
pub record OneMore (g h : List ℕ) (s : Size) (w : ℕ) : Type 0 where
  pub stored : Stored h (one_node s)
  pub old : (j : ℕ) → j < s.nodes → get_or h (1024 + j) 0 ≡ get_or g (1024 + j) 0
  pub new : word_at h s.nodes ≡ w

-- ---- for the proofs: places in a list of words

place_word : (x : ConflictNode) (vs : List ℕ) (i : ℕ) → node_number x < 65536
    → ((j : ℕ) → j < length vs → word_of (node_of (get_or vs j 0)) ≡ get_or vs j 0 % 262144)
    → place (is_word (word_of x)) vs i ≡ place (same_node x) (map node_of vs) i
place_word x [] i f h = refl
place_word x (v ∷ vs) i f h =
    let z : place (is_word (word_of x)) vs (suc i) ≡ place (same_node x) (map node_of vs) (suc i) =
    place_word x vs (suc i) f (λ j q. h (suc j) (omega arith)) in
    let y : eqb (word_of x) (v % 262144) ≡ same_node x (node_of v) = same_word x v f (h 0 (omega arith)) in
    split (same_node x (node_of v))
    (λ t. let u : eqb (word_of x) (v % 262144) ≡ true = y ∙ t in rw (u, t, place))
    (λ t. let u : eqb (word_of x) (v % 262144) ≡ false = y ∙ t in rw (u, t, place) z)

place_below : (p : ℕ → Bool) (vs : List ℕ) (a i : ℕ) → place p vs a ≡ some i → i < a + length vs
place_below p [] a i e = let z : ◌≡◌ {A = ℕ} 0 1 = cc in omega arith
place_below p (v ∷ vs) a i e =
    split (p v)
    (λ t. let y : some a ≡ some i = rw (t, place) at e in let z : a ≡ i = cc in omega arith)
    (λ t. let y : i < suc a + length vs = place_below p vs (suc a) i (rw (t, place) at e) in omega arith)

place_none : (p : ℕ → Bool) (vs : List ℕ) (a j : ℕ) → place p vs a ≡ none → j < length vs → p (get_or vs j 0) ≡ false
place_none p [] a j e h = let f : ⊥ = omega arith in absurd f
place_none p (v ∷ vs) a zero e h =
    split (p v)
    (λ t. let y : some a ≡ none = rw (t, place) at e in let z : ◌≡◌ {A = ℕ} 0 1 = cc in let f : ⊥ = omega arith in absurd f)
    (λ t. t)
place_none p (v ∷ vs) a (suc j) e h =
    split (p v)
    (λ t. let y : some a ≡ none = rw (t, place) at e in let z : ◌≡◌ {A = ℕ} 0 1 = cc in let f : ⊥ = omega arith in absurd f)
    (λ t. place_none p vs (suc a) j (rw (t, place) at e) (omega arith))

old_of : (o : Option ℕ) (i k : ℕ) → i ≡ placed o k → i < k → o ≡ some i
old_of none i k q h = let f : ⊥ = omega arith in absurd f
old_of (some j) i k q h = ap some (sym q)

none_of : (o : Option ℕ) (i k : ℕ) → i ≡ placed o k → k ≤ i → ((j : ℕ) → o ≡ some j → j < k) → o ≡ none
none_of none i k q h b = refl
none_of (some j) i k q h b = let f : j < k = b j refl in let f : ⊥ = omega arith in absurd f

abbrev low : ℕ → ℕ
low n = n % 262144

-- ---- a node: w is its word, and i the number that was found for it

module _ (g : List ℕ) (s : Size) (x : ConflictNode) (w : ℕ) (S : Stored g s) (e : NodeWord x w) where
  wide : s.nodes ≤ length (drop 1024 g)
  wide = rw length-drop (omega (arith, S.long, S.nodes_most))

  each : (j : ℕ) → j < length (node_words g s.nodes)
      → word_of (node_of (get_or (node_words g s.nodes) j 0)) ≡ get_or (node_words g s.nodes) j 0 % 262144
  each j h =
      let q : j < s.nodes = rw (length-take-le s.nodes (drop 1024 g) wide) at h in
      rw (get_or-take s.nodes (drop 1024 g) j 0 q, get_or-drop 1024 g j 0) (low_word (get_or g (1024 + j) 0) (S.word j q))

  -- words are equal just where nodes are: the place of the word is the place of the node
  pub sought : place (same_node x) (graph_in g s).nodes 0 ≡ place (is_word w) (node_words g s.nodes) 0
  unfolding graph_in
  sought = rw e.is (sym (place_word x (node_words g s.nodes) 0 e.fits each))

  module _ (i : ℕ) (f : i ≡ find_of g s.nodes w) where
    -- a number of a node: it is the node's
    pub found : i < s.nodes → place (same_node x) (graph_in g s).nodes 0 ≡ some i
    unfolding find_of
    found h = sought ∙ old_of (place (is_word w) (node_words g s.nodes) 0) i s.nodes f h

    -- else the node is not there
    pub missed : s.nodes ≤ i → place (same_node x) (graph_in g s).nodes 0 ≡ none
    unfolding find_of
    missed h =
        sought ∙ none_of (place (is_word w) (node_words g s.nodes) 0) i s.nodes f h
        (λ j q. let b : j < 0 + length (node_words g s.nodes) = place_below (is_word w) (node_words g s.nodes) 0 j q in
        omega (arith, length-take-le s.nodes (drop 1024 g) wide))

    -- and no node has its word
    fresh : s.nodes ≤ i → (j : ℕ) → j < s.nodes → word_at g j ≡ w → ⊥
    fresh h j b q =
        let n : place (is_word w) (node_words g s.nodes) 0 ≡ none = sym sought ∙ missed h in
        let z : eqb w (get_or (node_words g s.nodes) j 0 % 262144) ≡ false =
        place_none (is_word w) (node_words g s.nodes) 0 j n (rw (length-take-le s.nodes (drop 1024 g) wide) b) in
        let y : eqb w (word_at g j) ≡ false = rw (get_or-take s.nodes (drop 1024 g) j 0 b, get_or-drop 1024 g j 0) at z in
        eqb-false w (word_at g j) y (sym q)

    -- the word with the clause at hand, and the table with it, the entry still missing
    abbrev v : ℕ
    v = w + 262144 * s.hand

    abbrev one : List ℕ
    one = set g (1024 + s.nodes) v

    v_node : s.hand < 65536 → node_of v ≡ x
    v_node b = node_low w s.hand ∙ rw e.is (node_back x e.fits)

    v_first : s.hand < 65536 → first_clause v ≡ s.hand
    v_first b = first_back w s.hand e.small b

    -- the table holds the graph with the node
    pub wider : s.nodes < 128 → s.hand < 65536 → graph_in (node_put g s w) (one_node s) ≡ with_node (graph_in g s) x
    unfolding graph_in
    wider l f =
        let a : s.nodes < length (drop 1024 g) = rw length-drop (omega (arith, S.long)) in
        let b : s.edges ≤ 1024 + s.nodes = omega (arith, S.edges_most) in
        let c : node_of v ≡ x = v_node f in
        let d : first_clause v ≡ s.hand = v_first f in
        rw (entered_nodes one w (s.nodes + 1), entered_edges one w (s.nodes + 1) s.edges)
        (rw (
          add-one s.nodes,
          drop-set-add 1024 g s.nodes v,
          take-suc-set (drop 1024 g) s.nodes v a,
          map-append node_of,
          map-append first_clause,
          take-set-le s.edges g (1024 + s.nodes) v b,
          c,
          d,
        ))

    -- and keeps the promise
    pub keep_node : s.nodes ≤ i → s.nodes < 128 → s.hand < 65536 → OneMore g (node_put g s w) s w
    keep_node h l f =
        record {
          stored = record {
            long = entered_length one w (s.nodes + 1) ∙ one_long;
            some = omega arith;
            nodes_most = omega arith;
            edges_most = S.edges_most;
            root = old 0 S.some ∙ S.root;
            word = words;
            no_node = no_node;
            packed = packed;
            no_edge_lem = λ k h l. under k l ∙ S.no_edge_lem k h l;
            source = sources;
            target = targets;
            direct = record { told = told; stands = stands };
          };
          old = old;
          new = new;
        }
      where
        one_long : length one ≡ 1152
        one_long = length-set g (1024 + s.nodes) v ∙ S.long

        here : get_or (node_put g s w) (1024 + s.nodes) 0 ≡ v
        here = entered_node one w (s.nodes + 1) s.nodes ∙ get_or-set_same g (1024 + s.nodes) v 0 (omega (arith, S.long))

        there : (j : ℕ) → (j ≡ s.nodes → ⊥) → get_or (node_put g s w) (1024 + j) 0 ≡ get_or g (1024 + j) 0
        there j d = entered_node one w (s.nodes + 1) j ∙ get_or-set_other g (1024 + s.nodes) (1024 + j) v 0 (λ q. d (omega arith))

        old : (j : ℕ) → j < s.nodes → get_or (node_put g s w) (1024 + j) 0 ≡ get_or g (1024 + j) 0
        old j b = there j (λ q. omega arith)

        words : (j : ℕ) → j < s.nodes + 1
            → word_of (node_of (get_or (node_put g s w) (1024 + j) 0)) + 262144 * first_clause (get_or (node_put g s w) (1024 + j) 0)
            ≡ get_or (node_put g s w) (1024 + j) 0
        words j h =
            split (eqb j s.nodes)
            (λ t. rw (eqb-true j s.nodes t, here, v_node f, v_first f) (ap (λ (n : ℕ). n + 262144 * s.hand) (sym e.is)))
            (λ t. let d : j ≡ s.nodes → ⊥ = eqb-false j s.nodes t in
            rw (there j d) (S.word j (omega (arith, d))))

        apart : (k : ℕ) → k < 1024 → get_or one k 0 ≡ get_or g k 0
        apart k h = get_or-set_other g (1024 + s.nodes) k v 0 (λ q. omega arith)

        under : (k : ℕ) → k < 1024 → get_or (node_put g s w) k 0 % 72057594037927936 ≡ get_or g k 0 % 72057594037927936
        under k h = entered_low one w (s.nodes + 1) one_long k ∙ ap (λ (n : ℕ). n % 72057594037927936) (apart k h)

        edge : (k : ℕ) → k < s.edges → edge_of (get_or (node_put g s w) k 0) ≡ edge_of (get_or g k 0)
        edge k h = edge_same (get_or (node_put g s w) k 0) (get_or g k 0) (under k (omega (arith, S.edges_most)))

        no_node : (i : ℕ) → s.nodes + 1 ≤ i → i < 128 → get_or (node_put g s w) (1024 + i) 0 ≡ 0
        no_node i h m = there i (λ q. omega arith) ∙ S.no_node i (omega arith) m

        packed : (k : ℕ) → k < s.edges → edge_word (edge_of (get_or (node_put g s w) k 0)) ≡ get_or (node_put g s w) k 0 % 72057594037927936
        packed k h = ap edge_word (edge k h) ∙ S.packed k h ∙ sym (under k (omega (arith, S.edges_most)))

        sources : (k : ℕ) → k < s.edges → get_or (node_put g s w) k 0 % 256 < 128
        sources k h =
            let z : get_or (node_put g s w) k 0 % 256 ≡ get_or g k 0 % 256 = ap (λ (r : Edge). r.source) (edge k h) in
            rw z (S.source k h)

        targets : (k : ℕ) → k < s.edges → get_or (node_put g s w) k 0 / 256 % 256 < s.nodes + 1
        targets k h =
            let z : get_or (node_put g s w) k 0 / 256 % 256 ≡ get_or g k 0 / 256 % 256 = ap (λ (r : Edge). r.target) (edge k h) in
            rw z (omega (arith, S.target k h))

        new : word_at (node_put g s w) s.nodes ≡ w
        new = ap low here ∙ low_back w s.hand e.small f

        entry : (k : ℕ) → k < 1024 → (w ≡ 1 + 2 * k → ⊥) → entry_in (node_put g s w) k ≡ entry_in g k
        entry k m d = entered_other one w (s.nodes + 1) k d ∙ ap (λ (n : ℕ). n / 72057594037927936) (apart k m)

        told : (i k : ℕ) → i < s.nodes + 1 → k < 1024 → word_at (node_put g s w) i ≡ 1 + 2 * k → entry_in (node_put g s w) k ≡ i + 1
        told i k b m q =
            split (eqb i s.nodes)
            (λ t. let z : i ≡ s.nodes = eqb-true i s.nodes t in
            let y : w ≡ 1 + 2 * k = sym new ∙ ap (λ (n : ℕ). word_at (node_put g s w) n) (sym z) ∙ q in
            entered_own one w (s.nodes + 1) one_long k m y ∙ ap (λ (n : ℕ). n + 1) (sym z))
            (λ t. let d : i ≡ s.nodes → ⊥ = eqb-false i s.nodes t in
            let c : i < s.nodes = omega (arith, d) in
            let z : word_at g i ≡ 1 + 2 * k = ap low (sym (old i c)) ∙ q in
            entry k m (λ y. fresh h i c (z ∙ sym y)) ∙ S.direct.told i k c m z)

        stands : (i k : ℕ) → k < 1024 → entry_in (node_put g s w) k ≡ i + 1 → (i < s.nodes + 1) × (word_at (node_put g s w) i ≡ 1 + 2 * k)
        stands i k m q =
            split (eqb w (1 + 2 * k))
            (λ t. let y : w ≡ 1 + 2 * k = eqb-true w (1 + 2 * k) t in
            let z : s.nodes + 1 ≡ i + 1 = sym (entered_own one w (s.nodes + 1) one_long k m y) ∙ q in
            let u : i ≡ s.nodes = omega arith in
            (omega arith, rw u (new ∙ y)))
            (λ t. let d : w ≡ 1 + 2 * k → ⊥ = eqb-false w (1 + 2 * k) t in
            let z : (i < s.nodes) × (word_at g i ≡ 1 + 2 * k) = S.direct.stands i k m (sym (entry k m d) ∙ q) in
            (omega (arith, z.0), ap low (old i z.0) ∙ z.1))

-- and can grow on: the new word is unlike the older ones
pub grow_node : (g : List ℕ) (s : Size) (x : ConflictNode) (w : ℕ) → Growing g s → NodeWord x w → (i : ℕ) → i ≡ find_of g s.nodes w
    → s.nodes ≤ i → s.nodes < 128 → s.hand < 65536 → Growing (node_put g s w) (one_node s)
grow_node g s x w P e i f h l b =
    let k : OneMore g (node_put g s w) s w = keep_node g s x w P.stored e i f h l b in
    record { stored = k.stored; two = omega (arith, P.two); second = k.old 1 P.two ∙ P.second; unlike = unlike k }
  where
    unlike : OneMore g (node_put g s w) s w → (j k : ℕ) → j < k → k < s.nodes + 1 → word_at (node_put g s w) j ≡ word_at (node_put g s w) k → ⊥
    unlike K j k b c q =
        let u : word_at g j ≡ word_at (node_put g s w) k = ap low (sym (K.old j (omega arith))) ∙ q in
        split (eqb k s.nodes)
        (λ t. let y : word_at (node_put g s w) k ≡ w = rw (eqb-true k s.nodes t) K.new in
        fresh g s x w P.stored e i f h j (omega arith) (u ∙ y))
        (λ t. let d : k ≡ s.nodes → ⊥ = eqb-false k s.nodes t in
        P.unlike j k b (omega (arith, d)) (u ∙ ap low (K.old k (omega (arith, d)))))

-- ---- an edge: w is its word, below the entry that stands at its place

module _ (g : List ℕ) (s : Size) (e : Edge) (w : ℕ) (S : Stored g s) (E : EdgeWord e w) where
  abbrev u : ℕ
  u = w + 72057594037927936 * entry_in g s.edges

  q : edge_of u ≡ e
  q = under_edge w (entry_in g s.edges) ∙ E.back

  -- the table holds the graph with the edge
  pub more_edges : s.edges < 1024 → graph_in (edge_put g s w (entry_in g s.edges)) (one_edge s) ≡ with_edge (graph_in g s) e
  unfolding graph_in
  more_edges l =
      rw (add-one s.edges, take-suc-set g s.edges u (omega (arith, S.long)), map-append, drop-set-lt 1024 g s.edges u l, q)

  apart : (j : ℕ) → s.edges < 1024 → get_or (set g s.edges u) (1024 + j) 0 ≡ get_or g (1024 + j) 0
  apart j l = get_or-set_other g s.edges (1024 + j) u 0 (λ z. omega arith)

  -- and keeps the promise
  pub edge_keeps : s.edges < 1024 → e.source < 128 → e.target < s.nodes → Stored (edge_put g s w (entry_in g s.edges)) (one_edge s)
  edge_keeps l hs ht =
      record {
        long = rw length-set S.long;
        some = S.some;
        nodes_most = S.nodes_most;
        edges_most = omega arith;
        root = rw (apart 0 l) S.root;
        word = words;
        no_node = λ i h m. apart i l ∙ S.no_node i h m;
        packed = packed;
        no_edge_lem = λ k h m. ap (λ (n : ℕ). n % 72057594037927936) (there k (λ z. omega arith)) ∙ S.no_edge_lem k (omega arith) m;
        source = sources;
        target = targets;
        direct = direct_same g (set g s.edges u) s.nodes S.direct entry (λ j. apart j l);
      }
    where
      words : (j : ℕ) → j < s.nodes
          → word_of (node_of (get_or (set g s.edges u) (1024 + j) 0)) + 262144 * first_clause (get_or (set g s.edges u) (1024 + j) 0)
          ≡ get_or (set g s.edges u) (1024 + j) 0
      words j h = rw (apart j l) (S.word j h)

      here : get_or (set g s.edges u) s.edges 0 ≡ u
      here = get_or-set_same g s.edges u 0 (omega (arith, S.long))

      there : (k : ℕ) → (k ≡ s.edges → ⊥) → get_or (set g s.edges u) k 0 ≡ get_or g k 0
      there k d = get_or-set_other g s.edges k u 0 d

      packed : (k : ℕ) → k < s.edges + 1
          → edge_word (edge_of (get_or (set g s.edges u) k 0)) ≡ get_or (set g s.edges u) k 0 % 72057594037927936
      packed k h =
          split (eqb k s.edges)
          (λ t. rw (eqb-true k s.edges t, here)
          (ap edge_word q ∙ sym E.is ∙ sym (under_low w (entry_in g s.edges) E.small)))
          (λ t. let d : k ≡ s.edges → ⊥ = eqb-false k s.edges t in rw (there k d) (S.packed k (omega (arith, d))))

      entry : (k : ℕ) → k < 1024 → entry_in (set g s.edges u) k ≡ entry_in g k
      entry k h =
          split (eqb k s.edges)
          (λ t. rw (eqb-true k s.edges t, here) (under_entry w (entry_in g s.edges) E.small))
          (λ t. ap (λ (n : ℕ). n / 72057594037927936) (there k (eqb-false k s.edges t)))

      sources : (k : ℕ) → k < s.edges + 1 → get_or (set g s.edges u) k 0 % 256 < 128
      sources k h =
          split (eqb k s.edges)
          (λ t. let z : u % 256 ≡ e.source = ap (λ (f : Edge). f.source) q in rw (eqb-true k s.edges t, here, z) hs)
          (λ t. let d : k ≡ s.edges → ⊥ = eqb-false k s.edges t in rw (there k d) (S.source k (omega (arith, d))))

      targets : (k : ℕ) → k < s.edges + 1 → get_or (set g s.edges u) k 0 / 256 % 256 < s.nodes
      targets k h =
          split (eqb k s.edges)
          (λ t. let z : u / 256 % 256 ≡ e.target = ap (λ (f : Edge). f.target) q in rw (eqb-true k s.edges t, here, z) ht)
          (λ t. let d : k ≡ s.edges → ⊥ = eqb-false k s.edges t in rw (there k d) (S.target k (omega (arith, d))))

-- and can grow on: no node's word changed
pub edge_grows : (g : List ℕ) (s : Size) (e : Edge) (w : ℕ) → Growing g s → EdgeWord e w → s.edges < 1024
    → e.source < 128 → e.target < s.nodes → Growing (edge_put g s w (entry_in g s.edges)) (one_edge s)
edge_grows g s e w P E l hs ht =
    record {
      stored = edge_keeps g s e w P.stored E l hs ht;
      two = P.two;
      second = same 1 ∙ P.second;
      unlike = λ i j b c z. P.unlike i j b c (ap low (sym (same i)) ∙ z ∙ ap low (same j));
    }
  where
    same : (j : ℕ) → get_or (edge_put g s w (entry_in g s.edges)) (1024 + j) 0 ≡ get_or g (1024 + j) 0
    same j = apart g s e w P.stored E j l
