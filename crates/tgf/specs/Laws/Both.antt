-- The reader "accepts exactly what these line rules write": what it gives for a written text is what was written (`reads`), and
-- a text for which it gives nodes and edges is the one that the line rules write for them (`accepts`).
use Rattle.std.specs.Prelude.{◌≡◌, refl, List, [], ◌∷◌, ◌++◌, map, ℕ, zero, suc, ◌+◌, ◌≤◌, ◌<◌, length, ltb, eqb}
use Rattle.std.proofs.Common.{sym, ap, ◌∙◌, subst, append_assoc, arith, lt-ltb, ltb-true, eq-eqb, ne_eqb, eqb-true}
use Rattle.std.proofs.Math.Option.{none, some}
use Rattle.basis.specs.Guard.{guard}
use Rattle.basis.specs.Members.{clash, All}
use Rattle.tgf.specs.Lines.{Label, WallEdge, decimal, node_line, hash_line, edge_line, node_lines, lines_of, joined, written, LabelGood, EdgeGood, TextGood}
use Rattle.tgf.specs.Read.{number_at, label_at, node_line_at, end_at, edge_at, WallText, good, bad, and_node, and_edge, edges_from, hash_at, nodes_from, read_text}
use Rattle.tgf.specs.Laws.Numbers.{absurd_none, some_is, guard_some, option, number_sound, number_complete, number_first}
use Rattle.tgf.specs.Laws.Labels.{label_sound, label_complete}

-- ---- a line and what stands behind it

node_then : (i : ℕ) (x : Label) (r : List ℕ) → node_line i x ++ r ≡ decimal i ++ (32 ∷ (x ++ (10 ∷ r)))
unfolding node_line
node_then i x r =
    append_assoc (decimal i) (32 ∷ (x ++ (10 ∷ []))) r
    ∙ ap (λ (l : List ℕ). decimal i ++ (32 ∷ l)) (append_assoc x (10 ∷ []) r)

edge_then : (e : WallEdge) (r : List ℕ) → edge_line e ++ r ≡ decimal e.source ++ (32 ∷ (decimal e.target ++ (32 ∷ (e.label ++ (10 ∷ r)))))
unfolding edge_line
edge_then e r =
    append_assoc (decimal e.source) (32 ∷ (decimal e.target ++ (32 ∷ (e.label ++ (10 ∷ []))))) r
    ∙ ap (λ (l : List ℕ). decimal e.source ++ (32 ∷ l))
    (append_assoc (decimal e.target) (32 ∷ (e.label ++ (10 ∷ []))) r
    ∙ ap (λ (l : List ℕ). decimal e.target ++ (32 ∷ l)) (append_assoc e.label (10 ∷ []) r))

-- ---- one line

pub node_sound : (i : ℕ) (s : List ℕ) (x : Label) (r : List ℕ) → node_line_at i s ≡ some (x, r) → LabelGood x × (s ≡ node_line i x ++ r)
unfolding node_line_at
node_sound i s x r h =
    option (number_at s)
    (λ z. absurd_none (x, r) (rw (z, node_line_at) at h))
    (λ p z. let g = guard_some (eqb p.0 i) (label_at p.1) (x, r) (rw (z, node_line_at) at h) in
    let n = number_sound s p.0 p.1 z in
    let l = label_sound p.1 x r g.1 in
    (l.0, n.0 ∙ rw (eqb-true p.0 i g.0, l.1) (sym (node_then i x r))))

pub node_complete : (i : ℕ) (x : Label) (r : List ℕ) → i < 1000 → LabelGood x → node_line_at i (node_line i x ++ r) ≡ some (x, r)
unfolding node_line_at guard
node_complete i x r h g =
    rw (node_then i x r, number_complete i (x ++ (10 ∷ r)) h, node_line_at, eq-eqb i i refl) (label_complete x r g)

end_sound : (m : ℕ) (s : List ℕ) (n : ℕ) (r : List ℕ) → end_at m s ≡ some (n, r) → (n < m) × (s ≡ decimal n ++ (32 ∷ r))
unfolding end_at
end_sound m s n r h =
    option (number_at s)
    (λ z. absurd_none (n, r) (rw (z, end_at) at h))
    (λ p z. let g = guard_some (ltb p.0 m) (some p) (n, r) (rw (z, end_at) at h) in
    let e : p ≡ (n, r) = some_is p (n, r) g.1 in
    let k = number_sound s n r (z ∙ ap (λ q. some q) e) in
    (let y : p.0 ≡ n = ap (λ q. q.0) e in rw y at (ltb-true p.0 m g.0), k.0))

end_complete : (m n : ℕ) (r : List ℕ) → m ≤ 1000 → n < m → end_at m (decimal n ++ (32 ∷ r)) ≡ some (n, r)
unfolding end_at guard
end_complete m n r l h = rw (number_complete n r (omega arith), end_at, lt-ltb n m h)

pub edge_sound : (m : ℕ) (s : List ℕ) (e : WallEdge) (r : List ℕ) → edge_at m s ≡ some (e, r) → EdgeGood m e × (s ≡ edge_line e ++ r)
unfolding edge_at
edge_sound m s e r h =
    option (end_at m s)
    (λ z. absurd_none (e, r) (rw (z, edge_at) at h))
    (λ p z. let h2 = rw (z, edge_at) at h in
    option (end_at m p.1)
    (λ y. absurd_none (e, r) (rw y at h2))
    (λ q y. let h3 = rw y at h2 in
    option (label_at q.1)
    (λ w. absurd_none (e, r) (rw w at h3))
    (λ l w. let v = some_is (record { source = p.0; target = q.0; label = l.0 }, l.1) (e, r) (rw w at h3) in
    let a = end_sound m s p.0 p.1 z in
    let b = end_sound m p.1 q.0 q.1 y in
    let c = label_sound q.1 l.0 l.1 w in
    let ve : record { source = p.0; target = q.0; label = l.0 } ≡ e = ap (λ t. t.0) v in
    let vr : l.1 ≡ r = ap (λ t. t.1) v in (
      subst (λ (e : WallEdge). EdgeGood m e) ve (record { source = a.0; target = b.0; label = c.0 }),
      a.1
          ∙ ap (λ (t : List ℕ). decimal p.0 ++ (32 ∷ t)) (b.1 ∙ ap (λ (t : List ℕ). decimal q.0 ++ (32 ∷ t)) c.1)
          ∙ sym (edge_then (record { source = p.0; target = q.0; label = l.0 }) l.1)
          ∙ ap (λ (t : WallEdge × List ℕ). edge_line t.0 ++ t.1) v,
    ))))

pub edge_complete : (m : ℕ) (e : WallEdge) (r : List ℕ) → m ≤ 1000 → EdgeGood m e → edge_at m (edge_line e ++ r) ≡ some (e, r)
unfolding edge_at
edge_complete m e r l g =
    rw (
      edge_then e r,
      end_complete m e.source (decimal e.target ++ (32 ∷ (e.label ++ (10 ∷ r)))) l g.source,
      edge_at,
      end_complete m e.target (e.label ++ (10 ∷ r)) l g.target,
      label_complete e.label r g.label,
    )

-- ---- the edges

edge_none : (m : ℕ) (p : WallEdge × List ℕ) {X : Type 0} → edge_at m [] ≡ some p → X
unfolding edge_at end_at number_at
edge_none m p h = absurd_none p h

edges_step : (k m n : ℕ) (s : List ℕ) (p : WallEdge × List ℕ) → edge_at m s ≡ some p → edges_from (suc k) m n s ≡ and_edge p.0 (edges_from k m (suc n) p.1)
unfolding edges_from
edges_step k m n [] p h = edge_none m p h
edges_step k m n (c ∷ s) p h = rw (h, edges_from)

-- a good outcome with one more at the front was good
and_edge_lem : (e : WallEdge) (o : WallText) (ns : List Label) (es : List WallEdge) → and_edge e o ≡ good ns es
    → (fs : List WallEdge) × (o ≡ good ns fs) × (es ≡ e ∷ fs)
and_edge_lem e (good ms fs) ns es h = (fs, cc, cc)
and_edge_lem e (bad n) ns es h = clash (cc)

and_node_lem : (x : Label) (o : WallText) (ns : List Label) (es : List WallEdge) → and_node x o ≡ good ns es
    → (ms : List Label) × (o ≡ good ms es) × (ns ≡ x ∷ ms)
and_node_lem x (good ms fs) ns es h = (ms, cc, cc)
and_node_lem x (bad n) ns es h = clash (cc)

abbrev pub EdgesRead : ℕ → ℕ → List ℕ → List Label → List WallEdge → Type 0
EdgesRead k m s ns es = (ns ≡ []) × (s ≡ joined (map edge_line es)) × (length es ≤ k) × All (EdgeGood m) es

edges_none : (k m : ℕ) (ns : List Label) (es : List WallEdge) → good [] [] ≡ good ns es → EdgesRead k m [] ns es
edges_none k m ns es h =
    let a : ns ≡ [] = cc in let b : es ≡ [] = cc in
    (a, rw b, rw b (omega arith), rw b tt)

pub edges_sound : (k m n : ℕ) (s : List ℕ) (ns : List Label) (es : List WallEdge) → edges_from k m n s ≡ good ns es → EdgesRead k m s ns es
unfolding edges_from
edges_sound zero m n [] ns es h = edges_none zero m ns es h
edges_sound zero m n (c ∷ s) ns es h = clash (cc)
edges_sound (suc k) m n [] ns es h = edges_none (suc k) m ns es h
edges_sound (suc k) m n (c ∷ s) ns es h =
    option (edge_at m (c ∷ s))
    (λ z. let w : bad n ≡ good ns es = rw (z, edges_from) at h in clash (cc))
    (λ p z. let e = and_edge_lem p.0 (edges_from k m (suc n) p.1) ns es (rw (z, edges_from) at h) in
    let g = edge_sound m (c ∷ s) p.0 p.1 z in
    let ih = edges_sound k m (suc n) p.1 ns e.0 e.1 in
    let v : es ≡ p.0 ∷ e.0 = e.2 in
    (ih.0, rw v (g.1 ∙ ap (λ (t : List ℕ). edge_line p.0 ++ t) ih.1), rw v (omega (arith, ih.2)), rw v (g.0, ih.3)))

edges_complete : (k m n : ℕ) (es : List WallEdge) → m ≤ 1000 → length es ≤ k → All (EdgeGood m) es → edges_from k m n (joined (map edge_line es)) ≡ good [] es
unfolding edges_from
edges_complete zero m n [] l h a = refl
edges_complete zero m n (e ∷ es) l h a = let z : ⊥ = omega arith in absurd z
edges_complete (suc k) m n [] l h a = refl
edges_complete (suc k) m n (e ∷ es) l h a =
    edges_step k m n (edge_line e ++ joined (map edge_line es)) (e, joined (map edge_line es)) (edge_complete m e (joined (map edge_line es)) l a.0)
    ∙ ap (and_edge e) (edges_complete k m (suc n) es l (omega arith) a.1)

-- ---- the nodes

pub hash_sound : (s t : List ℕ) → hash_at s ≡ some t → s ≡ 35 ∷ 10 ∷ t
unfolding hash_at
hash_sound [] t h = absurd_none t h
hash_sound (a ∷ []) t h = absurd_none t h
hash_sound (a ∷ b ∷ s) t h =
    let g = guard_some (eqb a 35) _ t h in
    let f = guard_some (eqb b 10) _ t g.1 in
    rw (eqb-true a 35 g.0, eqb-true b 10 f.0, some_is s t f.1)

hash_here : (t : List ℕ) → hash_at (35 ∷ 10 ∷ t) ≡ some t
unfolding hash_at guard
hash_here t = refl

-- a line of a node is no line with #
pub hash_node : (i : ℕ) (s : List ℕ) (p : Label × List ℕ) → node_line_at i s ≡ some p → hash_at s ≡ none
unfolding node_line_at hash_at number_at guard
hash_node i [] p h = refl
hash_node i (c ∷ []) p h = refl
hash_node i (c ∷ b ∷ s) p h =
    option (number_at (c ∷ b ∷ s))
    (λ z. absurd_none p (rw (z, node_line_at) at h))
    (λ q z. let l : 48 ≤ c = number_first c (b ∷ s) q z in
    rw (ne_eqb c 35 (λ e. let y : c ≡ 35 = e in omega arith)))

pub nodes_hash : (k i : ℕ) (s t : List ℕ) → hash_at s ≡ some t → nodes_from k i s ≡ edges_from 1024 i (suc (suc i)) t
unfolding nodes_from
nodes_hash zero i s t h = rw (h, nodes_from)
nodes_hash (suc k) i s t h = rw (h, nodes_from)

pub nodes_step : (k i : ℕ) (s : List ℕ) (p : Label × List ℕ) → node_line_at i s ≡ some p → nodes_from (suc k) i s ≡ and_node p.0 (nodes_from k (suc i) p.1)
unfolding nodes_from
nodes_step k i s p h = rw (hash_node i s p h, nodes_from, h, nodes_from)

abbrev rest_of : ℕ → List Label → List WallEdge → List ℕ
rest_of i ns es = joined (node_lines i ns ++ (hash_line ∷ map edge_line es))

abbrev NodesRead : ℕ → ℕ → List ℕ → List Label → List WallEdge → Type 0
NodesRead k i s ns es =
    (s ≡ rest_of i ns es) × (length ns ≤ k) × All LabelGood ns × (length es ≤ 1024) × All (EdgeGood (i + length ns)) es

nodes_end_lem : (k i n : ℕ) (s t : List ℕ) (ns : List Label) (es : List WallEdge) → hash_at s ≡ some t → edges_from 1024 i n t ≡ good ns es → NodesRead k i s ns es
unfolding node_lines
nodes_end_lem k i n s t ns es q h =
    let e = edges_sound 1024 i n t ns es h in
    let v : ns ≡ [] = e.0 in
    let z : i + 0 ≡ i = omega arith in
    rw v (hash_sound s t q ∙ ap (λ (l : List ℕ). 35 ∷ 10 ∷ l) e.1, omega arith, tt, e.2, rw z e.3)

nodes_sound : (k i : ℕ) (s : List ℕ) (ns : List Label) (es : List WallEdge) → nodes_from k i s ≡ good ns es → NodesRead k i s ns es
unfolding nodes_from node_lines
nodes_sound zero i s ns es h =
    option (hash_at s)
    (λ z. let w : bad (suc i) ≡ good ns es = rw (z, nodes_from) at h in clash (cc))
    (λ t z. nodes_end_lem zero i (suc (suc i)) s t ns es z (rw (z, nodes_from) at h))
nodes_sound (suc k) i s ns es h =
    option (hash_at s)
    (λ z. let h2 = rw (z, nodes_from) at h in
    option (node_line_at i s)
    (λ y. let w : bad (suc i) ≡ good ns es = rw y at h2 in clash (cc))
    (λ p y. let e = and_node_lem p.0 (nodes_from k (suc i) p.1) ns es (rw y at h2) in
    let g = node_sound i s p.0 p.1 y in
    let ih = nodes_sound k (suc i) p.1 e.0 es e.1 in
    let v : ns ≡ p.0 ∷ e.0 = e.2 in
    let z : i + suc (length e.0) ≡ suc i + length e.0 = omega arith in
    rw v (g.1 ∙ ap (λ (t : List ℕ). node_line i p.0 ++ t) ih.0, omega (arith, ih.1), (g.0, ih.2), ih.3, rw z ih.4)))
    (λ t z. nodes_end_lem (suc k) i (suc (suc i)) s t ns es z (rw (z, nodes_from) at h))

nodes_complete : (k i : ℕ) (ns : List Label) (es : List WallEdge) → i + k ≤ 128 → length ns ≤ k → All LabelGood ns → length es ≤ 1024
    → All (EdgeGood (i + length ns)) es → nodes_from k i (rest_of i ns es) ≡ good ns es
unfolding node_lines
nodes_complete k i [] es b l a c d =
    let z : i + 0 ≡ i = omega arith in
    nodes_hash k i (35 ∷ 10 ∷ joined (map edge_line es)) (joined (map edge_line es)) (hash_here (joined (map edge_line es)))
    ∙ edges_complete 1024 i (suc (suc i)) es (omega arith) c (rw z at d)
nodes_complete zero i (x ∷ ns) es b l a c d = let z : ⊥ = omega arith in absurd z
nodes_complete (suc k) i (x ∷ ns) es b l a c d =
    let z : i + suc (length ns) ≡ suc i + length ns = omega arith in
    nodes_step k i (node_line i x ++ rest_of (suc i) ns es) (x, rest_of (suc i) ns es) (node_complete i x (rest_of (suc i) ns es) (omega arith) a.0)
    ∙ ap (and_node x) (nodes_complete k (suc i) ns es (omega arith) (omega arith) a.1 c (rw z at d))

-- ---- the whole text

-- "Then a reader that takes such a text back to nodes, edges and label texts"
pub reads : (ns : List Label) (es : List WallEdge) → TextGood ns es → read_text (written ns es) ≡ good ns es
unfolding read_text written lines_of node_lines
reads [] es g = let z : ⊥ = omega (arith, g.some_node) in absurd z
reads (x ∷ ns) es g =
    let z : suc (length ns) ≡ 1 + length ns = omega arith in
    rw (node_complete 0 x (rest_of 1 ns es) (omega arith) g.labels.0, read_text)
    (ap (and_node x) (nodes_complete 127 1 ns es (omega arith) (omega (arith, g.few_nodes)) g.labels.1 g.few_edges (rw z at g.edges)))

-- "It accepts exactly what these line rules write"
pub accepts : (s : List ℕ) (ns : List Label) (es : List WallEdge) → read_text s ≡ good ns es → (s ≡ written ns es) × TextGood ns es
unfolding read_text written lines_of node_lines
accepts s ns es h =
    option (node_line_at 0 s)
    (λ z. let w : bad 1 ≡ good ns es = rw (z, read_text) at h in clash (cc))
    (λ p z. let e = and_node_lem p.0 (nodes_from 127 1 p.1) ns es (rw (z, read_text) at h) in
    let g = node_sound 0 s p.0 p.1 z in
    let r = nodes_sound 127 1 p.1 e.0 es e.1 in
    let v : ns ≡ p.0 ∷ e.0 = e.2 in
    let y : 1 + length e.0 ≡ suc (length e.0) = omega arith in
    rw v (
      g.1 ∙ ap (λ (t : List ℕ). node_line 0 p.0 ++ t) r.0,
      record { some_node = omega arith; few_nodes = omega (arith, r.1); few_edges = r.3; labels = (g.0, r.2); edges = rw y at r.4 },
    ))
