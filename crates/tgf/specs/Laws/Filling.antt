-- The pass that fills the lent lists: "two numbers a node (where its label begins in the text, how long it is) and four an edge
-- (source, target, label's begin and length)".
use Rattle.std.specs.Prelude.{◌≡◌, refl, true, false, drop}
use Rattle.std.specs.Prelude.{Option as Maybe, Some, None}
use Rattle.std.proofs.Math.Path.{sym, ap}
use Rattle.std.proofs.Common.{◌∙◌, add-one, length-append, length-drop, length-take-le, drop-drop}
use mathlib.Core.List.{List, [], ◌∷◌, ◌++◌}
use Rattle.std.proofs.Math.Option.{some}
use Prim.Native.Nat.{ℕ, zero, suc, ◌+◌, ◌*◌, ◌-◌, ◌≤◌, ◌<◌}
use native.Mathlib.Omega.{arith}
use Rattle.std.proofs.Math.ListN.{length, take, set}
use Rattle.std.proofs.Math.Seq.{sets}
use Rattle.basis.specs.Members.{clash}
use Rattle.tgf.specs.declared.NodeLine.{NodeLine}
use Rattle.tgf.specs.declared.EdgeLine.{EdgeLine}
use Rattle.tgf.specs.Lines.{Label, WallEdge, decimal, node_line, edge_line}
use Rattle.tgf.specs.Read.{node_line_at, edge_at, WallText, good, bad, and_node, and_edge, edges_from, hash_at, nodes_from, read_text}
use Rattle.tgf.specs.Lent.{is_good, labels_in, edges_read, node_spots, nodes_end, edge_spots}
use Rattle.tgf.specs.Steps.{rest, node_out, edge_out, two_put, HashAt, EdgesAt}
use Rattle.tgf.specs.Laws.Numbers.{option, absurd_none, some_is}
use Rattle.tgf.specs.Laws.Both.{node_sound, edge_sound, edges_sound, hash_sound, nodes_hash, nodes_step}

pub put_two_via : (list l m : List ℕ) (at a b v w : ℕ) → l ≡ set list at v → m ≡ set l (at + 1) w → v ≡ a → w ≡ b → m ≡ two_put list at a b
unfolding two_put
put_two_via list l m at a b v w e f p q = rw (f, e, p, q)

pub put_edge_via : (list l m : List ℕ) (k a b c d : ℕ) → l ≡ two_put list (4 * k) a b → m ≡ two_put l (4 * k + 2) c d
    → m ≡ two_put (two_put list (4 * k) a b) (4 * k + 2) c d
put_edge_via list l m k a b c d e f = rw e at f

-- ---- where a line's parts stand

length_node : (i : ℕ) (x : Label) → length (node_line i x) ≡ length (decimal i) + length x + 2
unfolding node_line
length_node i x = length-append (decimal i) (32 ∷ (x ++ (10 ∷ []))) ∙ rw (length-append x (10 ∷ [])) (omega arith)

length_edge : (e : WallEdge) → length (edge_line e) ≡ length (decimal e.source) + length (decimal e.target) + length e.label + 3
unfolding edge_line
length_edge e =
    length-append (decimal e.source) (32 ∷ (decimal e.target ++ (32 ∷ (e.label ++ (10 ∷ [])))))
    ∙ rw (length-append (decimal e.target) (32 ∷ (e.label ++ (10 ∷ []))), length-append e.label (10 ∷ [])) (omega arith)

length_rest : (text : List ℕ) (at : ℕ) → length (rest at text) ≡ length text - at
unfolding rest
length_rest text at = length-drop at text

-- a label that is cut from the text has its length
length_cut : (text : List ℕ) (b n : ℕ) → b + n + 1 ≤ length text → length (take n (rest b text)) ≡ n
length_cut text b n h = length-take-le n (rest b text) (rw (length_rest text b) (omega arith))

-- the rest behind a line l of the rest from `at` on stands at `at + length l`
rest_behind : (text l : List ℕ) (at next : ℕ) → at ≤ length text → next ≤ length text → rest at text ≡ l ++ rest next text → next ≡ at + length l
rest_behind text l at next h g e =
    let z : length (rest at text) ≡ length l + length (rest next text) = ap length e ∙ length-append l (rest next text) in
    omega (arith, z, length_rest text at, length_rest text next)

-- ---- the nodes

-- i nodes are in the list; what is left of the text puts the others into it
pub record Nodes (text : List ℕ) (at i n : ℕ) (list whole : List ℕ) (end : ℕ) (es : List WallEdge) : Type 0 where
  pub fine : is_good (nodes_from (128 - i) i (rest at text)) ≡ true
  pub count : i + length (labels_in (nodes_from (128 - i) i (rest at text))) ≡ n
  pub left : sets list (2 * i) (node_spots at i (labels_in (nodes_from (128 - i) i (rest at text)))) ≡ whole
  pub ends : nodes_end at i (labels_in (nodes_from (128 - i) i (rest at text))) ≡ end
  pub edges : edges_read (nodes_from (128 - i) i (rest at text)) ≡ es
  pub within : at ≤ length text
  pub near : at ≤ 54 * i

good_and : (x : Label) (o : WallText) → is_good (and_node x o) ≡ true → (is_good o ≡ true) × (labels_in (and_node x o) ≡ x ∷ labels_in o)
    × (edges_read (and_node x o) ≡ edges_read o)
good_and x (good ns es) h = (refl, refl, refl)
good_and x (bad n) h = clash (cc)

-- behind # there are no nodes
edges_labels : (k m n : ℕ) (s : List ℕ) → labels_in (edges_from k m n s) ≡ []
edges_labels k m n s = go (edges_from k m n s) refl
  where
    go : (o : WallText) → edges_from k m n s ≡ o → labels_in o ≡ []
    go (good ns es) e = (edges_sound k m n s ns es e).0
    go (bad j) e = refl

-- where a node is left, its line stands first
abbrev Opened : ℕ → ℕ → List ℕ → Type 0
Opened k i s = (p : Label × List ℕ) × (node_line_at i s ≡ some p) × (is_good (nodes_from (k - 1) (suc i) p.1) ≡ true)
    × (labels_in (nodes_from k i s) ≡ p.0 ∷ labels_in (nodes_from (k - 1) (suc i) p.1))
    × (edges_read (nodes_from k i s) ≡ edges_read (nodes_from (k - 1) (suc i) p.1))

open_hash : (k i : ℕ) (s t : List ℕ) → hash_at s ≡ some t → 0 < length (labels_in (nodes_from k i s)) → Opened k i s
open_hash k i s t z c =
    let e : labels_in (nodes_from k i s) ≡ [] = ap labels_in (nodes_hash k i s t z) ∙ edges_labels 1024 i (suc (suc i)) t in
    let y : ⊥ = omega (arith, rw e at c) in absurd y

opened : (k i : ℕ) (s : List ℕ) → is_good (nodes_from k i s) ≡ true → 0 < length (labels_in (nodes_from k i s)) → Opened k i s
unfolding nodes_from
opened zero i s h c =
    option (hash_at s)
    (λ z. let w : false ≡ true = rw (z, nodes_from) at h in clash (cc))
    (λ t z. open_hash zero i s t z c)
opened (suc k) i s h c =
    option (hash_at s)
    (λ z. option (node_line_at i s)
    (λ y. let w : false ≡ true = rw (y) at (rw (z, nodes_from) at h) in clash (cc))
    (λ p y. let j : suc k - 1 ≡ k = omega arith in
    let o : nodes_from (suc k) i s ≡ and_node p.0 (nodes_from k (suc i) p.1) = rw (z, nodes_from, y) in
    let g = good_and p.0 (nodes_from k (suc i) p.1) (sym (ap is_good o) ∙ h) in
    (p, y, rw j g.0, rw j (ap labels_in o ∙ g.1), rw j (ap edges_read o ∙ g.2))))
    (λ t z. open_hash (suc k) i s t z c)

closed : (k i : ℕ) (s : List ℕ) → is_good (nodes_from k i s) ≡ true → labels_in (nodes_from k i s) ≡ [] → (t : List ℕ) × (hash_at s ≡ some t)
unfolding nodes_from
closed zero i s h c =
    option (hash_at s)
    (λ z. let w : false ≡ true = rw (z, nodes_from) at h in clash (cc))
    (λ t z. (t, z))
closed (suc k) i s h c =
    option (hash_at s)
    (λ z. option (node_line_at i s)
    (λ y. let w : false ≡ true = rw (y) at (rw (z, nodes_from) at h) in clash (cc))
    (λ p y. let o : nodes_from (suc k) i s ≡ and_node p.0 (nodes_from k (suc i) p.1) = rw (z, nodes_from, y) in
    let g = good_and p.0 (nodes_from k (suc i) p.1) (sym (ap is_good o) ∙ h) in
    let w : [] ≡ p.0 ∷ labels_in (nodes_from k (suc i) p.1) = sym c ∙ ap labels_in o ∙ g.1 in
    let y : ⊥ = omega (arith, ap length w) in absurd y))
    (λ t z. (t, z))

hash_rest : (text : List ℕ) (at : ℕ) (t : List ℕ) → at ≤ length text → hash_at (rest at text) ≡ some t → (t ≡ rest (at + 2) text) × (at + 2 ≤ length text)
unfolding rest
hash_rest text at t h e =
    let w : drop at text ≡ 35 ∷ 10 ∷ t = hash_sound (drop at text) t e in
    (ap (drop 2) (sym w) ∙ drop-drop 2 at text, omega (arith, ap length w, length-drop at text))

all_edges : (o : WallText) (es : List WallEdge) → is_good o ≡ true → labels_in o ≡ [] → edges_read o ≡ es → o ≡ good [] es
all_edges (good ns fs) es h l e = rw (l, e)
all_edges (bad n) es h l e = clash (cc)

spots_step : (list m : List ℕ) (at i b s next : ℕ) (x : Label) (xs : List Label) (whole : List ℕ) → at + length (decimal i) + 1 ≡ b → length x ≡ s
    → next ≡ at + length (node_line i x) → m ≡ two_put list (2 * i) b s → sets list (2 * i) (node_spots at i (x ∷ xs)) ≡ whole
    → sets m (2 * (i + 1)) (node_spots next (i + 1) xs) ≡ whole
unfolding node_spots two_put
spots_step list m at i b s next x xs whole e1 e2 e3 em h =
    let two : 2 * (i + 1) ≡ suc (suc (2 * i)) = omega arith in
    let one : 2 * i + 1 ≡ suc (2 * i) = omega arith in
    rw (em, e3, two, one, add-one i, ← e1, ← e2) h

end_step : (at i next : ℕ) (x : Label) (xs : List Label) (end : ℕ) → next ≡ at + length (node_line i x) → nodes_end at i (x ∷ xs) ≡ end
    → nodes_end next (i + 1) xs ≡ end
unfolding nodes_end
end_step at i next x xs end e h = rw (e, add-one i) h

no_nodes : (ns : List Label) (i n : ℕ) → n ≤ i → i + length ns ≡ n → ns ≡ []
no_nodes [] i n h e = refl
no_nodes (x ∷ ns) i n h e = let z : ⊥ = omega arith in absurd z

node_ok : (text : List ℕ) (o : Maybe NodeLine) (x : NodeLine) (p : Label × List ℕ) → o ≡ Some x → node_out text o ≡ some p
    → p ≡ (take x.size (rest x.begin text), rest x.next text)
unfolding node_out
node_ok text o x p t e = sym (some_is (take x.size (rest x.begin text), rest x.next text) p (rw t at e))

no_line : (text : List ℕ) (o : Maybe NodeLine) (p : Label × List ℕ) → o ≡ None → node_out text o ≡ some p → ⊥
unfolding node_out
no_line text o p t e = absurd_none p (rw t at e)

node_is : (text : List ℕ) (o : Maybe NodeLine) (p : Label × List ℕ) → node_out text o ≡ some p
    → (x : NodeLine) × ((o ≡ Some x) × (p ≡ (take x.size (rest x.begin text), rest x.next text)))
node_is text (Some x) p e = (x, (refl, node_ok text (Some x) x p refl e))
node_is text None p e = absurd (no_line text None p refl e)

module _ (text : List ℕ) (at i n : ℕ) (list whole : List ℕ) (end : ℕ) (es : List WallEdge) (F : Nodes text at i n list whole end es) where
  pub nodes_list : n ≤ i → list ≡ whole
  unfolding node_spots
  nodes_list h = rw (no_nodes (labels_in (nodes_from (128 - i) i (rest at text))) i n h F.count) at F.left

  pub nodes_at : n ≤ i → at ≡ end
  unfolding nodes_end
  nodes_at h = rw (no_nodes (labels_in (nodes_from (128 - i) i (rest at text))) i n h F.count) at F.ends

  -- the # stands behind the nodes
  pub nodes_edges : n ≤ i → i ≤ n → (edges_from 1024 n (suc (suc n)) (rest (at + 2) text) ≡ good [] es) × (at + 2 ≤ length text)
  nodes_edges h l =
      let z : i ≡ n = omega arith in
      let c = closed (128 - i) i (rest at text) F.fine (no_nodes (labels_in (nodes_from (128 - i) i (rest at text))) i n h F.count) in
      let u = hash_rest text at c.0 F.within c.1 in
      let o : nodes_from (128 - i) i (rest at text) ≡ edges_from 1024 i (suc (suc i)) (rest (at + 2) text) =
      nodes_hash (128 - i) i (rest at text) (rest (at + 2) text) (c.1 ∙ ap (λ (t : List ℕ). some t) u.0) in (
        rw (← z) (all_edges (edges_from 1024 i (suc (suc i)) (rest (at + 2) text)) es (ap is_good (sym o)
            ∙ F.fine) (edges_labels 1024 i (suc (suc i)) (rest (at + 2) text)) (ap edges_read (sym o) ∙ F.edges)),
        u.1,
      )

  -- each line of a good text is one
  pub nodes_some : (o : Maybe NodeLine) → i < n → node_out text o ≡ node_line_at i (rest at text) → o ≡ None → ⊥
  nodes_some o h q t =
      let v = opened (128 - i) i (rest at text) F.fine (omega (arith, F.count)) in
      no_line text o v.0 t (q ∙ v.1)

  pub nodes_fill : (y : Maybe NodeLine) (x : NodeLine) (m : List ℕ) → i < n → y ≡ Some x → m ≡ two_put list (2 * i) x.begin x.size
      → node_out text y ≡ node_line_at i (rest at text) → x.next ≡ x.begin + x.size + 1 → x.next ≤ length text → x.next ≤ at + 54
      → Nodes text x.next (i + 1) n m whole end es
  unfolding node_spots nodes_end
  nodes_fill yo x m h t em q y g d =
      let o = opened (128 - i) i (rest at text) F.fine (omega (arith, F.count)) in
      let p = o.0 in
      let r = node_ok text yo x p t (q ∙ o.1) in
      let z = node_sound i (rest at text) p.0 p.1 o.1 in
      let u : p.0 ≡ take x.size (rest x.begin text) = ap (λ t. t.0) r in
      let v : p.1 ≡ rest x.next text = ap (λ t. t.1) r in
      let w : length p.0 ≡ x.size = rw u (length_cut text x.begin x.size (omega arith)) in
      let a : x.next ≡ at + length (node_line i p.0) = rest_behind text (node_line i p.0) at x.next F.within g (z.1
      ∙ ap (λ (t : List ℕ). node_line i p.0 ++ t) v) in
      let c : at + length (decimal i) + 1 ≡ x.begin = omega (arith, length_node i p.0) in
      let j : 128 - i - 1 ≡ 128 - (i + 1) = omega arith in
      let two : suc (suc (2 * i)) ≡ 2 * (i + 1) = omega arith in
      let ns : nodes_from (128 - i - 1) (suc i) p.1 ≡ nodes_from (128 - (i + 1)) (i + 1) (rest x.next text) = rw (j, v, add-one) in
      let lab : labels_in (nodes_from (128 - i) i (rest at text)) ≡ p.0 ∷ labels_in (nodes_from (128 - (i + 1)) (i + 1) (rest x.next text)) = o.3
      ∙ ap (λ (t : WallText). p.0 ∷ labels_in t) ns in
      record {
        fine = ap is_good (sym ns) ∙ o.2;
        count = omega (arith, F.count, ap length lab);
        left = spots_step list m at i x.begin x.size x.next p.0 (labels_in (nodes_from (128 - (i + 1)) (i + 1) (rest x.next text))) whole c w a
            em
            (ap (λ (t : List Label). sets list (2 * i) (node_spots at i t)) (sym lab) ∙ F.left);
        ends =
            end_step at i x.next p.0 (labels_in (nodes_from (128 - (i + 1)) (i + 1) (rest x.next text))) end a (ap (nodes_end at i) (sym lab) ∙ F.ends);
        edges = ap edges_read (sym ns) ∙ sym o.4 ∙ F.edges;
        within = g;
        near = omega (arith, F.near);
      }

-- the text from its start
read_whole : (s : List ℕ) → is_good (read_text s) ≡ true → nodes_from 128 0 s ≡ read_text s
unfolding read_text
read_whole s h =
    option (node_line_at 0 s)
    (λ z. let w : false ≡ true = rw (z, read_text) at h in clash (cc))
    (λ p z. nodes_step 127 0 s p z ∙ sym (rw (z, read_text) refl))

pub nodes_begin : (text list : List ℕ) (n : ℕ) → is_good (read_text text) ≡ true → length (labels_in (read_text text)) ≡ n
    → Nodes text 0 0 n list (sets list 0 (node_spots 0 0 (labels_in (read_text text)))) (nodes_end 0 0 (labels_in (read_text text))) (edges_read (read_text text))
unfolding rest
nodes_begin text list n h c =
    let w : nodes_from 128 0 text ≡ read_text text = read_whole text h in
    record {
      fine = ap is_good w ∙ h;
      count = omega (arith, c, ap (λ (o : WallText). length (labels_in o)) w);
      left = ap (λ (o : WallText). sets list 0 (node_spots 0 0 (labels_in o))) w;
      ends = ap (λ (o : WallText). nodes_end 0 0 (labels_in o)) w;
      edges = ap edges_read w;
      within = omega arith;
      near = omega arith;
    }

-- ---- the edges

-- k edges are in the list; what is left of the text puts the others into it
pub record Edges (text : List ℕ) (m at k n : ℕ) (list whole : List ℕ) : Type 0 where
  pub fine : is_good (edges_from (1024 - k) m (m + 2 + k) (rest at text)) ≡ true
  pub count : k + length (edges_read (edges_from (1024 - k) m (m + 2 + k) (rest at text))) ≡ n
  pub left : sets list (4 * k) (edge_spots at (edges_read (edges_from (1024 - k) m (m + 2 + k) (rest at text)))) ≡ whole
  pub within : at ≤ length text
  pub near : at ≤ 6914 + 58 * k

good_edge : (e : WallEdge) (o : WallText) → is_good (and_edge e o) ≡ true → (is_good o ≡ true) × (edges_read (and_edge e o) ≡ e ∷ edges_read o)
good_edge e (good ns es) h = (refl, refl)
good_edge e (bad n) h = clash (cc)

abbrev OpenedEdge : ℕ → ℕ → ℕ → List ℕ → Type 0
OpenedEdge k m n s = (p : WallEdge × List ℕ) × (edge_at m s ≡ some p) × (is_good (edges_from (k - 1) m (suc n) p.1) ≡ true)
    × (edges_read (edges_from k m n s) ≡ p.0 ∷ edges_read (edges_from (k - 1) m (suc n) p.1))

opened_edge : (k m n : ℕ) (s : List ℕ) → is_good (edges_from k m n s) ≡ true → 0 < length (edges_read (edges_from k m n s)) → OpenedEdge k m n s
unfolding edges_from
opened_edge zero m n [] h c = let z : ⊥ = omega arith in absurd z
opened_edge zero m n (x ∷ s) h c = clash (cc)
opened_edge (suc k) m n [] h c = let z : ⊥ = omega arith in absurd z
opened_edge (suc k) m n (x ∷ s) h c =
    option (edge_at m (x ∷ s))
    (λ y. let w : false ≡ true = rw (y, edges_from) at h in clash (cc))
    (λ p y. let j : suc k - 1 ≡ k = omega arith in
    let o : edges_from (suc k) m n (x ∷ s) ≡ and_edge p.0 (edges_from k m (suc n) p.1) = rw (y, edges_from) in
    let g = good_edge p.0 (edges_from k m (suc n) p.1) (sym (ap is_good o) ∙ h) in
    (p, y, rw j g.0, rw j (ap edges_read o ∙ g.1)))

no_edges : (es : List WallEdge) (i n : ℕ) → n ≤ i → i + length es ≡ n → es ≡ []
no_edges [] i n h e = refl
no_edges (x ∷ es) i n h e = let z : ⊥ = omega arith in absurd z

edge_ok : (text : List ℕ) (o : Maybe EdgeLine) (x : EdgeLine) (p : WallEdge × List ℕ) → o ≡ Some x → edge_out text o ≡ some p
    → p ≡ (record { source = x.source; target = x.target; label = take x.size (rest x.begin text) }, rest x.next text)
unfolding edge_out
edge_ok text o x p t e =
    sym (some_is (
      record { source = x.source; target = x.target; label = take x.size (rest x.begin text) },
      rest x.next text,
    ) p (rw t at e))

no_edge_line : (text : List ℕ) (o : Maybe EdgeLine) (p : WallEdge × List ℕ) → o ≡ None → edge_out text o ≡ some p → ⊥
unfolding edge_out
no_edge_line text o p t e = absurd_none p (rw t at e)

edge_is : (text : List ℕ) (o : Maybe EdgeLine) (p : WallEdge × List ℕ) → edge_out text o ≡ some p
    → (x : EdgeLine) × ((o ≡ Some x) × (p ≡ (record { source = x.source; target = x.target; label = take x.size (rest x.begin text) }, rest x.next text)))
edge_is text (Some x) p e = (x, (refl, edge_ok text (Some x) x p refl e))
edge_is text None p e = absurd (no_edge_line text None p refl e)

edge_spots_step : (list m : List ℕ) (at k b s next : ℕ) (e : WallEdge) (es : List WallEdge) (whole : List ℕ)
    → at + length (decimal e.source) + 1 + length (decimal e.target) + 1 ≡ b → length e.label ≡ s → next ≡ at + length (edge_line e)
    → m ≡ set (set (set (set list (4 * k) e.source) (4 * k + 1) e.target) (4 * k + 2) b) (4 * k + 3) s
    → sets list (4 * k) (edge_spots at (e ∷ es)) ≡ whole → sets m (4 * (k + 1)) (edge_spots next es) ≡ whole
unfolding edge_spots
edge_spots_step list m at k b s next e es whole e1 e2 e3 em h =
    let four : 4 * (k + 1) ≡ suc (suc (suc (suc (4 * k)))) = omega arith in
    let one : 4 * k + 1 ≡ suc (4 * k) = omega arith in
    let two : 4 * k + 2 ≡ suc (suc (4 * k)) = omega arith in
    let three : 4 * k + 3 ≡ suc (suc (suc (4 * k))) = omega arith in
    rw (em, e3, four, one, two, three, ← e1, ← e2) h

module _ (text : List ℕ) (m at k n : ℕ) (list whole : List ℕ) (F : Edges text m at k n list whole) where
  pub edges_list : n ≤ k → list ≡ whole
  unfolding edge_spots
  edges_list h = rw (no_edges (edges_read (edges_from (1024 - k) m (m + 2 + k) (rest at text))) k n h F.count) at F.left

  -- each line of a good text is one
  pub edges_some : (o : Maybe EdgeLine) → k < n → edge_out text o ≡ edge_at m (rest at text) → o ≡ None → ⊥
  edges_some o h q t =
      let v = opened_edge (1024 - k) m (m + 2 + k) (rest at text) F.fine (omega (arith, F.count)) in
      no_edge_line text o v.0 t (q ∙ v.1)

  pub edges_fill : (yo : Maybe EdgeLine) (x : EdgeLine) (l4 : List ℕ) → k < n → yo ≡ Some x
      → l4 ≡ two_put (two_put list (4 * k) x.source x.target) (4 * k + 2) x.begin x.size
      → edge_out text yo ≡ edge_at m (rest at text) → x.next ≡ x.begin + x.size + 1
      → x.next ≤ length text → x.next ≤ at + 58 → Edges text m x.next (k + 1) n l4 whole
  unfolding two_put
  edges_fill yo x l4 h t em q w g v =
      let o = opened_edge (1024 - k) m (m + 2 + k) (rest at text) F.fine (omega (arith, F.count)) in
      let p = o.0 in
      let r = edge_ok text yo x p t (q ∙ o.1) in
      let z = edge_sound m (rest at text) p.0 p.1 o.1 in
      let pe : p.0 ≡ record { source = x.source; target = x.target; label = take x.size (rest x.begin text) } = ap (λ t. t.0) r in
      let pr : p.1 ≡ rest x.next text = ap (λ t. t.1) r in
      let ps : p.0.source ≡ x.source = ap (λ (t : WallEdge). t.source) pe in
      let pt : p.0.target ≡ x.target = ap (λ (t : WallEdge). t.target) pe in
      let pl : p.0.label ≡ take x.size (rest x.begin text) = ap (λ (t : WallEdge). t.label) pe in
      let sz : length p.0.label ≡ x.size = rw pl (length_cut text x.begin x.size (omega arith)) in
      let nx : x.next ≡ at + length (edge_line p.0) = rest_behind text (edge_line p.0) at x.next F.within g (z.1
      ∙ ap (λ (t : List ℕ). edge_line p.0 ++ t) pr) in
      let bg : at + length (decimal p.0.source) + 1 + length (decimal p.0.target) + 1 ≡ x.begin = omega (arith, length_edge p.0) in
      let j : 1024 - k - 1 ≡ 1024 - (k + 1) = omega arith in
      let i : suc (m + 2 + k) ≡ m + 2 + (k + 1) = omega arith in
      let ns : edges_from (1024 - k - 1) m (suc (m + 2 + k)) p.1 ≡ edges_from (1024 - (k + 1)) m (m + 2 + (k + 1)) (rest x.next text) = rw (j, i, pr) in
      let lab : edges_read (edges_from (1024 - k) m (m + 2 + k) (rest at text))
      ≡ p.0 ∷ edges_read (edges_from (1024 - (k + 1)) m (m + 2 + (k + 1)) (rest x.next text)) = o.3 ∙ ap (λ (t : WallText). p.0 ∷ edges_read t) ns in
      let stores : l4 ≡ set (set (set (set list (4 * k) p.0.source) (4 * k + 1) p.0.target) (4 * k + 2) x.begin) (4 * k + 3) x.size =
      rw (ps, pt) (em ∙ (let y : 4 * k + 2 + 1 ≡ 4 * k + 3 = omega arith in rw y)) in
      record {
        fine = ap is_good (sym ns) ∙ o.2;
        count = omega (arith, F.count, ap length lab);
        left =
            edge_spots_step list l4 at k x.begin x.size x.next p.0
            (edges_read (edges_from (1024 - (k + 1)) m (m + 2 + (k + 1)) (rest x.next text))) whole bg sz nx stores
            (ap (λ (t : List WallEdge). sets list (4 * k) (edge_spots at t)) (sym lab) ∙ F.left);
        within = g;
        near = omega (arith, F.near);
      }

pub edges_begin : (text : List ℕ) (m at n : ℕ) (list : List ℕ) (es : List WallEdge) → edges_from 1024 m (suc (suc m)) (rest at text) ≡ good [] es → length es ≡ n
    → at ≤ length text → at ≤ 6914
    → Edges text m at 0 n list (sets list 0 (edge_spots at es))
edges_begin text m at n list es h c l g =
    let z : m + 2 + 0 ≡ suc (suc m) = omega arith in
    let w : edges_from 1024 m (m + 2 + 0) (rest at text) ≡ good [] es = rw z h in
    record {
      fine = ap is_good w;
      count = omega (arith, c, ap (λ (o : WallText). length (edges_read o)) w);
      left = ap (λ (o : WallText). sets list 0 (edge_spots at (edges_read o))) w;
      within = l;
      near = omega arith;
    }

-- ---- from the nodes to the edges

pub hash_at_lem : (text : List ℕ) (at i n : ℕ) (list whole : List ℕ) (end : ℕ) → Nodes text at i n list whole end (edges_read (read_text text)) → n ≤ i → i ≤ n
    → n ≤ 128 → HashAt text n at
hash_at_lem text at i n list whole end F h l g =
    let e = nodes_edges text at i n list whole end (edges_read (read_text text)) F h l in
    record { edges = e.0; within = e.1; near = omega (arith, F.near) }

pub edges_at : (text : List ℕ) (n r k : ℕ) → HashAt text n r → length (edges_read (read_text text)) ≡ k → EdgesAt text n (r + 2) k
edges_at text n r k H c = record { edges = H.edges; count = c; within = H.within; near = omega (arith, H.near) }

pub edges_first : (text : List ℕ) (m from n : ℕ) (list : List ℕ) → EdgesAt text m from n
    → Edges text m from 0 n list (sets list 0 (edge_spots from (edges_read (read_text text))))
edges_first text m from n list E = edges_begin text m from n list (edges_read (read_text text)) E.edges E.count E.within E.near
