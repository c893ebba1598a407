-- The two loops: what is left of the lines, and what has been written of them.
use Rattle.std.specs.Prelude.{◌≡◌, refl, ℕ, zero, suc, ◌+◌, ◌≤◌, ◌<◌, length, get_or, drop}
use Rattle.std.proofs.Common.{sym, ◌∙◌, add-one, drop_of_length-le, drop-cons}
use Rattle.std.proofs.Math.Path.{ap}
use mathlib.Core.List.{List, [], ◌∷◌, ◌++◌, map, append-nil}
use native.Mathlib.Omega.{arith}
use Rattle.std.proofs.Math.ListN.{length-map, get_or-map}
use Rattle.records.specs.Tables.{Tables}
use Rattle.store.specs.declared.Size.{Size}
use Rattle.store.specs.declared.ConflictNode.TheVariants as N
use Rattle.store.specs.declared.Edge as Stored
use Rattle.store.specs.Graph.{Graph}
use Rattle.store.specs.Table.{graph_in, node_in, edge_in, Stored, nodes_count, edges_count, node_in_lem, edge_in_lem, no_edge}
use Rattle.drawing.specs.declared.PenAnswer.{PenAnswer}
use Rattle.drawing.specs.Pen.{Fine, Adds, PenLeft, left_start, left_next, left_end, left_stop}
use Rattle.drawing.specs.Fits.{shown_answer, shown_room}
use Rattle.drawing.specs.Graphviz.{answer_in}
use Rattle.texts.specs.Wrote.{over}
use Rattle.wall.specs.Captions.{node_caption}
use Rattle.tgf.specs.Lines.{Label, WallEdge, node_line, node_lines, edge_line, hash_line}
use Rattle.wall.specs.Export.{node_text, edge_text, wall_edge, labels_of, edges_of, node_units, edge_units, rest_units, export_units, export_shown}

-- one line more, where what is left are the lines from n on
left_one : (us : List (List ℕ)) (a : List ℕ) (p : PenAnswer) (n : ℕ) (b : List ℕ) (q : PenAnswer) → PenLeft us a p (drop n us) b q
    → (u : List ℕ) (c : List ℕ) (r : PenAnswer) → n < length us → get_or us n [] ≡ u → Adds (u ∷ []) b q c r → PenLeft us a p (drop (suc n) us) c r
left_one us a p n b q L u c r h e A =
    let d : drop n us ≡ u ∷ drop (suc n) us = drop-cons us n [] h ∙ ap (λ (x : List ℕ). x ∷ drop (suc n) us) e in
    left_next us a p (drop (suc n) us) b q (u ∷ []) c r (rw d at L) A

map_at : {A B : Type 0} (f : A → B) (l : List A) (n : ℕ) (d : A) (e : B) → n < length l → get_or (map f l) n e ≡ f (get_or l n d)
map_at f [] n d e h = let z : ⊥ = omega arith in absurd z
map_at f (x ∷ xs) zero d e h = refl
map_at f (x ∷ xs) (suc n) d e h = map_at f xs n d e (omega arith)

-- ---- the nodes

length_lines : (i : ℕ) (xs : List Label) → length (node_lines i xs) ≡ length xs
unfolding node_lines
length_lines i [] = refl
length_lines i (x ∷ xs) = ap suc (length_lines (suc i) xs)

line_at : (i n : ℕ) (xs : List Label) (d : Label) → n < length xs → get_or (node_lines i xs) n [] ≡ node_line (i + n) (get_or xs n d)
unfolding node_lines
line_at i n [] d h = let z : ⊥ = omega arith in absurd z
line_at i zero (x ∷ xs) d h = let z : i + 0 ≡ i = omega arith in rw z
line_at i (suc n) (x ∷ xs) d h =
    let z : suc i + n ≡ i + suc n = omega arith in line_at (suc i) n xs d (omega arith) ∙ ap (λ (j : ℕ). node_line j (get_or xs n d)) z

module _ (T : Tables) (g : List ℕ) (s : Size) (S : Stored g s) where
  nodes_long : length (node_units T (graph_in g s)) ≡ s.nodes
  unfolding node_units labels_of
  nodes_long = length_lines 0 (map (node_caption T) (graph_in g s).nodes) ∙ length-map (graph_in g s).nodes (node_caption T) ∙ nodes_count g s S

  nodes_at : (n : ℕ) → n < s.nodes → get_or (node_units T (graph_in g s)) n [] ≡ node_text T n (node_in g n)
  unfolding node_units labels_of node_text
  nodes_at n h =
      line_at 0 n (map (node_caption T) (graph_in g s).nodes) (node_caption T N.Root) (omega (
        arith,
        length-map (graph_in g s).nodes (node_caption T),
        nodes_count g s S,
      ))
      ∙ ap (λ (x : Label). node_line (0 + n) x) (get_or-map (node_caption T) (graph_in g s).nodes n N.Root ∙ ap (node_caption T) (sym (node_in_lem g s S n h)))
      ∙ ap (λ (j : ℕ). node_line j (node_caption T (node_in g n))) (let z : 0 + n ≡ n = omega arith in z)

  edges_at : (n : ℕ) → n < s.edges → get_or (edge_units T (graph_in g s)) n [] ≡ edge_text T (edge_in g n).source (edge_in g n).target (edge_in g n).weight
  unfolding edge_units edges_of edge_text
  edges_at n h =
      let f : Stored.Edge → WallEdge = λ e. wall_edge T e.source e.target e.weight in
      map_at edge_line (map f (graph_in g s).edges) n (f no_edge) [] (omega (arith, length-map (graph_in g s).edges f, edges_count g s S))
      ∙ ap edge_line (get_or-map f (graph_in g s).edges n no_edge ∙ ap f (sym (edge_in_lem g s S n h)))

  edges_long : length (edge_units T (graph_in g s)) ≡ s.edges
  unfolding edge_units edges_of
  edges_long =
      length-map (map (λ (e : Stored.Edge). wall_edge T e.source e.target e.weight) (graph_in g s).edges) edge_line
      ∙ length-map (graph_in g s).edges (λ (e : Stored.Edge). wall_edge T e.source e.target e.weight) ∙ edges_count g s S

-- the first n lines of the nodes are written
pub record Noding (T : Tables) (g : List ℕ) (s : Size) (a : List ℕ) (p : PenAnswer) (n : ℕ) (b : List ℕ) (q : PenAnswer) : Type 0 where
  pub stored : Stored g s
  pub left : PenLeft (node_units T (graph_in g s)) a p (drop n (node_units T (graph_in g s))) b q
  pub going : q.number ≡ 0

module _ (T : Tables) (g : List ℕ) (s : Size) (a : List ℕ) (p : PenAnswer) where
  pub noding_start : Stored g s → Fine a p → p.number ≡ 0 → Noding T g s a p 0 a p
  noding_start S f z = record { stored = S; left = left_start (node_units T (graph_in g s)) a p f; going = z }

  module _ (n : ℕ) (b : List ℕ) (q : PenAnswer) where
    pub noding_fine : Noding T g s a p n b q → Fine b q
    noding_fine N = N.left.fine

    pub noding_zero : Noding T g s a p n b q → q.number ≡ 0
    noding_zero N = N.going

    -- a node's number has three digits at most
    pub node_few : Noding T g s a p n b q → n < s.nodes → n < 1000
    node_few N h = omega (arith, N.stored.nodes_most)

    pub noding_next : (c : List ℕ) (r : PenAnswer) → Noding T g s a p n b q → n < s.nodes → Adds (node_text T n (node_in g n) ∷ []) b q c r → r.number ≡ 0
        → Noding T g s a p (n + 1) c r
    noding_next c r N h A z =
        record {
          stored = N.stored;
          left =
              rw add-one (left_one (node_units T (graph_in g s)) a p n b q N.left (node_text T n (node_in g n)) c r (rw (nodes_long T g s N.stored) h)
              (nodes_at T g s N.stored n h) A);
          going = z;
        }

    pub noding_stop : (c : List ℕ) (r : PenAnswer) → Noding T g s a p n b q → n < s.nodes → Adds (node_text T n (node_in g n) ∷ []) b q c r → (r.number ≡ 0 → ⊥)
        → Adds (node_units T (graph_in g s)) a p c r
    noding_stop c r N h A z =
        left_stop (node_units T (graph_in g s)) a p (drop (suc n) (node_units T (graph_in g s))) c r
        (left_one (node_units T (graph_in g s)) a p n b q N.left (node_text T n (node_in g n)) c r (rw (nodes_long T g s N.stored) h)
        (nodes_at T g s N.stored n h) A) z

    pub noding_end : Noding T g s a p n b q → s.nodes ≤ n → Adds (node_units T (graph_in g s)) a p b q
    noding_end N h =
        left_end (node_units T (graph_in g s)) a p (drop n (node_units T (graph_in g s))) b q
        (drop_of_length-le (node_units T (graph_in g s)) {i = n} (rw (nodes_long T g s N.stored) h)) N.left

-- the first n lines of the edges are written
pub record Edging (T : Tables) (g : List ℕ) (s : Size) (a : List ℕ) (p : PenAnswer) (n : ℕ) (b : List ℕ) (q : PenAnswer) : Type 0 where
  pub stored : Stored g s
  pub left : PenLeft (edge_units T (graph_in g s)) a p (drop n (edge_units T (graph_in g s))) b q
  pub going : q.number ≡ 0

module _ (T : Tables) (g : List ℕ) (s : Size) (a : List ℕ) (p : PenAnswer) where
  pub edging_start : Stored g s → Fine a p → p.number ≡ 0 → Edging T g s a p 0 a p
  edging_start S f z = record { stored = S; left = left_start (edge_units T (graph_in g s)) a p f; going = z }

  module _ (n : ℕ) (b : List ℕ) (q : PenAnswer) where
    pub edging_fine : Edging T g s a p n b q → Fine b q
    edging_fine N = N.left.fine

    pub edging_zero : Edging T g s a p n b q → q.number ≡ 0
    edging_zero N = N.going

    pub edging_next : (c : List ℕ) (r : PenAnswer) → Edging T g s a p n b q → n < s.edges
        → Adds (edge_text T (edge_in g n).source (edge_in g n).target (edge_in g n).weight ∷ []) b q c r → r.number ≡ 0 → Edging T g s a p (n + 1) c r
    edging_next c r N h A z =
        record {
          stored = N.stored;
          left =
              rw add-one (left_one (edge_units T (graph_in g s)) a p n b q N.left (edge_text T (edge_in g n).source (edge_in g n).target (edge_in g n).weight) c
              r (rw (edges_long T g s N.stored) h) (edges_at T g s N.stored n h) A);
          going = z;
        }

    pub edging_stop : (c : List ℕ) (r : PenAnswer) → Edging T g s a p n b q → n < s.edges
        → Adds (edge_text T (edge_in g n).source (edge_in g n).target (edge_in g n).weight ∷ []) b q c r → (r.number ≡ 0 → ⊥)
        → Adds (edge_units T (graph_in g s)) a p c r
    edging_stop c r N h A z =
        left_stop (edge_units T (graph_in g s)) a p (drop (suc n) (edge_units T (graph_in g s))) c r
        (left_one (edge_units T (graph_in g s)) a p n b q N.left (edge_text T (edge_in g n).source (edge_in g n).target (edge_in g n).weight) c r
        (rw (edges_long T g s N.stored) h) (edges_at T g s N.stored n h) A) z

    pub edging_end : Edging T g s a p n b q → s.edges ≤ n → Adds (edge_units T (graph_in g s)) a p b q
    edging_end N h =
        left_end (edge_units T (graph_in g s)) a p (drop n (edge_units T (graph_in g s))) b q
        (drop_of_length-le (edge_units T (graph_in g s)) {i = n} (rw (edges_long T g s N.stored) h)) N.left

-- ---- the parts one behind another

module _ (T : Tables) (G : Graph) (a : List ℕ) (p : PenAnswer) (F : Fine a p) (b : List ℕ) (q : PenAnswer) where
  rest_left : Adds (hash_line ∷ []) a p b q → PenLeft (rest_units T G) a p (edge_units T G) b q
  unfolding rest_units
  rest_left A = left_next (hash_line ∷ edge_units T G) a p (edge_units T G) a p (hash_line ∷ []) b q (left_start (hash_line ∷ edge_units T G) a p F) A

  pub rest_stop : Adds (hash_line ∷ []) a p b q → (q.number ≡ 0 → ⊥) → Adds (rest_units T G) a p b q
  rest_stop A z = left_stop (rest_units T G) a p (edge_units T G) b q (rest_left A) z

  pub rest_edges : (c : List ℕ) (r : PenAnswer) → Adds (hash_line ∷ []) a p b q → Adds (edge_units T G) b q c r → Adds (rest_units T G) a p c r
  rest_edges c r A B = left_end (rest_units T G) a p [] c r refl (left_next (rest_units T G) a p [] b q (edge_units T G) c r (rw append-nil (rest_left A)) B)

  all_left : Adds (node_units T G) a p b q → PenLeft (export_units T G) a p (rest_units T G) b q
  unfolding export_units
  all_left A = left_next (node_units T G ++ rest_units T G) a p (rest_units T G) a p (node_units T G) b q (left_start (node_units T G ++ rest_units T G) a p F) A

  pub all_stop : Adds (node_units T G) a p b q → (q.number ≡ 0 → ⊥) → Adds (export_units T G) a p b q
  all_stop A z = left_stop (export_units T G) a p (rest_units T G) b q (all_left A) z

  pub all_rest : (c : List ℕ) (r : PenAnswer) → Adds (node_units T G) a p b q → Adds (rest_units T G) b q c r → Adds (export_units T G) a p c r
  all_rest c r A B = left_end (export_units T G) a p [] c r refl (left_next (export_units T G) a p [] b q (rest_units T G) c r (rw append-nil (all_left A)) B)

pub export_answer : (T : Tables) (G : Graph) (o b : List ℕ) (q : PenAnswer)
    → Adds (export_units T G) o (record { number = 0; place = 0; bytes = 0; units = 0; depth = 0 }) b q → q ≡ answer_in (export_shown T G (length o))
unfolding export_shown
export_answer T G o b q A = shown_answer (export_units T G) o b q A

pub export_room : (T : Tables) (G : Graph) (o b : List ℕ) (q : PenAnswer)
    → Adds (export_units T G) o (record { number = 0; place = 0; bytes = 0; units = 0; depth = 0 }) b q → b ≡ over (export_shown T G (length o)).text o
unfolding export_shown
export_room T G o b q A = shown_room (export_units T G) o b q A
