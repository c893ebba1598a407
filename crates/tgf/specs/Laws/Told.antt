-- What the reader's lists say of a text that it takes: each label stands in the text where they say, as long as they say, and each edge has
-- the ends that they say.
use Rattle.std.specs.Prelude.{◌≡◌, refl, ℕ, suc, ◌+◌, length, take, drop}
use Rattle.std.proofs.Common.{sym, ap, ◌∙◌, arith, length-append, drop_at}
use mathlib.Core.List.{List, [], ◌∷◌, ◌++◌, map, append_assoc}
use Rattle.std.proofs.Math.Seq.{take-append_seam}
use Rattle.tgf.specs.Lines.{Label, WallEdge, decimal, node_line, hash_line, edge_line, node_lines, lines_of, joined, written}
use Rattle.tgf.specs.Read.{good, read_text}
use Rattle.tgf.specs.Lent.{node_spots, nodes_end, edge_spots}
use Rattle.tgf.specs.Laws.Both.{accepts}

-- two numbers for each label: where it begins, how long it is
abbrev pub NodesTold : List ℕ → List ℕ → List Label → Type 0
NodesTold text [] [] = Unit {0}
NodesTold text [] (x ∷ xs) = ⊥
NodesTold text (b ∷ ns) [] = ⊥
NodesTold text (b ∷ []) (x ∷ xs) = ⊥
NodesTold text (b ∷ k ∷ ns) (x ∷ xs) = (take k (drop b text) ≡ x) × NodesTold text ns xs

-- four numbers for each edge: its ends, where its label begins, how long that is
abbrev pub EdgesTold : List ℕ → List ℕ → List WallEdge → Type 0
EdgesTold text [] [] = Unit {0}
EdgesTold text [] (e ∷ es) = ⊥
EdgesTold text (s ∷ ns) [] = ⊥
EdgesTold text (s ∷ []) (e ∷ es) = ⊥
EdgesTold text (s ∷ t ∷ []) (e ∷ es) = ⊥
EdgesTold text (s ∷ t ∷ b ∷ []) (e ∷ es) = ⊥
EdgesTold text (s ∷ t ∷ b ∷ k ∷ ns) (e ∷ es) = ((s ≡ e.source) × (t ≡ e.target) × (take k (drop b text) ≡ e.label)) × EdgesTold text ns es

-- a label behind p and before q
label_at : (p x q : List ℕ) (b : ℕ) → length p ≡ b → take (length x) (drop b (p ++ (x ++ q))) ≡ x
label_at p x q b h = rw (drop_at p (x ++ q) b h) (take-append_seam x q)

-- ---- the nodes

node_cut : (i : ℕ) (x : Label) (p q : List ℕ) → p ++ (node_line i x ++ q) ≡ (p ++ (decimal i ++ (32 ∷ []))) ++ (x ++ (10 ∷ q))
unfolding node_line
node_cut i x p q =
    ap (λ (l : List ℕ). p ++ l)
    (append_assoc (decimal i) (32 ∷ (x ++ (10 ∷ []))) q
    ∙ ap (λ (l : List ℕ). decimal i ++ (32 ∷ l)) (append_assoc x (10 ∷ []) q)
    ∙ sym (append_assoc (decimal i) (32 ∷ []) (x ++ (10 ∷ q))))
    ∙ sym (append_assoc p (decimal i ++ (32 ∷ [])) (x ++ (10 ∷ q)))

nodes_told : (text p q : List ℕ) (at i : ℕ) (xs : List Label) → length p ≡ at → text ≡ p ++ (joined (node_lines i xs) ++ q)
    → NodesTold text (node_spots at i xs) xs
unfolding node_lines node_spots
nodes_told text p q at i [] h e = tt
nodes_told text p q at i (x ∷ xs) h e =
    let r : List ℕ = joined (node_lines (suc i) xs) ++ q in
    let a : text ≡ p ++ (node_line i x ++ (joined (node_lines (suc i) xs) ++ q)) = e
    ∙ ap (λ (l : List ℕ). p ++ l) (append_assoc (node_line i x) (joined (node_lines (suc i) xs)) q) in
    let n : length (p ++ (decimal i ++ (32 ∷ []))) ≡ at + length (decimal i) + 1 = length-append p (decimal i ++ (32 ∷ []))
    ∙ ap (λ (k : ℕ). length p + k) (length-append (decimal i) (32 ∷ []))
    ∙ (let z : length p + (length (decimal i) + 1) ≡ at + length (decimal i) + 1 = omega arith in z) in (
      ap (λ (t : List ℕ). take (length x) (drop (at + length (decimal i) + 1) t)) (a ∙ node_cut i x p (joined (node_lines (suc i) xs) ++ q))
          ∙ label_at (p ++ (decimal i ++ (32 ∷ []))) x (10 ∷ (joined (node_lines (suc i) xs) ++ q)) (at + length (decimal i) + 1) n,
      nodes_told text (p ++ node_line i x) q (at + length (node_line i x)) (suc i) xs (length-append p (node_line i x)
          ∙ ap (λ (k : ℕ). k + length (node_line i x)) h)
          (a ∙ sym (append_assoc p (node_line i x) (joined (node_lines (suc i) xs) ++ q))),
    )

-- ---- the edges

edge_cut : (e : WallEdge) (p q : List ℕ) → p ++ (edge_line e ++ q) ≡ (p ++ (decimal e.source ++ (32 ∷ (decimal e.target ++ (32 ∷ [])))))
    ++ (e.label ++ (10 ∷ q))
unfolding edge_line
edge_cut e p q =
    let s = decimal e.source in let t = decimal e.target in let x = e.label in
    ap (λ (l : List ℕ). p ++ l)
    (append_assoc s (32 ∷ (t ++ (32 ∷ (x ++ (10 ∷ []))))) q
    ∙ ap (λ (l : List ℕ). s ++ (32 ∷ l)) (append_assoc t (32 ∷ (x ++ (10 ∷ []))) q ∙ ap (λ (l : List ℕ). t ++ (32 ∷ l)) (append_assoc x (10 ∷ []) q)
    ∙ sym (append_assoc t (32 ∷ []) (x ++ (10 ∷ q))))
    ∙ sym (append_assoc s (32 ∷ (t ++ (32 ∷ []))) (x ++ (10 ∷ q))))
    ∙ sym (append_assoc p (s ++ (32 ∷ (t ++ (32 ∷ [])))) (x ++ (10 ∷ q)))

ends_length : (p s t : List ℕ) (at : ℕ) → length p ≡ at → length (p ++ (s ++ (32 ∷ (t ++ (32 ∷ []))))) ≡ at + length s + 1 + length t + 1
ends_length p s t at h =
    length-append p (s ++ (32 ∷ (t ++ (32 ∷ []))))
    ∙ ap (λ (k : ℕ). length p + k) (length-append s (32 ∷ (t ++ (32 ∷ []))) ∙ ap (λ (k : ℕ). length s + suc k) (length-append t (32 ∷ [])))
    ∙ (let z : length p + (length s + suc (length t + 1)) ≡ at + length s + 1 + length t + 1 = omega arith in z)

edges_told : (text p : List ℕ) (at : ℕ) (es : List WallEdge) → length p ≡ at → text ≡ p ++ joined (map edge_line es) → EdgesTold text (edge_spots at es) es
unfolding edge_spots
edges_told text p at [] h e = tt
edges_told text p at (x ∷ xs) h e =
    let s = decimal x.source in let t = decimal x.target in (
      (
        refl,
        refl,
        ap (λ (l : List ℕ). take (length x.label) (drop (at + length (decimal x.source) + 1 + length (decimal x.target) + 1) l)) (e
            ∙ edge_cut x p (joined (map edge_line xs)))
            ∙ label_at (p ++ (decimal x.source ++ (32 ∷ (decimal x.target ++ (32 ∷ []))))) x.label (10 ∷ joined (map edge_line xs)) (at
            + length (decimal x.source) + 1 + length (decimal x.target) + 1)
            (ends_length p (decimal x.source) (decimal x.target) at h),
      ),
      edges_told text (p ++ edge_line x) (at + length (edge_line x)) xs (length-append p (edge_line x) ∙ ap (λ (k : ℕ). k + length (edge_line x)) h) (e
          ∙ sym (append_assoc p (edge_line x) (joined (map edge_line xs)))),
    )

-- ---- the text

joined_append : (us vs : List (List ℕ)) → joined (us ++ vs) ≡ joined us ++ joined vs
joined_append [] vs = refl
joined_append (u ∷ us) vs = ap (λ (l : List ℕ). u ++ l) (joined_append us vs) ∙ sym (append_assoc u (joined us) (joined vs))

end_length : (at i : ℕ) (xs : List Label) → nodes_end at i xs ≡ at + length (joined (node_lines i xs))
unfolding nodes_end node_lines
end_length at i [] = omega arith
end_length at i (x ∷ xs) =
    end_length (at + length (node_line i x)) (suc i) xs ∙ (let z = length-append (node_line i x) (joined (node_lines (suc i) xs)) in
    let y : at + length (node_line i x) + length (joined (node_lines (suc i) xs)) ≡ at + length (node_line i x ++ joined (node_lines (suc i) xs)) =
    omega (arith, z) in y)

module _ (text : List ℕ) (ns : List Label) (es : List WallEdge) (e : read_text text ≡ good ns es) where
  parts : text ≡ joined (node_lines 0 ns) ++ (hash_line ++ joined (map edge_line es))
  unfolding written lines_of
  parts = (accepts text ns es e).0 ∙ joined_append (node_lines 0 ns) (hash_line ∷ map edge_line es)

  -- the two numbers of each node that `urzulempa_tgf_read` lists
  pub told_nodes : NodesTold text (node_spots 0 0 ns) ns
  told_nodes = nodes_told text [] (hash_line ++ joined (map edge_line es)) 0 0 ns refl parts

  -- the four numbers of each edge
  pub told_edges : EdgesTold text (edge_spots (nodes_end 0 0 ns + 2) es) es
  told_edges =
      edges_told text (joined (node_lines 0 ns) ++ hash_line) (nodes_end 0 0 ns + 2) es
      (length-append (joined (node_lines 0 ns)) hash_line ∙ ap (λ (k : ℕ). k + 2) (let z : length (joined (node_lines 0 ns))
      ≡ nodes_end 0 0 ns = omega (arith, end_length 0 0 ns) in z))
      (parts ∙ sym (append_assoc (joined (node_lines 0 ns)) hash_line (joined (map edge_line es))))
