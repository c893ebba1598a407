-- Order 14, the reader: "takes such a text back to nodes, edges and label texts", or "gives 3 with the line number, from 1, of
-- the first bad or missing line". It reads line by line from the front; what one line leaves is the rest of the text.
use Rattle.std.specs.Prelude.{Bool, true, false, ◌&&◌, List, [], ◌∷◌, ℕ, zero, suc, ◌+◌, ◌*◌, ◌-◌, leb, ltb, eqb}
use Rattle.std.proofs.Math.Option.{Option, none, some}
use Rattle.basis.specs.Guard.{guard}
use Rattle.tgf.specs.Lines.{Label, WallEdge, in_label}

-- `char::is_ascii_digit`
abbrev pub is_digit : ℕ → Bool
is_digit c = leb 48 c && leb c 57

-- the digits behind a number n that does not begin with 0, k of them at most, and the space behind them, for `number_at`
unfoldable pub number_on : ℕ → ℕ → List ℕ → Option (ℕ × List ℕ)
number_on zero n [] = none
number_on zero n (c ∷ s) = guard (eqb c 32) none (some (n, s))
number_on (suc k) n [] = none
number_on (suc k) n (c ∷ s) =
    elim (eqb c 32) [ true ↦ some (n, s) | false ↦ guard (is_digit c) none (number_on k (10 * n + (c - 48)) s) ]

-- "Numbers are decimals without leading zeros; one space": the number and what stands behind the space
unfoldable pub number_at : List ℕ → Option (ℕ × List ℕ)
number_at [] = none
number_at (c ∷ s) = guard (is_digit c) none (elim (eqb c 48) [ true ↦ number_on 0 0 s | false ↦ number_on 2 (c - 48) s ])

-- "the label is the rest of the line": at most k bytes of it, then the newline
unfoldable pub label_in : ℕ → List ℕ → Option (Label × List ℕ)
label_in zero [] = none
label_in zero (c ∷ s) = guard (eqb c 10) none (some ([], s))
label_in (suc k) [] = none
label_in (suc k) (c ∷ s) =
    elim (eqb c 10) [
      | true ↦ some ([], s)
      | false ↦ guard (in_label c) none (elim (label_in k s) [ none ↦ none | some p ↦ some (c ∷ p.0, p.1) ])
    ]

-- "labels of 1 to 49 bytes": a label has a byte or more
unfoldable pub label_at : List ℕ → Option (Label × List ℕ)
label_at [] = none
label_at (c ∷ s) = guard (in_label c) none (label_in 49 (c ∷ s))

-- the line of node i: "a line per node with its number, a space and a label"
unfoldable pub node_line_at : ℕ → List ℕ → Option (Label × List ℕ)
node_line_at i s = elim (number_at s) [ none ↦ none | some p ↦ guard (eqb p.0 i) none (label_at p.1) ]

-- an end of an edge among m nodes; bad is "an edge between nodes that don't exist"
unfoldable pub end_at : ℕ → List ℕ → Option (ℕ × List ℕ)
end_at m s = elim (number_at s) [ none ↦ none | some p ↦ guard (ltb p.0 m) none (some p) ]

-- "a line per edge with source, target and label"
unfoldable pub edge_at : ℕ → List ℕ → Option (WallEdge × List ℕ)
edge_at m s =
    elim (end_at m s) [
      | none ↦ none
      | some p ↦ elim (end_at m p.1) [
        | none ↦ none
        | some q ↦ elim (label_at q.1) [
          | none ↦ none
          | some l ↦ some (record { source = p.0; target = q.0; label = l.0 }, l.1)
        ]
      ]
    ]

-- "nodes, edges and label texts", or the number "of the first bad or missing line"
pub data WallText : Type 0 where
  good : List Label → List WallEdge → WallText
  bad : ℕ → WallText

-- one more node in front, for `nodes_from`
abbrev pub and_node : Label → WallText → WallText
and_node x (good ns es) = good (x ∷ ns) es
and_node x (bad n) = bad n

-- one more edge in front, for `edges_from`
abbrev pub and_edge : WallEdge → WallText → WallText
and_edge e (good ns es) = good ns (e ∷ es)
and_edge e (bad n) = bad n

-- edges between m nodes, k more at most, from line n on: "up to 1,024 edges between them"
unfoldable pub edges_from : ℕ → ℕ → ℕ → List ℕ → WallText
edges_from zero m n [] = good [] []
edges_from zero m n (c ∷ s) = bad n
edges_from (suc k) m n [] = good [] []
edges_from (suc k) m n (c ∷ s) =
    elim (edge_at m (c ∷ s)) [ none ↦ bad n | some p ↦ and_edge p.0 (edges_from k m (suc n) p.1) ]

-- what stands behind "a line with #"
unfoldable pub hash_at : List ℕ → Option (List ℕ)
hash_at [] = none
hash_at (a ∷ []) = none
hash_at (a ∷ b ∷ s) = guard (eqb a 35) none (guard (eqb b 10) none (some s))

-- what stands behind the nodes below i, k more of them at most: # ends them. Node i stands on line i + 1; bad are "a missing `#`"
-- and "line 129 of the nodes"
unfoldable pub nodes_from : ℕ → ℕ → List ℕ → WallText
nodes_from zero i s = elim (hash_at s) [ none ↦ bad (suc i) | some t ↦ edges_from 1024 i (suc (suc i)) t ]
nodes_from (suc k) i s =
    elim (hash_at s) [
      | none ↦ elim (node_line_at i s) [ none ↦ bad (suc i) | some p ↦ and_node p.0 (nodes_from k (suc i) p.1) ]
      | some t ↦ edges_from 1024 i (suc (suc i)) t
    ]

-- "1 to 128 nodes": node 0 comes first
unfoldable pub read_text : List ℕ → WallText
read_text s = elim (node_line_at 0 s) [ none ↦ bad 1 | some p ↦ and_node p.0 (nodes_from 127 1 p.1) ]
