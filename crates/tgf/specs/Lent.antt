-- What the reader answers and leaves in the lent lists (document 02, order 14).
use Rattle.std.specs.Prelude.{Bool, true, false, List, [], ◌∷◌, ℕ, suc, ◌+◌, ◌*◌, length, leb}
use Rattle.std.proofs.lemmas.List.Edits.{sets}
use Rattle.basis.specs.Guard.{guard}
use Rattle.tgf.specs.declared.Counts.{Counts}
use Rattle.tgf.specs.Lines.{Label, WallEdge, decimal, node_line, edge_line}
use Rattle.tgf.specs.Read.{WallText, good, bad}

abbrev pub is_good : WallText → Bool
is_good (good ns es) = true
is_good (bad n) = false

-- the labels of a good text, for `tgf_nodes`
abbrev pub labels_in : WallText → List Label
labels_in (good ns es) = ns
labels_in (bad n) = []

-- the edges of a good text, for `tgf_edges`
abbrev pub edges_read : WallText → List WallEdge
edges_read (good ns es) = es
edges_read (bad n) = []

-- "two numbers a node (where its label begins in the text, how long it is)", where node i's line stands at `at`
unfoldable pub node_spots : ℕ → ℕ → List Label → List ℕ
node_spots at i [] = []
node_spots at i (x ∷ xs) = (at + length (decimal i) + 1) ∷ length x ∷ node_spots (at + length (node_line i x)) (suc i) xs

-- the place behind the lines of the nodes, where the # of `hash_line` stands
unfoldable pub nodes_end : ℕ → ℕ → List Label → ℕ
nodes_end at i [] = at
nodes_end at i (x ∷ xs) = nodes_end (at + length (node_line i x)) (suc i) xs

-- "four an edge (source, target, label's begin and length)"
unfoldable pub edge_spots : ℕ → List WallEdge → List ℕ
edge_spots at [] = []
edge_spots at (e ∷ es) =
    e.source ∷ e.target ∷ (at + length (decimal e.source) + 1 + length (decimal e.target) + 1) ∷ length e.label
    ∷ edge_spots (at + length (edge_line e)) es

-- lists of a and of b numbers are lent: `worse` of "the first bad or missing line"; `short` for "Lists too short for a good text"; `done`
unfoldable pub tgf_by : {X : Type 0} → WallText → ℕ → ℕ → (ℕ → X) → X → X → X
tgf_by (bad n) a b worse short done = worse n
tgf_by (good ns es) a b worse short done = guard (leb (2 * length ns) a) short (guard (leb (4 * length es) b) short done)

-- a refusal's number and place, in `tgf_counts`
abbrev pub refused : ℕ → ℕ → Counts
refused k p = record { number = k; place = p; nodes = 0; edges = 0 }

-- "the reader gives 3 with the line number"; "Lists too short for a good text: 10, place 0, nothing changed"
abbrev pub tgf_counts : WallText → ℕ → ℕ → Counts
tgf_counts o a b = tgf_by o a b (refused 3) (refused 10 0) (record { number = 0; place = 0; nodes = length (labels_in o); edges = length (edges_read o) })

-- "The reader fills two numbers a node"; "nothing changed" on a refusal
abbrev pub tgf_nodes : WallText → List ℕ → ℕ → List ℕ
tgf_nodes o list b = tgf_by o (length list) b (λ n. list) list (sets list 0 (node_spots 0 0 (labels_in o)))

-- "and four an edge", behind the nodes and the line with #; "nothing changed" on a refusal
abbrev pub tgf_edges : WallText → ℕ → List ℕ → List ℕ
tgf_edges o a list = tgf_by o a (length list) (λ n. list) list (sets list 0 (edge_spots (nodes_end 0 0 (labels_in o) + 2) (edges_read o)))
