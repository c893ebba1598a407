-- Small texts by computation, each with the wrong reader that it shuts out.
use Rattle.std.specs.Prelude.{◌≡◌, refl, [], ◌∷◌, ◌++◌, ℕ, replicate}
use Rattle.basis.specs.Guard.{guard}
use Rattle.basis.specs.Quote.{utf8}
use Rattle.tgf.specs.Lines.{Label, WallEdge}
use Rattle.tgf.specs.Read.{number_on, number_at, label_in, label_at, node_line_at, end_at, edge_at, good, bad, edges_from, hash_at, nodes_from, read_text}

abbrev edge : ℕ → ℕ → Label → WallEdge
edge a b l = record { source = a; target = b; label = l }

-- two nodes and an edge; labels keep every space: one cut at its first space would lose the rest
both : read_text (utf8 "0 <root>\n1 a 1\n#\n0 1 a  b \n") ≡ good (utf8 "<root>" ∷ utf8 "a 1" ∷ []) (edge 0 1 (utf8 "a  b ") ∷ [])
unfolding read_text guard number_on number_at label_in label_at node_line_at end_at edge_at edges_from hash_at nodes_from
both = refl

-- no edge
lone : read_text (utf8 "0 x\n#\n") ≡ good (utf8 "x" ∷ []) []
unfolding read_text guard number_on number_at label_in label_at node_line_at end_at edge_at edges_from hash_at nodes_from
lone = refl

-- a number with a leading zero would be taken
zero_first : read_text (utf8 "0 x\n01 y\n#\n") ≡ bad 2
unfolding read_text guard number_on number_at label_in label_at node_line_at end_at edge_at edges_from hash_at nodes_from
zero_first = refl

zero_end : read_text (utf8 "0 x\n#\n00 0 y\n") ≡ bad 3
unfolding read_text guard number_on number_at label_in label_at node_line_at end_at edge_at edges_from hash_at nodes_from
zero_end = refl

-- nothing at all, a node out of turn, no #
empty : read_text [] ≡ bad 1
unfolding read_text guard number_on number_at label_in label_at node_line_at
empty = refl

turn : read_text (utf8 "0 x\n2 y\n#\n") ≡ bad 2
unfolding read_text guard number_on number_at label_in label_at node_line_at end_at edge_at edges_from hash_at nodes_from
turn = refl

no_hash : read_text (utf8 "0 x\n1 y\n") ≡ bad 3
unfolding read_text guard number_on number_at label_in label_at node_line_at end_at edge_at edges_from hash_at nodes_from
no_hash = refl

-- an end that is no node, an unfinished last line
past : read_text (utf8 "0 x\n#\n0 1 y\n") ≡ bad 3
unfolding read_text guard number_on number_at label_in label_at node_line_at end_at edge_at edges_from hash_at nodes_from
past = refl

unfinished : read_text (utf8 "0 x\n#\n0 0 y") ≡ bad 3
unfolding read_text guard number_on number_at label_in label_at node_line_at end_at edge_at edges_from hash_at nodes_from
unfinished = refl

-- labels of 0, 49 and 50 bytes
none : read_text (utf8 "0 \n#\n") ≡ bad 1
unfolding read_text guard number_on number_at label_in label_at node_line_at end_at edge_at edges_from hash_at nodes_from
none = refl

long : read_text (utf8 "0 " ++ (replicate 49 126 ++ utf8 "\n#\n")) ≡ good (replicate 49 126 ∷ []) []
unfolding read_text guard number_on number_at label_in label_at node_line_at end_at edge_at edges_from hash_at nodes_from
long = refl

longer : read_text (utf8 "0 " ++ (replicate 50 126 ++ utf8 "\n#\n")) ≡ bad 1
unfolding read_text guard number_on number_at label_in label_at node_line_at end_at edge_at edges_from hash_at nodes_from
longer = refl
