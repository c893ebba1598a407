-- Document 01's cases P1, P3, P4 and P5, from the file's bytes to the outcome.
use Rattle.std.specs.Prelude.{◌≡◌, refl, List, [], ◌∷◌, ◌++◌, map, ℕ, ◌+◌, ◌-◌, ◌/◌, ◌%◌, length, replicate}
use Prim.Native.String.{String}
use Rattle.basis.specs.Lists.{concat_map, upto}
use Rattle.basis.specs.Quote.{utf8}
use Rattle.records.specs.Shapes.{cut, shape_of}
use Rattle.records.specs.Read.{read_from, read_of, Reading, good, bad}
use Rattle.records.specs.Views.{origin_of, clause_in, clause_of, assigned_by, candidates_of, gate_partners, aux_partners}
use Rattle.store.specs.Graph.{Graph, add_node, add_edge, add_link, settle, reached, unreached}
use Rattle.linking.specs.Links.{party_of, gate_reason, parent_reason, excluded_reason, partners_or, requirers, link_all, requires_of, excluded_links, lock_links}
use Rattle.linking.specs.Links.{constrains_links, forbid_all}
use Rattle.expansion.specs.Expand.{once, once_all, triples_of, others, pair, forbid, expand}
use Rattle.graph.specs.Graphs.{turn_at, build_from, build_of, Outcome, drawn, refused, reached_all, graph_of}

-- ---- records as bytes

abbrev le16 : ℕ → List ℕ
le16 n = n % 256 ∷ n / 256 ∷ []

-- kind, byte 1, a, b, c, text
abbrev rec : ℕ → ℕ → ℕ → ℕ → ℕ → List ℕ → List ℕ
rec k f a b c t = k ∷ f ∷ le16 a ++ le16 b ++ le16 c ++ t ++ replicate (24 - length t) 0

abbrev texted : ℕ → ℕ → ℕ → String → List ℕ
texted k a b s = let t = utf8 s in rec k (length t) a b 0 t

-- a Learnt clause, in the core or outside
abbrev learnt : ℕ → List ℕ
learnt core = rec 18 core 0 0 0 []

-- the root requires "x *", whose candidates are n solvables: n + 2 nodes with unresolved, which counts though it goes
abbrev many : ℕ → List ℕ
many n =
    texted 1 0 0 "x" ++ concat_map (λ i. rec 2 2 i 0 0 ((65 + i / 16) ∷ (65 + i % 16) ∷ [])) (upto n 0) ++ texted 4 0 0 "x *"
    ++ concat_map (λ i. rec 5 0 0 i 0 []) (upto n 0) ++ rec 7 0 0 0 0 [] ++ rec 19 1 0 0 0 []

-- the root requires x; solvable y requires what has no candidate, and no edge leads to y
abbrev apart : List ℕ
apart =
    texted 1 0 0 "x" ++ texted 1 1 0 "y" ++ texted 2 0 0 "1" ++ texted 2 1 1 "1" ++ texted 4 0 0 "x" ++ texted 4 1 0 "y" ++ rec 5 0 0 0 0 []
    ++ rec 7 0 0 0 0 [] ++ rec 7 0 1 1 1 [] ++ rec 19 1 0 0 0 [] ++ rec 19 1 1 1 0 []

-- ---- what comes of a file: 0, nodes and edges of a drawn graph, or the refusal and its place

abbrev told : Outcome → List ℕ
told (drawn g) = 0 ∷ length g.nodes ∷ length g.edges ∷ []
told (refused k i) = k ∷ i ∷ []

abbrev told_of : Reading → List ℕ
told_of (good T) = told (graph_of T)
told_of (bad k i) = k ∷ i ∷ []

-- P1 no records; P3 Learnt in the core, and outside; P4 node 128, and 129; P5 a solvable reached by no edge path; the lowest such node is
-- unresolved, which y's edge keeps
pub cases :
    map (λ f. told_of (read_of f)) ([] ∷ learnt 1 ∷ learnt 0 ∷ many 126 ∷ many 127 ∷ apart ∷ [])
    ≡ (0 ∷ 1 ∷ 0 ∷ []) ∷ (7 ∷ 0 ∷ []) ∷ (0 ∷ 1 ∷ 0 ∷ []) ∷ (0 ∷ 127 ∷ 126 ∷ []) ∷ (8 ∷ 0 ∷ []) ∷ (9 ∷ 1 ∷ []) ∷ []
unfolding read_of read_from cut shape_of origin_of clause_in clause_of assigned_by candidates_of gate_partners aux_partners add_node add_edge add_link settle reached
    unreached party_of gate_reason parent_reason excluded_reason partners_or requirers link_all requires_of excluded_links lock_links constrains_links forbid_all once
    once_all triples_of others pair forbid expand turn_at build_from build_of reached_all graph_of
cases = refl
