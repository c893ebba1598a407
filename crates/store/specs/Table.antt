-- What the table of words holds: edges from place 0 on, nodes from place 1024 on, above the edges the direct table of `Direct`. These two
-- files say where they stand.
use Rattle.std.specs.Prelude.{Result, Ok, Err, ◌≡◌, refl, true, false, List, [], ◌∷◌, map, ℕ, zero, suc, ◌+◌, ◌*◌, ◌/◌, ◌%◌, ◌<◌, ◌≤◌, length, get_or, take, drop, ltb, eqb}
use Rattle.std.proofs.Math.Path.{sym, ap}
use Rattle.std.proofs.Common.{◌∙◌, inl, inr, arith, length-drop, lt-ltb, le-ltb, get_or-take}
use Rattle.std.proofs.Math.ListN.{length-map, get_or-map}
use Rattle.basis.specs.Guard.{guard}
use Rattle.basis.specs.Members.{In}
use Rattle.std.proofs.Math.Seq.{get_or-drop, length-take-le}
use Rattle.store.specs.declared.ConflictNode.{ConflictNode}
use Rattle.store.specs.declared.ConflictNode.TheVariants as N
use Rattle.store.specs.declared.ConflictEdge.{ConflictEdge}
use Rattle.store.specs.declared.ConflictEdge.TheVariants as W
use Rattle.store.specs.declared.Edge.{Edge}
use Rattle.store.specs.declared.Size.{Size}
use Rattle.store.specs.declared.Put.{Put}
use Rattle.store.specs.declared.Full.{Full}
use Rattle.store.specs.Direct.{Direct}
use Rattle.store.specs.Graph.{Graph, handing, node_at, first_at, is_solvable, is_unresolved, is_excluded}
use Rattle.store.specs.Working.{AddedSoFar, added_to, full_at}
use Rattle.store.specs.Words.{word_of, node_of, first_clause, edge_word, edge_of, weight_of, by_kind, requirement_code}
use Rattle.store.specs.Words.{solvable_kind, unresolved_kind, requires_is, requires_none}
use Rattle.store.specs.Words.{excluded_is, excluded_not}
use Rattle.store.specs.Numbers.{node_number}

-- the words of the first k nodes
abbrev pub node_words : List ℕ → ℕ → List ℕ
node_words g k = take k (drop 1024 g)

-- the graph that a table holds
unfoldable pub graph_in : List ℕ → Size → Graph
graph_in g s =
    record {
      nodes = map node_of (node_words g s.nodes);
      edges = map edge_of (take s.edges g);
      firsts = map first_clause (node_words g s.nodes);
      hand = s.hand;
    }

-- edge e and node n, as the table holds them
unfoldable pub edge_in : List ℕ → ℕ → Edge
edge_in g e = edge_of (get_or g e 0)

unfoldable pub node_in : List ℕ → ℕ → ConflictNode
unfolding guard
node_in g n = guard (ltb n 128) N.Root (node_of (get_or g (1024 + n) 0))

-- the clause that first added node n
unfoldable pub first_in : List ℕ → ℕ → ℕ
unfolding guard
first_in g n = guard (ltb n 128) 65535 (first_clause (get_or g (1024 + n) 0))

-- what a read past the last edge gives
abbrev pub no_edge : Edge
no_edge = record { source = 0; target = 0; weight = W.Requires 0; clause = 0 }

-- the promise: within the limits, node 0 the root (its word 0 with clause 65,535 at 2^18), each word the one that its node and clause,
-- or its edge below 2^56, has, and 0 where there is none, and the direct table, so that the table is known from its graph; each edge's ends
-- numbers of nodes (a source is compared and chained, never looked up: it is below the limit)
pub record Stored (g : List ℕ) (s : Size) : Type 0 where
  pub long : length g ≡ 1152
  pub some : 1 ≤ s.nodes
  pub nodes_most : s.nodes ≤ 128
  pub edges_most : s.edges ≤ 1024
  pub root : get_or g 1024 0 ≡ 17179607040
  pub word : (i : ℕ) → i < s.nodes → word_of (node_of (get_or g (1024 + i) 0)) + 262144 * first_clause (get_or g (1024 + i) 0) ≡ get_or g (1024 + i) 0
  pub no_node : (i : ℕ) → s.nodes ≤ i → i < 128 → get_or g (1024 + i) 0 ≡ 0
  pub packed : (e : ℕ) → e < s.edges → edge_word (edge_of (get_or g e 0)) ≡ get_or g e 0 % 72057594037927936
  pub no_edge_lem : (e : ℕ) → s.edges ≤ e → e < 1024 → get_or g e 0 % 72057594037927936 ≡ 0
  pub source : (e : ℕ) → e < s.edges → get_or g e 0 % 256 < 128
  pub target : (e : ℕ) → e < s.edges → get_or g e 0 / 256 % 256 < s.nodes
  pub direct : Direct g s.nodes

-- while the graph grows, node 1 is `unresolved` (its word 2 with clause 65,535), and no two nodes have the same word, their clauses left out
pub record Growing (g : List ℕ) (s : Size) : Type 0 where
  pub stored : Stored g s
  pub two : 2 ≤ s.nodes
  pub second : get_or g 1025 0 ≡ 17179607042
  pub unlike : (i j : ℕ) → i < j → j < s.nodes → get_or g (1024 + i) 0 % 262144 ≡ get_or g (1024 + j) 0 % 262144 → ⊥

-- ---- the table with clause i at hand: no word changes

abbrev pub taken : Size → ℕ → Size
taken s i = record { nodes = s.nodes; edges = s.edges; hand = i }

pub taken_growing : (g : List ℕ) (s : Size) (i : ℕ) → Growing g s → Growing g (taken s i)
taken_growing g s i P =
    let S = P.stored in
    record {
      stored = record {
        long = S.long;
        some = S.some;
        nodes_most = S.nodes_most;
        edges_most = S.edges_most;
        root = S.root;
        word = S.word;
        no_node = S.no_node;
        packed = S.packed;
        no_edge_lem = S.no_edge_lem;
        source = S.source;
        target = S.target;
        direct = S.direct;
      };
      two = P.two;
      second = P.second;
      unlike = P.unlike;
    }

pub taken_graph : (g : List ℕ) (s : Size) (i : ℕ) → graph_in g (taken s i) ≡ handing i (graph_in g s)
unfolding graph_in
taken_graph g s i = refl

-- ---- how adding went, as the definitions say it

abbrev pub added_in : List ℕ → Result Put Full → AddedSoFar
added_in g (Ok p) = added_to p.place (graph_in g p.size)
added_in g (Err e) = full_at (graph_in g e.size)

abbrev pub size_of : Result Put Full → Size
size_of (Ok p) = p.size
size_of (Err e) = e.size

abbrev pub place_of : Result Put Full → ℕ
place_of (Ok p) = p.place
place_of (Err e) = 0

-- ---- the table read place by place

-- the default counts only past the end
get_d_default : (l : List ℕ) (n a b : ℕ) → n < length l → get_or l n a ≡ get_or l n b
get_d_default [] n a b h = let f : ⊥ = omega arith in absurd f
get_d_default (x ∷ l) zero a b h = refl
get_d_default (x ∷ l) (suc n) a b h = get_d_default l n a b (omega arith)

module _ (g : List ℕ) (s : Size) (S : Stored g s) where
  nodes_wide : s.nodes ≤ length (drop 1024 g)
  nodes_wide = rw length-drop (omega (arith, S.long, S.nodes_most))

  pub nodes_count : length (graph_in g s).nodes ≡ s.nodes
  unfolding graph_in
  nodes_count = length-map (node_words g s.nodes) node_of ∙ length-take-le s.nodes (drop 1024 g) nodes_wide

  pub edges_count : length (graph_in g s).edges ≡ s.edges
  unfolding graph_in
  edges_count = length-map (take s.edges g) edge_of ∙ length-take-le s.edges g (omega (arith, S.long, S.edges_most))

  pub node_in_lem : (n : ℕ) → n < s.nodes → node_in g n ≡ node_at (graph_in g s) n
  unfolding graph_in node_in guard
  node_in_lem n h =
      rw (lt-ltb n 128 (omega (arith, S.nodes_most)), guard)
      (sym (get_or-map node_of (node_words g s.nodes) n 0
      ∙ ap node_of (get_or-take s.nodes (drop 1024 g) n 0 h ∙ get_or-drop 1024 g n 0)))

  pub first_in_lem : (n : ℕ) → n < s.nodes → first_in g n ≡ first_at (graph_in g s) n
  unfolding graph_in first_in guard
  first_in_lem n h =
      rw (lt-ltb n 128 (omega (arith, S.nodes_most)), guard)
      (sym (get_d_default (map first_clause (node_words g s.nodes)) n 65535 0 (rw length-map (rw (length-take-le s.nodes (drop 1024 g) nodes_wide) h))
      ∙ get_or-map first_clause (node_words g s.nodes) n 0
      ∙ ap first_clause (get_or-take s.nodes (drop 1024 g) n 0 h ∙ get_or-drop 1024 g n 0)))

  pub edge_in_lem : (e : ℕ) → e < s.edges → edge_in g e ≡ get_or (graph_in g s).edges e no_edge
  unfolding graph_in edge_in
  edge_in_lem e h = sym (get_or-map edge_of (take s.edges g) e 0 ∙ ap edge_of (get_or-take s.edges g e 0 h))

  pub source_below : (e : ℕ) → e < s.edges → (edge_in g e).source < 128
  unfolding edge_in
  source_below e h = S.source e h

  pub target_below : (e : ℕ) → e < s.edges → (edge_in g e).target < s.nodes
  unfolding edge_in
  target_below e h = S.target e h

-- the ends of a stored edge are bytes
module _ (g : List ℕ) (s : Size) (e : Edge) where
  unpacked : (l : List ℕ) → In e (map edge_of l) → (e.source < 256) × (e.target < 256)
  unpacked [] i = absurd i
  unpacked (w ∷ l) (inl q) = rw q ((let z : w % 256 < 256 = omega arith in z), (let z : w / 256 % 256 < 256 = omega arith in z))
  unpacked (w ∷ l) (inr i) = unpacked l i

  pub source_byte : In e (graph_in g s).edges → e.source < 256
  unfolding graph_in
  source_byte i = (unpacked (take s.edges g) i).0

  pub target_byte : In e (graph_in g s).edges → e.target < 256
  unfolding graph_in
  target_byte i = (unpacked (take s.edges g) i).1

number_by : (k n : ℕ) → n < 65536 → node_number (by_kind k n) < 65536
number_by zero n h = omega arith
number_by (suc zero) n h = h
number_by (suc (suc zero)) n h = omega arith
number_by (suc (suc (suc k))) n h = h

-- a stored node's number is one of 16 bits
pub number_fits : (g : List ℕ) (s : Size) (n : ℕ) → node_number (node_at (graph_in g s) n) < 65536
unfolding graph_in
number_fits g s n =
    let w : ℕ = get_or (node_words g s.nodes) n 0 in
    rw (get_or-map node_of (node_words g s.nodes) n 0) (number_by (w % 4) (w / 4 % 65536) (omega arith))

-- ---- one word read, and what it tells; w is what the read gave

module _ (g : List ℕ) (e w : ℕ) (q : w ≡ get_or g e 0) where
  pub edge_read : (k : ConflictEdge) → k ≡ weight_of (w / 65536 % 256) (w / 16777216 % 65536)
      → record { source = w % 256; target = w / 256 % 256; weight = k; clause = w / 1099511627776 % 65536 } ≡ edge_in g e
  unfolding edge_in
  edge_read k p = rw (p, q)

  pub source_read : w % 256 ≡ (edge_in g e).source
  unfolding edge_in
  source_read = rw q

  pub target_read : w / 256 % 256 ≡ (edge_in g e).target
  unfolding edge_in
  target_read = rw q

  pub requires_read : w / 65536 % 256 ≡ 0 → w / 16777216 % 65536 + 1 ≡ requirement_code (edge_in g e).weight
  unfolding edge_in
  requires_read h = rw (← q) (requires_is (w / 65536 % 256) (w / 16777216 % 65536) h)

  pub requires_none_read : (w / 65536 % 256 ≡ 0 → ⊥) → 0 ≡ requirement_code (edge_in g e).weight
  unfolding edge_in
  requires_none_read h = rw (← q) (requires_none (w / 65536 % 256) (w / 16777216 % 65536) h)

  pub excluded_read : 3 < w / 65536 % 256 → true ≡ is_excluded (edge_in g e).weight
  unfolding edge_in
  excluded_read h = rw (← q) (excluded_is (w / 65536 % 256) (w / 16777216 % 65536) h)

  pub excluded_not_read : w / 65536 % 256 ≤ 3 → false ≡ is_excluded (edge_in g e).weight
  unfolding edge_in
  excluded_not_read h = rw (← q) (excluded_not (w / 65536 % 256) (w / 16777216 % 65536) h)

pub node_read : (g : List ℕ) (n w : ℕ) (x : ConflictNode) → w ≡ get_or g (1024 + n) 0 → x ≡ by_kind (w % 4) (w / 4 % 65536) → n < 128 → x ≡ node_in g n
unfolding node_in guard
node_read g n w x q p h = rw (lt-ltb n 128 h, guard) (rw q at p)

pub node_none : (g : List ℕ) (n : ℕ) → 128 ≤ n → N.Root ≡ node_in g n
unfolding node_in guard
node_none g n h = rw (le-ltb n 128 h, guard)

pub solvable_read : (g : List ℕ) (n w : ℕ) → w ≡ get_or g (1024 + n) 0 → n < 128 → eqb (w % 4) 1 ≡ is_solvable (node_in g n)
unfolding node_in guard
solvable_read g n w q h = rw (lt-ltb n 128 h, guard, ← q) (solvable_kind (w % 4) (w / 4 % 65536))

pub solvable_none : (g : List ℕ) (n : ℕ) → 128 ≤ n → false ≡ is_solvable (node_in g n)
solvable_none g n h = ap is_solvable (node_none g n h)

pub unresolved_read : (g : List ℕ) (n w : ℕ) → w ≡ get_or g (1024 + n) 0 → n < 128 → eqb (w % 4) 2 ≡ is_unresolved (node_in g n)
unfolding node_in guard
unresolved_read g n w q h = rw (lt-ltb n 128 h, guard, ← q) (unresolved_kind (w % 4) (w / 4 % 65536))

pub unresolved_none : (g : List ℕ) (n : ℕ) → 128 ≤ n → false ≡ is_unresolved (node_in g n)
unresolved_none g n h = ap is_unresolved (node_none g n h)

pub first_read : (g : List ℕ) (n w : ℕ) → w ≡ get_or g (1024 + n) 0 → n < 128 → w / 262144 % 65536 ≡ first_in g n
unfolding first_in guard
first_read g n w q h = rw (lt-ltb n 128 h, guard, q)

pub first_none : (g : List ℕ) (n : ℕ) → 128 ≤ n → 65535 ≡ first_in g n
unfolding first_in guard
first_none g n h = rw (le-ltb n 128 h, guard)

pub ruleset reads = (
  first_read,
  first_none,
  edge_read,
  source_read,
  target_read,
  requires_read,
  requires_none_read,
  excluded_read,
  excluded_not_read,
  node_read,
  node_none,
)

pub ruleset kind_reads = (solvable_read, solvable_none, unresolved_read, unresolved_none)
