-- The node list as numbers: one word a node.
use Rattle.std.specs.Prelude.{◌≡◌, refl, List, ℕ, zero, suc, ◌+◌, ◌*◌, ◌/◌, ◌%◌, ◌<◌, ◌≤◌, get_or, set}
use Rattle.std.proofs.Common.{add-one, arith}
use Rattle.store.specs.declared.ConflictNode.{ConflictNode}
use Rattle.store.specs.declared.ConflictNode.TheVariants as N
use Rattle.store.specs.declared.Size.{Size}
use Rattle.store.specs.Graph.{Graph, node_at, first_at}
use Rattle.store.specs.Numbers.{node_number}
use Rattle.store.specs.Table.{graph_in, node_in, first_in, Stored, node_in_lem, first_in_lem}
use Rattle.store.specs.Numbers.{node_kind}

-- "one entry a node, holding its kind, both labels and its group", and the clause that first added it: kind of 8 bits, number of 16, group,
-- installable and missing of 8 each, clause of 16; a mark is 1 for installable plus 2 for missing
unfoldable pub node_word : ConflictNode → ℕ → ℕ → ℕ → ℕ
node_word x mark lead first =
    node_kind x + 256 * node_number x + 16777216 * (lead % 256) + 4294967296 * (mark % 2) + 1099511627776 * (mark / 2 % 2) + 281474976710656 * first

-- the entries of the first k nodes; "entries past the last node stay as they were"
unfoldable pub entries_to : Graph → List ℕ → List ℕ → ℕ → List ℕ → List ℕ
entries_to G marks leads zero l = l
entries_to G marks leads (suc k) l = set (entries_to G marks leads k l) k (node_word (node_at G k) (get_or marks k 0) (get_or leads k 0) (first_at G k))

pub kind_small : (x : ConflictNode) → node_kind x < 4
kind_small N.Root = omega arith
kind_small (N.Solvable s) = omega arith
kind_small N.UnresolvedDependency = omega arith
kind_small (N.Excluded r) = omega arith

-- ---- the ways through the code

-- kind and number, as one number
abbrev pub node_part : ConflictNode → ℕ
node_part x = node_kind x + 256 * node_number x

module _ (x : ConflictNode) where
  pub part_root : x ≡ N.Root → 0 ≡ node_part x
  part_root e = rw e

  pub part_solvable : (s t : ℕ) → x ≡ N.Solvable s → t ≡ s → 1 + 256 * t ≡ node_part x
  part_solvable s t e q = rw (e, q)

  pub part_unresolved : x ≡ N.UnresolvedDependency → 2 ≡ node_part x
  part_unresolved e = rw e

  pub part_excluded : (r t : ℕ) → x ≡ N.Excluded r → t ≡ r → 3 + 256 * t ≡ node_part x
  part_excluded r t e q = rw (e, q)

pub entry_via : (y x : ConflictNode) (p m l c d a b f : ℕ) → p ≡ node_part y → y ≡ x → m ≡ a → l ≡ b → c ≡ d → d ≡ f
    → p + 16777216 * (l % 256) + 4294967296 * (m % 2) + 1099511627776 * (m / 2 % 2) + 281474976710656 * c ≡ node_word x a b f
unfolding node_word
entry_via y x p m l c d a b f e q i j k o = rw (e, q, i, j, k, o)

pub list_none : (G : Graph) (marks leads l : List ℕ) → l ≡ entries_to G marks leads 0 l
unfolding entries_to
list_none G marks leads l = refl

pub node_small : (g : List ℕ) (s : Size) (n : ℕ) → n < s.nodes → Stored g s → n < 128
node_small g s n h S = omega (arith, S.nodes_most)

pub list_next : (g : List ℕ) (s : Size) (marks leads words l : List ℕ) (n v : ℕ) → words ≡ entries_to (graph_in g s) marks leads n l → Stored g s → n < s.nodes
    → v ≡ node_word (node_in g n) (get_or marks n 0) (get_or leads n 0) (first_in g n) → set words n v ≡ entries_to (graph_in g s) marks leads (n + 1) l
unfolding entries_to
list_next g s marks leads words l n v q S h e = rw (add-one, q, e, node_in_lem g s S n h, first_in_lem g s S n h)

pub list_all : (G : Graph) (marks leads words l : List ℕ) (n k : ℕ) → words ≡ entries_to G marks leads n l → n ≤ k → k ≤ n → words ≡ entries_to G marks leads k l
list_all G marks leads words l n k q a b = let z : n ≡ k = omega arith in rw z at q
