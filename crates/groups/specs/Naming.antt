-- Numbers for the nodes' names, by text ("their names have the same text").
use Rattle.std.specs.Prelude.{ℕ, ◌+◌, ◌-◌, ◌*◌, cond, List, length, nat_lt, slice_index}
use Rattle.store.specs.declared.ConflictNode.{ConflictNode}
use Rattle.store.specs.declared.ConflictNode.TheVariants as N
use Rattle.store.specs.Graph.{Graph, node_at}
use Rattle.records.specs.Tables.{Tables}
use Rattle.records.specs.Views.{name_text, solvable_name}
use Rattle.groups.specs.Firsts.{firsts_to}

-- the text of a solvable's name: "their names have the same text" (conflict.rs, lines 638 to 640)
abbrev pub name_of : Tables → ℕ → List ℕ
name_of T s = name_text T (solvable_name T s)

-- a node's name; for a node that is no solvable 128, which no record has: "name, a own number, text (128)"
abbrev pub name_of_node : Tables → ConflictNode → ℕ
name_of_node T N.Root = 128
name_of_node T (N.Solvable s) = solvable_name T s
name_of_node T N.UnresolvedDependency = 128
name_of_node T (N.Excluded r) = 128

-- the text of a node's name
unfoldable pub text_at : Tables → Graph → ℕ → List ℕ
text_at T G n = name_text T (name_of_node T (node_at G n))

-- the table of the first k nodes' numbers: a node's is the first node whose name has the same text. Entries behind stay.
unfoldable pub ids_to : Tables → Graph → ℕ → List ℕ → List ℕ
unfolding firsts_to text_at
ids_to T G k l = firsts_to (text_at T G) k l

-- what is compared before two texts are: the first byte and the last three, of a text of less than four bytes all
abbrev pub packed : ℕ → ℕ → ℕ → ℕ → ℕ
packed a b c d = a + 256 * b + 65536 * c + 16777216 * d

unfoldable pub key_of : List ℕ → ℕ
key_of t =
    cond (nat_lt (length t) 4) (packed (slice_index t 0) (slice_index t 1) (slice_index t 2) 0)
    (packed (slice_index t 0) (slice_index t (length t - 3)) (slice_index t (length t - 2)) (slice_index t (length t - 1)))
