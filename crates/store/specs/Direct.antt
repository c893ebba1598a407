-- Document 02, order 4: "Looking up a solvable's node walks all nodes. Keep a direct table and answer from that."
-- An edge's word takes 56 bits; the table lies above them, eight bits a place, in the 1,024 words for edges. A solvable or reason n has the
-- odd word 1 + 4 n or 3 + 4 n, and word 1 + 2 k has entry k: numbers below 512, while a file names solvables below 256 and reasons below 64.
use Rattle.std.specs.Prelude.{Result, Ok, Err, ◌≡◌, cond, List, ℕ, ◌+◌, ◌*◌, ◌/◌, ◌%◌, ◌<◌, get_or, set, ltb, leb, eqb}
use Rattle.store.specs.declared.Size.{Size}
use Rattle.store.specs.declared.Put.{Put}
use Rattle.store.specs.declared.Full.{Full}

abbrev pub entry_in : List ℕ → ℕ → ℕ
entry_in g k = get_or g k 0 / 72057594037927936

-- entry k is one more than the number of the node, of n, whose word without its clause is 1 + 2 k; 0 where no node has it
pub record Direct (g : List ℕ) (n : ℕ) : Type 0 where
  pub told : (i k : ℕ) → i < n → k < 1024 → get_or g (1024 + i) 0 % 262144 ≡ 1 + 2 * k → entry_in g k ≡ i + 1
  pub stands : (i k : ℕ) → k < 1024 → entry_in g k ≡ i + 1 → (i < n) × (get_or g (1024 + i) 0 % 262144 ≡ 1 + 2 * k)

-- the table with entry n for word w, where w has one
unfoldable pub entered : List ℕ → ℕ → ℕ → List ℕ
entered g w n =
    cond (leb 2048 w) g
    (cond (eqb (w % 2) 0) g (set g (w / 2) (get_or g (w / 2) 0 % 72057594037927936 + 72057594037927936 * n)))

-- how many nodes there are, of k, once node i is in
abbrev pub more : ℕ → ℕ → ℕ
more k i = cond (ltb i k) k (k + 1)

abbrev pub with_nodes : Size → ℕ → Size
with_nodes s n = record { nodes = n; edges = s.edges; hand = s.hand }

-- how adding a node went, by the number that it got: 128 where there is no room
unfoldable pub put_at : Size → ℕ → Result Put Full
put_at s i = cond (leb 128 i) (Err (record { size = s })) (Ok (record { place = i; size = with_nodes s (more s.nodes i) }))
