-- Links of one node to several solvables: answers as plain numbers, and what each says of how adding went.
use Rattle.std.specs.Prelude.{Result, Ok, Err, Bool, cond, List, ℕ, ◌+◌, ◌*◌, ◌-◌, ltb, leb}
use Rattle.store.specs.declared.Size.{Size}
use Rattle.store.specs.declared.Put.{Put}
use Rattle.store.specs.declared.Full.{Full}
use Rattle.store.specs.Direct.{entry_in, with_nodes}
use Rattle.store.specs.Keeping.{one_edge}

-- the entry of solvable c in the direct table, 0 where it has none
unfoldable pub known_at : List ℕ → ℕ → ℕ
known_at g c = cond (ltb c 512) (entry_in g (2 * c)) 0

-- how adding an edge went: whether there was no room
unfoldable pub edge_by : Size → Bool → Result Put Full
edge_by s b = cond b (Err (record { size = s })) (Ok (record { place = s.edges; size = one_edge s }))

-- how a link went: r is how many nodes it added, 0 or 1, and 2 more where there was no room
unfoldable pub linked_by : Size → ℕ → Result Put Full
linked_by s r =
    cond (leb 2 r) (Err (record { size = with_nodes s (s.nodes + (r - 2)) })) (Ok (record { place = s.edges; size = one_edge (with_nodes s (s.nodes + r)) }))
