-- Refusal 17 (document 02, order 9): "17 for a cycle, place the lowest node on one". A node is on a cycle where it leads back to itself by
-- one edge or more, whatever kinds of edges these are: conflict edges count, and so does an edge from a node to itself.
use Rattle.std.specs.Prelude.{Bool, ◌&&◌, List, [], ◌∷◌, ℕ, length, eqb}
use Rattle.std.proofs.Math.Option.{Option}
use Rattle.basis.specs.Lists.{any, first, has, upto}
use Rattle.store.specs.Graph.{Graph, rounds}

-- "some node leads back to itself": an edge comes into n from a node that n leads to, itself among them
unfoldable pub on_cycle : Graph → ℕ → Bool
on_cycle G n = let seen = rounds (length G.nodes) G (n ∷ []) in any (λ e. eqb e.target n && has e.source seen) G.edges

-- "place the lowest node on one", by its number after unresolved may have gone
unfoldable pub cycle_of : Graph → Option ℕ
unfolding on_cycle
cycle_of G = first (on_cycle G) (upto (length G.nodes) 0)
