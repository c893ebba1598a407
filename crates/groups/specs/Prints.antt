-- The fingerprint: "a 32-bit fingerprint that adds up numbers made from their edges, with the sum allowed to wrap."
use Rattle.std.specs.Prelude.{◌≡◌, ℕ, ◌+◌, ◌*◌, ◌%◌, ◌^◌, ◌<◌, Bool, true, false, List, [], ◌∷◌, length, slice_index}
use Rattle.store.specs.Graph.{Graph}
use Rattle.groups.specs.Codes.{out_codes, in_codes}

-- "numbers made from their edges": of the code of an edge's key (requirement or none, other end) and its direction, d where it goes
-- out. They are squares, since sums of multiples are equal as soon as two edges swap their ends; odd and even tell the directions apart.
unfoldable pub mix_of : Bool → ℕ → ℕ
mix_of true k = (2 * k + 1) * (2 * k + 1) % 2 ^ 32
mix_of false k = (2 * k + 2) * (2 * k + 2) % 2 ^ 32

unfoldable pub total_of : Bool → List ℕ → ℕ
unfolding mix_of
total_of d [] = 0
total_of d (k ∷ l) = mix_of d k + total_of d l

-- a node's fingerprint: its outgoing and its incoming edges
unfoldable pub print_of : Graph → ℕ → ℕ
unfolding total_of out_codes in_codes
print_of G n = (total_of true (out_codes G n) + total_of false (in_codes G n)) % 2 ^ 32

-- a table that holds every node's
pub record Printed (G : Graph) (prints : List ℕ) : Type 0 where
  pub long : length prints ≡ 128
  pub print : (n : ℕ) → n < 128 → slice_index prints n ≡ print_of G n
