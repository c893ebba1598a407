-- The pass that judges and counts, beside the definition: what is left of the text, with what was counted so far, says what the
-- whole says.
use Rattle.std.specs.Prelude.{◌≡◌, refl, Bool, true, false, length, get_or, drop}
use Rattle.std.specs.Prelude.{Option as Maybe, Some, None, Result, Ok, Err}
use Rattle.std.proofs.Math.Path.{sym, ap}
use Rattle.std.proofs.Common.{◌∙◌, drop_of_length-le, drop-cons, ne_eqb}
use mathlib.Core.List.{List, [], ◌∷◌}
use Rattle.std.proofs.Math.Option.{none, some}
use Prim.Native.Nat.{ℕ, zero, suc, ◌+◌, ◌-◌, ◌≤◌, ◌<◌}
use native.Mathlib.Omega.{arith}
use Rattle.std.proofs.Math.Numerals.{add-one}
use Rattle.std.proofs.Math.ListN.{take, length-drop}
use Rattle.basis.specs.Guard.{guard}
use Rattle.tgf.specs.declared.NodeLine.{NodeLine}
use Rattle.tgf.specs.declared.EdgeLine.{EdgeLine}
use Rattle.tgf.specs.declared.Seen.{Seen}
use Rattle.tgf.specs.Lines.{Label, WallEdge}
use Rattle.tgf.specs.Read.{node_line_at, edge_at, WallText, good, bad, and_node, and_edge, edges_from, hash_at, nodes_from, read_text}
use Rattle.tgf.specs.Steps.{rest, node_out, edge_out, seen_of, edges_seen, hash_out}

and_edge_lem : (i k : ℕ) (e : WallEdge) (o : WallText) → seen_of i k (and_edge e o) ≡ seen_of i (k + 1) o
and_edge_lem i k e (good ns es) = let z : k + suc (length es) ≡ k + 1 + length es = omega arith in rw z
and_edge_lem i k e (bad n) = refl

and_node_lem : (i k : ℕ) (x : Label) (o : WallText) → seen_of i k (and_node x o) ≡ seen_of (i + 1) k o
and_node_lem i k x (good ns es) = let z : i + suc (length ns) ≡ i + 1 + length ns = omega arith in rw z
and_node_lem i k x (bad n) = refl

-- ---- edges

-- k edges were read, and the rest from `at` on says what the whole says
unfoldable pub EdgesLeft : List ℕ → ℕ → ℕ → ℕ → Result Seen ℕ → Type 0
EdgesLeft text m at k w = seen_of m k (edges_from (1024 - k) m (m + 2 + k) (rest at text)) ≡ w

rest_out : (text : List ℕ) (at : ℕ) → length text ≤ at → rest at text ≡ []
unfolding rest
rest_out text at h = drop_of_length-le text h

rest_in : (text : List ℕ) (at : ℕ) → at < length text → rest at text ≡ get_or text at 0 ∷ rest (at + 1) text
unfolding rest
rest_in text at h = rw add-one (drop-cons text at 0 h)

edges_nil : (k m n : ℕ) → edges_from k m n [] ≡ good [] []
unfolding edges_from
edges_nil zero m n = refl
edges_nil (suc k) m n = refl

edges_full : (m n c : ℕ) (s : List ℕ) → edges_from 0 m n (c ∷ s) ≡ bad n
unfolding edges_from
edges_full m n c s = refl

edges_bad : (k m n c : ℕ) (s : List ℕ) → edge_at m (c ∷ s) ≡ none → edges_from (suc k) m n (c ∷ s) ≡ bad n
unfolding edges_from
edges_bad k m n c s e = rw (e, edges_from)

edges_good : (k m n c : ℕ) (s : List ℕ) (p : WallEdge × List ℕ) → edge_at m (c ∷ s) ≡ some p
    → edges_from (suc k) m n (c ∷ s) ≡ and_edge p.0 (edges_from k m (suc n) p.1)
unfolding edges_from
edges_good k m n c s p e = rw (e, edges_from)

edge_some : (text : List ℕ) (o : Maybe EdgeLine) (r : EdgeLine) → o ≡ Some r → (e : WallEdge) × (edge_out text o ≡ some (e, rest r.next text))
unfolding edge_out
edge_some text o r t = (record { source = r.source; target = r.target; label = take r.size (rest r.begin text) }, rw t refl)

edge_none : (text : List ℕ) (o : Maybe EdgeLine) → o ≡ None → edge_out text o ≡ none
unfolding edge_out
edge_none text o t = rw t refl

module _ (text : List ℕ) (m : ℕ) where
  pub edges_start : (from : ℕ) → EdgesLeft text m from 0 (edges_seen text from m)
  unfolding EdgesLeft edges_seen
  edges_start from = let z : m + 2 + 0 ≡ suc (suc m) = omega arith in rw z

  module _ (at k : ℕ) (w : Result Seen ℕ) (inv : EdgesLeft text m at k w) where
    pub edges_end : length text ≤ at → Ok (record { nodes = m; edges = k }) ≡ w
    unfolding EdgesLeft
    edges_end h =
        let a : m + 0 ≡ m = omega arith in
        let b : k + 0 ≡ k = omega arith in
        let o : edges_from (1024 - k) m (m + 2 + k) (rest at text) ≡ good [] [] = ap (edges_from (1024 - k) m (m + 2 + k)) (rest_out text at h)
        ∙ edges_nil (1024 - k) m (m + 2 + k) in
        rw (a, b) at (sym (ap (seen_of m k) o) ∙ inv)

    pub edges_many : at < length text → 1024 ≤ k → Err (m + 2 + k) ≡ w
    unfolding EdgesLeft
    edges_many h g =
        let z : 1024 - k ≡ 0 = omega arith in
        sym (ap (seen_of m k) (ap (λ (j : ℕ). edges_from j m (m + 2 + k) (rest at text)) z ∙ ap (edges_from 0 m (m + 2 + k)) (rest_in text at h)
        ∙ edges_full m (m + 2 + k) _ _)) ∙ inv

    module _ (o : Maybe EdgeLine) where
      pub edges_stop : o ≡ None → edge_out text o ≡ edge_at m (rest at text) → at < length text → k < 1024
          → Err (m + 2 + k) ≡ w
      unfolding EdgesLeft
      edges_stop t q h g =
          let z : 1024 - k ≡ suc (1024 - (k + 1)) = omega arith in
          let e : edge_at m (get_or text at 0 ∷ rest (at + 1) text) ≡ none = ap (edge_at m) (sym (rest_in text at h)) ∙ sym q ∙ edge_none text o t in
          sym (ap (seen_of m k) (ap (λ (j : ℕ). edges_from j m (m + 2 + k) (rest at text)) z
          ∙ ap (edges_from (suc (1024 - (k + 1))) m (m + 2 + k)) (rest_in text at h) ∙ edges_bad (1024 - (k + 1)) m (m + 2 + k) _ _ e)) ∙ inv

      pub edges_next : (r : EdgeLine) → o ≡ Some r → edge_out text o ≡ edge_at m (rest at text) → at < length text → k < 1024 → EdgesLeft text m r.next (k + 1) w
      unfolding EdgesLeft
      edges_next r t q h g =
          let z : 1024 - k ≡ suc (1024 - (k + 1)) = omega arith in
          let y : suc (m + 2 + k) ≡ m + 2 + (k + 1) = omega arith in
          let f = edge_some text o r t in
          let e : edge_at m (get_or text at 0 ∷ rest (at + 1) text) ≡ some (f.0, rest r.next text) = ap (edge_at m) (sym (rest_in text at h)) ∙ sym q ∙ f.1 in
          sym (and_edge_lem m k f.0 (edges_from (1024 - (k + 1)) m (m + 2 + (k + 1)) (rest r.next text)))
          ∙ ap (λ (j : ℕ). seen_of m k (and_edge f.0 (edges_from (1024 - (k + 1)) m j (rest r.next text)))) (sym y)
          ∙ sym (ap (seen_of m k) (ap (λ (j : ℕ). edges_from j m (m + 2 + k) (rest at text)) z
          ∙ ap (edges_from (suc (1024 - (k + 1))) m (m + 2 + k)) (rest_in text at h)
          ∙ edges_good (1024 - (k + 1)) m (m + 2 + k) _ _ (f.0, rest r.next text) e)) ∙ inv

-- ---- #

hash_few : (s : List ℕ) → length s < 2 → hash_at s ≡ none
unfolding hash_at
hash_few [] h = refl
hash_few (a ∷ []) h = refl
hash_few (a ∷ b ∷ s) h = let z : ⊥ = omega arith in absurd z

hash_first : (a b : ℕ) (s : List ℕ) → (a ≡ 35 → ⊥) → hash_at (a ∷ b ∷ s) ≡ none
unfolding hash_at guard
hash_first a b s e = rw (ne_eqb a 35 e)

hash_second : (b : ℕ) (s : List ℕ) → (b ≡ 10 → ⊥) → hash_at (35 ∷ b ∷ s) ≡ none
unfolding hash_at guard
hash_second b s e = rw (ne_eqb b 10 e)

hash_both : (s : List ℕ) → hash_at (35 ∷ 10 ∷ s) ≡ some s
unfolding hash_at guard
hash_both s = refl

module _ (text : List ℕ) (at : ℕ) where
  two : at + 2 ≤ length text → rest at text ≡ get_or text at 0 ∷ get_or text (at + 1) 0 ∷ rest (at + 2) text
  two h =
      let z : at + 1 + 1 ≡ at + 2 = omega arith in rest_in text at (omega arith)
      ∙ ap (λ (l : List ℕ). get_or text at 0 ∷ l) (rest_in text (at + 1) (omega arith) ∙ ap (λ (n : ℕ). get_or text (at + 1) 0 ∷ rest n text) z)

  pub hash_short : length text < at + 2 → hash_out text at false ≡ hash_at (rest at text)
  unfolding hash_out rest
  hash_short h = sym (hash_few (drop at text) (rw length-drop (omega arith)))

  pub hash_no_a : (a : ℕ) → at + 2 ≤ length text → a ≡ get_or text at 0 → (a ≡ 35 → ⊥) → hash_out text at false ≡ hash_at (rest at text)
  unfolding hash_out
  hash_no_a a h q e = rw (two h, ← q) (sym (hash_first a _ _ e))

  pub hash_no_b : (a b : ℕ) → at + 2 ≤ length text → a ≡ 35 → a ≡ get_or text at 0 → b ≡ get_or text (at + 1) 0 → (b ≡ 10 → ⊥)
      → hash_out text at false ≡ hash_at (rest at text)
  unfolding hash_out
  hash_no_b a b h z q p e = rw (two h, ← q, ← p, z) (sym (hash_second b _ e))

  pub hash_yes : (a b : ℕ) → at + 2 ≤ length text → a ≡ 35 → a ≡ get_or text at 0 → b ≡ 10 → b ≡ get_or text (at + 1) 0
      → hash_out text at true ≡ hash_at (rest at text)
  unfolding hash_out
  hash_yes a b h z q y p = rw (two h, ← q, ← p, z, y) (sym (hash_both _))

-- ---- nodes

-- i nodes were read, and the rest from `at` on says what the whole says
unfoldable pub NodesLeft : List ℕ → ℕ → ℕ → Result Seen ℕ → Type 0
NodesLeft text at i w = seen_of i 0 (nodes_from (128 - i) i (rest at text)) ≡ w

from_hash : (k i : ℕ) (s t : List ℕ) → hash_at s ≡ some t → nodes_from k i s ≡ edges_from 1024 i (suc (suc i)) t
unfolding nodes_from
from_hash zero i s t h = rw (h, nodes_from)
from_hash (suc k) i s t h = rw (h, nodes_from)

from_full : (i : ℕ) (s : List ℕ) → hash_at s ≡ none → nodes_from 0 i s ≡ bad (suc i)
unfolding nodes_from
from_full i s h = rw (h, nodes_from)

from_bad : (k i : ℕ) (s : List ℕ) → hash_at s ≡ none → node_line_at i s ≡ none → nodes_from (suc k) i s ≡ bad (suc i)
unfolding nodes_from
from_bad k i s h e = rw (h, nodes_from, e)

from_good : (k i : ℕ) (s : List ℕ) (p : Label × List ℕ) → hash_at s ≡ none → node_line_at i s ≡ some p
    → nodes_from (suc k) i s ≡ and_node p.0 (nodes_from k (suc i) p.1)
unfolding nodes_from
from_good k i s p h e = rw (h, nodes_from, e)

node_some : (text : List ℕ) (o : Maybe NodeLine) (r : NodeLine) → o ≡ Some r → node_out text o ≡ some (take r.size (rest r.begin text), rest r.next text)
unfolding node_out
node_some text o r t = rw t refl

node_none : (text : List ℕ) (o : Maybe NodeLine) → o ≡ None → node_out text o ≡ none
unfolding node_out
node_none text o t = rw t refl

hash_none : (text : List ℕ) (at : ℕ) (b : Bool) → hash_out text at b ≡ hash_at (rest at text) → b ≡ false → hash_at (rest at text) ≡ none
unfolding hash_out
hash_none text at b q e = sym q ∙ rw (e, hash_out)

hash_some : (text : List ℕ) (at : ℕ) (b : Bool) → hash_out text at b ≡ hash_at (rest at text) → b ≡ true → hash_at (rest at text) ≡ some (rest (at + 2) text)
unfolding hash_out
hash_some text at b q e = sym q ∙ rw (e, hash_out)

read_none : (s : List ℕ) → node_line_at 0 s ≡ none → read_text s ≡ bad 1
unfolding read_text
read_none s e = rw (e, read_text)

read_some : (s : List ℕ) (p : Label × List ℕ) → node_line_at 0 s ≡ some p → read_text s ≡ and_node p.0 (nodes_from 127 1 p.1)
unfolding read_text
read_some s p e = rw (e, read_text)

rest_all : (text : List ℕ) → rest 0 text ≡ text
unfolding rest
rest_all text = refl

module _ (text : List ℕ) where
  module _ (o : Maybe NodeLine) (q : node_out text o ≡ node_line_at 0 (rest 0 text)) where
    node_zero : node_line_at 0 text ≡ node_out text o
    node_zero = ap (node_line_at 0) (sym (rest_all text)) ∙ sym q

    pub count_none : o ≡ None → Err 1 ≡ seen_of 0 0 (read_text text)
    count_none t = sym (ap (seen_of 0 0) (read_none text (node_zero ∙ node_none text o t)))

    pub count_start : (f : NodeLine) → o ≡ Some f → NodesLeft text f.next 1 (seen_of 0 0 (read_text text))
    unfolding NodesLeft
    count_start f t =
        sym (ap (seen_of 0 0) (read_some text _ (node_zero ∙ node_some text o f t))
        ∙ and_node_lem 0 0 (take f.size (rest f.begin text)) (nodes_from 127 1 (rest f.next text)))

  module _ (at i : ℕ) (w : Result Seen ℕ) (inv : NodesLeft text at i w) (b : Bool) (q : hash_out text at b ≡ hash_at (rest at text)) where
    pub nodes_hash : (r : Result Seen ℕ) → b ≡ true → r ≡ edges_seen text (at + 2) i → r ≡ w
    unfolding NodesLeft edges_seen
    nodes_hash r t e = e ∙ sym (ap (seen_of i 0) (from_hash (128 - i) i (rest at text) (rest (at + 2) text) (hash_some text at b q t))) ∙ inv

    pub nodes_many : b ≡ false → 128 ≤ i → Err (i + 1) ≡ w
    unfolding NodesLeft
    nodes_many t g =
        let z : 128 - i ≡ 0 = omega arith in
        rw add-one (sym (ap (seen_of i 0) (ap (λ (j : ℕ). nodes_from j i (rest at text)) z ∙ from_full i (rest at text) (hash_none text at b q t))) ∙ inv)

    module _ (o : Maybe NodeLine) where
      pub nodes_stop : o ≡ None → node_out text o ≡ node_line_at i (rest at text) → b ≡ false → i < 128
          → Err (i + 1) ≡ w
      unfolding NodesLeft
      nodes_stop e p t g =
          let z : 128 - i ≡ suc (128 - (i + 1)) = omega arith in
          rw add-one (sym (ap (seen_of i 0) (ap (λ (j : ℕ). nodes_from j i (rest at text)) z
          ∙ from_bad (128 - (i + 1)) i (rest at text) (hash_none text at b q t) (sym p ∙ node_none text o e))) ∙ inv)

      pub nodes_next : (x : NodeLine) → o ≡ Some x → node_out text o ≡ node_line_at i (rest at text) → b ≡ false → i < 128 → NodesLeft text x.next (i + 1) w
      unfolding NodesLeft
      nodes_next x e p t g =
          let z : 128 - i ≡ suc (128 - (i + 1)) = omega arith in
          let l = take x.size (rest x.begin text) in
          sym (and_node_lem i 0 l (nodes_from (128 - (i + 1)) (i + 1) (rest x.next text)))
          ∙ ap (λ (j : ℕ). seen_of i 0 (and_node l (nodes_from (128 - (i + 1)) j (rest x.next text)))) (add-one i)
          ∙ sym (ap (seen_of i 0) (ap (λ (j : ℕ). nodes_from j i (rest at text)) z
          ∙ from_good (128 - (i + 1)) i (rest at text) (l, rest x.next text) (hash_none text at b q t) (sym p ∙ node_some text o x e))) ∙ inv
