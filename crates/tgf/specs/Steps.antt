-- What the functions of the reader answer: values and places in the lent text for what the definition gives as values and rests.
use Rattle.std.specs.Prelude.{◌≡◌, Bool, true, false, List, [], ℕ, suc, ◌+◌, ◌≤◌, length, take, drop, set}
use Rattle.std.specs.Prelude.{Option as Maybe, Some, None, Result, Ok, Err}
use Rattle.std.proofs.Math.Option.{Option, none, some}
use Rattle.tgf.specs.declared.Part.{Part}
use Rattle.tgf.specs.declared.NodeLine.{NodeLine}
use Rattle.tgf.specs.declared.EdgeLine.{EdgeLine}
use Rattle.tgf.specs.declared.Seen.{Seen}
use Rattle.tgf.specs.Lines.{Label, WallEdge}
use Rattle.tgf.specs.Read.{WallText, good, bad, edges_from, read_text}
use Rattle.tgf.specs.Lent.{edges_read}

-- the text from a place on
unfoldable pub rest : ℕ → List ℕ → List ℕ
rest at text = drop at text

-- what an answer says
unfoldable pub number_out : List ℕ → Maybe Part → Option (ℕ × List ℕ)
number_out text None = none
number_out text (Some r) = some (r.value, rest r.next text)

unfoldable pub label_out : List ℕ → ℕ → Maybe Part → Option (Label × List ℕ)
label_out text at None = none
label_out text at (Some r) = some (take r.value (rest at text), rest r.next text)

unfoldable pub node_out : List ℕ → Maybe NodeLine → Option (Label × List ℕ)
node_out text None = none
node_out text (Some r) = some (take r.size (rest r.begin text), rest r.next text)

unfoldable pub edge_out : List ℕ → Maybe EdgeLine → Option (WallEdge × List ℕ)
edge_out text None = none
edge_out text (Some r) = some (record { source = r.source; target = r.target; label = take r.size (rest r.begin text) }, rest r.next text)

-- with i nodes and k edges counted before
abbrev pub seen_of : ℕ → ℕ → WallText → Result Seen ℕ
seen_of i k (good ns es) = Ok (record { nodes = i + length ns; edges = k + length es })
seen_of i k (bad n) = Err n

unfoldable pub edges_seen : List ℕ → ℕ → ℕ → Result Seen ℕ
edges_seen text from m = seen_of m 0 (edges_from 1024 m (suc (suc m)) (rest from text))

unfoldable pub hash_out : List ℕ → ℕ → Bool → Option (List ℕ)
hash_out text at r = elim r [ true ↦ some (rest (at + 2) text) | false ↦ none ]

-- two stores side by side
unfoldable pub two_put : List ℕ → ℕ → ℕ → ℕ → List ℕ
two_put list at a b = set (set list at a) (at + 1) b

-- r is the place of the # of a text with n nodes
pub record HashAt (text : List ℕ) (n r : ℕ) : Type 0 where
  pub edges : edges_from 1024 n (suc (suc n)) (rest (r + 2) text) ≡ good [] (edges_read (read_text text))
  pub within : r + 2 ≤ length text
  pub near : r ≤ 6912

-- the n edges of a text with m nodes stand from a place on
pub record EdgesAt (text : List ℕ) (m from n : ℕ) : Type 0 where
  pub edges : edges_from 1024 m (suc (suc m)) (rest from text) ≡ good [] (edges_read (read_text text))
  pub count : length (edges_read (read_text text)) ≡ n
  pub within : from ≤ length text
  pub near : from ≤ 6914
