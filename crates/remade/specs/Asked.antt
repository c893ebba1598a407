-- What the recorded questions of document 02, order 10, show when they are asked again: the nodes of the graph asked for.
use Rattle.std.specs.Prelude.{◌≡◌, cond, List, ℕ, ◌≤◌, ◌<◌, leb}
use Rattle.std.proofs.Common.{le-leb}
use Rattle.std.proofs.lemmas.Bool.{lt-leb}
use Rattle.lists.specs.declared.nodes.Counted.{Counted}
use Rattle.lists.specs.Listed.{Listed}
use Rattle.lists.specs.Asked.{asked_nodes}
use Rattle.calls.specs.declared.Answer.{Answer}
use Rattle.calls.specs.Nodes.{answer_of}
use Rattle.calls.specs.WhatIf.{what_if_answer, what_if_left}
use Rattle.again.specs.declared.Seen.{Seen}
use Rattle.again.specs.Sum.{sum_entries, entries_at}
use Rattle.again.specs.Seen.{seen_of, no_call}
use Rattle.remade.specs.Lists.{blank_list, blank_words, nodes_shown}

-- the nodes with one more exclusion, of solvable s for reason t, in a list of n entries
unfoldable pub asked_in : List ℕ → ℕ → ℕ → ℕ → Seen
asked_in file s t n = seen_of (what_if_answer file s t n) (sum_entries (what_if_left file s t (blank_list n)))

-- a list of at most 128 entries
unfoldable pub asks_in : List ℕ → ℕ → ℕ → ℕ → Seen
asks_in file s t n = cond (leb n 128) (asked_in file s t n) no_call

-- ---- the ways through the code

pub asked_in_lem : (file : List ℕ) (s t n : ℕ) (c : Counted) (ws : List ℕ) → Listed (asked_nodes file s t) n blank_words c ws → (a : Answer) (m : ℕ) (r : Seen)
    → m ≡ sum_entries (entries_at ws n) → n ≤ 128 → a ≡ answer_of c → r ≡ seen_of a m → r ≡ asked_in file s t n
unfolding asked_in what_if_answer what_if_left
asked_in_lem file s t n c ws L a m r e l p q = nodes_shown (asked_nodes file s t) n c ws L a m r e l p q

pub asks_short : (file : List ℕ) (s t n : ℕ) (r : Seen) → n ≤ 128 → r ≡ asked_in file s t n → r ≡ asks_in file s t n
unfolding asks_in
asks_short file s t n r l e = rw (le-leb n 128 l) e

pub asks_long : (file : List ℕ) (s t n : ℕ) (r : Seen) → 128 < n → r ≡ no_call → r ≡ asks_in file s t n
unfolding asks_in
asks_long file s t n r l e = rw (lt-leb n 128 l) e
