-- What the recorded calls show that list nodes or edges, and what `check` does, when they are made again.
use Rattle.std.specs.Prelude.{◌≡◌, refl, List, [], ◌∷◌, ◌++◌, map, ℕ, zero, suc, ◌+◌, ◌-◌, ◌≤◌, length, take, drop, replicate}
use Rattle.std.proofs.Common.{sym, ap₂, ◌∙◌, arith, length-append, length-drop}
use Rattle.std.proofs.Math.Path.{ap}
use Rattle.std.proofs.Math.Numerals.{unary_clauses}
use Rattle.std.proofs.lemmas.List.{length-replicate, length-map}
use Rattle.std.proofs.Math.Seq.{take-append-add}
use Rattle.lists.specs.Entry.{node_entry_in, word_of, Narrows, entries_back}
use Rattle.lists.specs.declared.entries.NodeEntry.{NodeEntry}
use Rattle.lists.specs.Nodes.{Nodes, nodes_of, listed_by}
use Rattle.lists.specs.declared.nodes.Counted.{Counted}
use Rattle.lists.specs.Listed.{Listed, words_over, as_many, in_room}
use Rattle.calls.specs.declared.Answer.{Answer}
use Rattle.calls.specs.Answers.{check_of}
use Rattle.calls.specs.Nodes.{nodes_by, nodes_answer, list_over, nodes_left, answer_of}
use Rattle.calls.specs.Laws.Nodes.{answer_counted}
use Rattle.charts.specs.Edges.{edges_answer, edges_left}
use Rattle.again.specs.declared.Seen.{Seen}
use Rattle.again.specs.Sum.{sum_of, sum_entries, entries_at}
use Rattle.again.specs.Seen.{seen_of, blank_numbers, take_blank}

-- an entry of a lent list before a call: 165 in every byte of its word
abbrev pub blank_entry : NodeEntry
blank_entry = record { kind = 165; number = 42405; group = 165; installable = 165; missing = 165; clause = 42405 }

abbrev pub blank_list : ℕ → List NodeEntry
blank_list n = replicate n blank_entry

-- the node list in a list of n entries
unfoldable pub listed_in : List ℕ → ℕ → Seen
listed_in file n = seen_of (nodes_answer file n) (sum_entries (nodes_left file (blank_list n)))

-- the edges in the list `l`
unfoldable pub edged_in : List ℕ → List ℕ → Seen
edged_in file l = seen_of (edges_answer file (length l)) (sum_of (edges_left file l))

-- refusals 1 to 9, with nothing lent
unfoldable pub checked_in : List ℕ → Seen
checked_in file = seen_of (check_of file) (sum_of [])

-- ---- the ways through the code

pub edged_in_lem : (file l left : List ℕ) (a : Answer) (s : ℕ) (r : Seen) → a ≡ edges_answer file (length l) → left ≡ edges_left file l → s ≡ sum_of left
    → r ≡ seen_of a s → r ≡ edged_in file l
unfolding edged_in
edged_in_lem file l left a s r e k p q = rw (q, p, e, k)

drop_blank : {A : Type 0} (x : A) (k m : ℕ) → drop k (replicate m x) ≡ replicate (m - k) x
drop_blank x zero m = simp unary_clauses
drop_blank x (suc k) zero = let z : zero - suc k ≡ zero = omega arith in rw z
drop_blank x (suc k) (suc m) = simp unary_clauses (drop_blank x k m)

map_blank : (n w : ℕ) → map node_entry_in (replicate n w) ≡ replicate n (node_entry_in w)
map_blank zero w = refl
map_blank (suc n) w = ap (λ (t : List NodeEntry). node_entry_in w ∷ t) (map_blank n w)

map-append : (xs ys : List ℕ) → map node_entry_in (xs ++ ys) ≡ map node_entry_in xs ++ map node_entry_in ys
map-append [] ys = refl
map-append (x ∷ xs) ys = ap (λ (t : List NodeEntry). node_entry_in x ∷ t) (map-append xs ys)

pub edged_blank : (file : List ℕ) (n : ℕ) (r : Seen) → r ≡ edged_in file (take n (replicate 8192 42405)) → n ≤ 8192 → r ≡ edged_in file (blank_numbers n)
edged_blank file n r e l = rw (take_blank {A = ℕ} 42405 n 8192 l) at e

-- the words that the program starts from
abbrev blank_word : ℕ
blank_word = 11936128518282651045

abbrev pub blank_words : List ℕ
blank_words = replicate 128 11936128518282651045

-- entries as words over blank ones, read back
over_blank : (es : List NodeEntry) (ws : List ℕ) (n : ℕ) → ws ≡ words_over es blank_words → Narrows es → length es ≤ n → n ≤ 128
    → map node_entry_in (take n ws) ≡ es ++ drop (length es) (blank_list n)
over_blank es ws n e h k l =
    let a : List ℕ = map word_of es in
    let m : length a ≡ length es = length-map es word_of in
    let z : n ≡ length a + (n - length es) = omega arith in
    let b : take (n - length es) (replicate (128 - length es) blank_word) ≡ replicate (n - length es) blank_word =
    take_blank {A = ℕ} blank_word (n - length es) (128 - length es) (omega arith) in
    let t : take n ws ≡ a ++ replicate (n - length es) blank_word =
    ap (λ (x : List ℕ). take n x) e
    ∙ ap (λ (i : ℕ). take i (a ++ drop (length es) blank_words)) z
    ∙ take-append-add a (drop (length es) blank_words) (n - length es)
    ∙ ap (λ (x : List ℕ). a ++ take (n - length es) x) (drop_blank {A = ℕ} blank_word (length es) 128)
    ∙ ap (λ (x : List ℕ). a ++ x) b in
    ap (map node_entry_in) t
    ∙ map-append a (replicate (n - length es) blank_word)
    ∙ ap₂ (λ (x y : List NodeEntry). x ++ y) (entries_back es h) (map_blank (n - length es) blank_word)
    ∙ ap (λ (y : List NodeEntry). es ++ y) (sym (drop_blank blank_entry (length es) n))

module _ (X : Nodes) (n : ℕ) (c : Counted) (ws : List ℕ) (L : Listed X n blank_words c ws) where
  abbrev es : List NodeEntry
  es = listed_by X n

  many : length es ≡ c.count
  many = as_many X n blank_words c ws L

  pub words_length : length ws ≡ 128
  words_length =
      rw (L.written, length-append, length-map es word_of, length-drop (length es) blank_words)
      (let k : length es ≤ 128 = rw many L.few in omega (arith, length-replicate {A = ℕ} 128 blank_word))

  -- what the words show is the list that the call leaves
  words_left : n ≤ 128 → entries_at ws n ≡ list_over (listed_by X (length (blank_list n))) (blank_list n)
  unfolding entries_at
  words_left l =
      over_blank es ws n L.written L.narrow (rw many (in_room X n blank_words c ws L)) l
      ∙ ap (λ (k : ℕ). list_over (listed_by X k) (blank_list n)) (sym (length-replicate n blank_entry))

  -- so a list of nodes shows its answer and what it leaves
  pub nodes_shown : (a : Answer) (s : ℕ) (r : Seen) → s ≡ sum_entries (entries_at ws n) → n ≤ 128 → a ≡ answer_of c → r ≡ seen_of a s
      → r ≡ seen_of (nodes_by X n) (sum_entries (list_over (listed_by X (length (blank_list n))) (blank_list n)))
  nodes_shown a s r e l p q = q ∙ ap₂ seen_of (p ∙ ap answer_of L.counted ∙ answer_counted X n) (e ∙ ap sum_entries (words_left l))

pub listed_in_lem : (file : List ℕ) (n : ℕ) (c : Counted) (ws : List ℕ) → Listed (nodes_of file) n blank_words c ws → (a : Answer) (s : ℕ) (r : Seen)
    → s ≡ sum_entries (entries_at ws n) → n ≤ 128 → a ≡ answer_of c → r ≡ seen_of a s → r ≡ listed_in file n
unfolding listed_in nodes_answer nodes_left
listed_in_lem file n c ws L a s r e l p q = nodes_shown (nodes_of file) n c ws L a s r e l p q

pub checked_in_lem : (file : List ℕ) (a : Answer) (r : Seen) → a ≡ check_of file → r ≡ seen_of a 0 → r ≡ checked_in file
unfolding checked_in
checked_in_lem file a r e q = rw (q, e)
