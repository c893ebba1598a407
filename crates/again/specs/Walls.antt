-- What the recorded calls of document 02, order 14, show when they are made again: what is read back of a text of the wall display.
use Rattle.std.specs.Prelude.{◌≡◌, List, ℕ, ◌≤◌, length, take, replicate}
use Rattle.std.proofs.Common.{sym, ap, ap₂, ◌∙◌}
use Rattle.std.proofs.lemmas.List.{length-replicate}
use Rattle.tgf.specs.declared.Counts.{Counts}
use Rattle.tgf.specs.Read.{read_text}
use Rattle.tgf.specs.Lent.{tgf_counts, tgf_nodes, tgf_edges}
use Rattle.calls.specs.declared.Answer.{Answer}
use Rattle.again.specs.declared.Seen.{Seen}
use Rattle.again.specs.Sum.{sum_of}
use Rattle.again.specs.Seen.{seen_of, take_blank}

-- the counts of what was read back, in the fields of the others: nodes as units, edges as depth
abbrev pub counts_as : Counts → Answer
counts_as c = record { number = c.number; place = c.place; bytes = 0; units = c.nodes; depth = c.edges }

-- a list of numbers of 32 bits before a call: 165 in every byte
abbrev pub blank_wide : ℕ → List ℕ
blank_wide n = replicate n 2779096485

-- the text read into the lists ns and es: what the nodes' list shows, and what the edges' list does
unfoldable pub spots_in : List ℕ → List ℕ → List ℕ → Seen
spots_in text ns es = seen_of (counts_as (tgf_counts (read_text text) (length ns) (length es))) (sum_of (tgf_nodes (read_text text) ns (length es)))

unfoldable pub ends_in : List ℕ → List ℕ → List ℕ → Seen
ends_in text ns es = seen_of (counts_as (tgf_counts (read_text text) (length ns) (length es))) (sum_of (tgf_edges (read_text text) (length ns) es))

-- ---- the ways through the code

pub spots_in_lem : (text ns es left : List ℕ) (c : Counts) (a : Answer) (m : ℕ) (r : Seen) → c ≡ tgf_counts (read_text text) (length ns) (length es)
    → left ≡ tgf_nodes (read_text text) ns (length es) → a ≡ counts_as c → m ≡ sum_of left → r ≡ seen_of a m → r ≡ spots_in text ns es
unfolding spots_in
spots_in_lem text ns es left c a m r e k w p q = q ∙ ap₂ seen_of (w ∙ ap counts_as e) (p ∙ ap sum_of k)

pub ends_in_lem : (text ns es left : List ℕ) (c : Counts) (a : Answer) (m : ℕ) (r : Seen) → c ≡ tgf_counts (read_text text) (length ns) (length es)
    → left ≡ tgf_edges (read_text text) (length ns) es → a ≡ counts_as c → m ≡ sum_of left → r ≡ seen_of a m → r ≡ ends_in text ns es
unfolding ends_in
ends_in_lem text ns es left c a m r e k w p q = q ∙ ap₂ seen_of (w ∙ ap counts_as e) (p ∙ ap sum_of k)

-- a part of the program's list
pub prefix_wide : (n : ℕ) → n ≤ 65536 → n ≡ length (take n (replicate {A = ℕ} 65536 2779096485))
prefix_wide n l = sym (ap length (take_blank {A = ℕ} 2779096485 n 65536 l) ∙ length-replicate {A = ℕ} n 2779096485)

pub spots_blank : (text es : List ℕ) (n : ℕ) (r : Seen) → r ≡ spots_in text (take n (replicate 65536 2779096485)) es → n ≤ 65536
    → r ≡ spots_in text (blank_wide n) es
spots_blank text es n r e l = e ∙ ap (λ (x : List ℕ). spots_in text x es) (take_blank {A = ℕ} 2779096485 n 65536 l)

pub ends_blank : (text ns : List ℕ) (n : ℕ) (r : Seen) → r ≡ ends_in text ns (take n (replicate 65536 2779096485)) → n ≤ 65536 → r ≡ ends_in text ns (blank_wide n)
ends_blank text ns n r e l = e ∙ ap (ends_in text ns) (take_blank {A = ℕ} 2779096485 n 65536 l)
