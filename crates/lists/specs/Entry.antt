-- What a node's word says, and a list filled with the entries of a table of words.
use Rattle.std.specs.Prelude.{◌≡◌, refl, List, [], ◌∷◌, ◌++◌, map, ℕ, zero, suc, ◌+◌, ◌*◌, ◌/◌, ◌%◌, ◌≤◌, ◌<◌, min, length, get_or, take, drop, set}
use Rattle.std.proofs.Common.{sym, ◌∙◌, ap, arith, length-set, length-take, take-suc, drop-cons, length-take-le}
use Rattle.std.proofs.lemmas.List.{length-map, set_at}
use Rattle.std.proofs.Math.Seq.{append_snoc}
use Rattle.lists.specs.declared.entries.NodeEntry.{NodeEntry}

-- "kind and number as in `ConflictNode`, 0 where it has none; group the node number of its first member", "both labels", "the clause that
-- first added it"
abbrev pub node_entry_in : ℕ → NodeEntry
node_entry_in w =
    record {
      kind = w % 256;
      number = w / 256 % 65536;
      group = w / 16777216 % 256;
      installable = w / 4294967296 % 256;
      missing = w / 1099511627776 % 256;
      clause = w / 281474976710656 % 65536;
    }

-- an entry as one word, its first field lowest
abbrev pub word_of : NodeEntry → ℕ
word_of e = e.kind + 256 * e.number + 16777216 * e.group + 4294967296 * e.installable + 1099511627776 * e.missing + 281474976710656 * e.clause

-- each field keeps to its width in the word: 16 bits for a number and a clause, 8 for the others
pub record Narrow (e : NodeEntry) : Type 0 where
  pub kind_fits : e.kind < 256
  pub number_fits : e.number < 65536
  pub group_fits : e.group < 256
  pub installable_fits : e.installable < 256
  pub missing_fits : e.missing < 256
  pub clause_fits : e.clause < 65536

module _ (k n g i m c : ℕ) (hk : k < 256) (hn : n < 65536) (hg : g < 256) (hi : i < 256) (hm : m < 256) (hc : c < 65536) where
  abbrev word : ℕ
  word = k + 256 * n + 16777216 * g + 4294967296 * i + 1099511627776 * m + 281474976710656 * c

  at_kind : word % 256 ≡ k
  at_kind = omega (arith, hk)

  at_number : word / 256 % 65536 ≡ n
  at_number =
      let q : word / 256 ≡ n + 65536 * g + 16777216 * i + 4294967296 * m + 1099511627776 * c = omega (arith, hk) in
      let r : (n + 65536 * g + 16777216 * i + 4294967296 * m + 1099511627776 * c) % 65536 ≡ n = omega (arith, hn) in
      rw q r

  at_group : word / 16777216 % 256 ≡ g
  at_group =
      let q : word / 16777216 ≡ g + 256 * i + 65536 * m + 16777216 * c = omega (arith, hk, hn) in
      let r : (g + 256 * i + 65536 * m + 16777216 * c) % 256 ≡ g = omega (arith, hg) in
      rw q r

  at_installable : word / 4294967296 % 256 ≡ i
  at_installable =
      let q : word / 4294967296 ≡ i + 256 * m + 65536 * c = omega (arith, hk, hn, hg) in
      let r : (i + 256 * m + 65536 * c) % 256 ≡ i = omega (arith, hi) in
      rw q r

  at_missing : word / 1099511627776 % 256 ≡ m
  at_missing =
      let q : word / 1099511627776 ≡ m + 256 * c = omega (arith, hk, hn, hg, hi) in
      let r : (m + 256 * c) % 256 ≡ m = omega (arith, hm) in
      rw q r

  at_clause : word / 281474976710656 % 65536 ≡ c
  at_clause =
      let q : word / 281474976710656 ≡ c = omega (arith, hk, hn, hg, hi, hm) in
      let r : c % 65536 ≡ c = omega (arith, hc) in
      rw q r

  fields_back : node_entry_in word ≡ record { kind = k; number = n; group = g; installable = i; missing = m; clause = c }
  fields_back = rw (at_kind, at_number, at_group, at_installable, at_missing, at_clause)

-- what is packed comes back
pub entry_word : (e : NodeEntry) → Narrow e → node_entry_in (word_of e) ≡ e
entry_word e h =
    fields_back e.kind e.number e.group e.installable e.missing e.clause h.kind_fits h.number_fits h.group_fits h.installable_fits
    h.missing_fits h.clause_fits

-- the entry of word i
unfoldable pub entry_in : List ℕ → ℕ → NodeEntry
entry_in ws i = node_entry_in (get_or ws i 0)

-- the first n entries are those of the words, and "entries past the last node stay as they were"
abbrev pub fill_to : List ℕ → ℕ → List NodeEntry → List NodeEntry
fill_to ws zero l = l
fill_to ws (suc i) l = set (fill_to ws i l) i (entry_in ws i)

pub at_word : (ws : List ℕ) (i w : ℕ) → w ≡ get_or ws i 0 → node_entry_in w ≡ entry_in ws i
unfolding entry_in
at_word ws i w e = ap node_entry_in e

pub length_fill_to : (ws : List ℕ) (n : ℕ) (l : List NodeEntry) → length (fill_to ws n l) ≡ length l
length_fill_to ws zero l = refl
length_fill_to ws (suc i) l = length-set (fill_to ws i l) i (entry_in ws i) ∙ length_fill_to ws i l

-- a refusal, whose count is 0, changes nothing
pub fill_none : (ws : List ℕ) (n : ℕ) (l : List NodeEntry) → n ≡ 0 → fill_to ws n l ≡ l
fill_none ws n l e = ap (λ (k : ℕ). fill_to ws k l) e

map_snoc : (ws : List ℕ) (w : ℕ) → map node_entry_in (ws ++ (w ∷ [])) ≡ map node_entry_in ws ++ (node_entry_in w ∷ [])
map_snoc [] w = refl
map_snoc (v ∷ ws) w = ap (λ (t : List NodeEntry). node_entry_in v ∷ t) (map_snoc ws w)

length_front : (ws : List ℕ) (n : ℕ) → n ≤ length ws → length (map node_entry_in (take n ws)) ≡ n
length_front ws n h = length-map (take n ws) node_entry_in ∙ length-take-le n ws h

-- the list as a whole: the words' entries, then what stood there
pub fill_whole : (ws : List ℕ) (n : ℕ) (l : List NodeEntry) → n ≤ length ws → n ≤ length l → fill_to ws n l ≡ map node_entry_in (take n ws) ++ drop n l
unfolding entry_in
fill_whole ws zero l h k = refl
fill_whole ws (suc i) l h k =
    let h' : i ≤ length ws = omega (arith, h) in
    let k' : i ≤ length l = omega (arith, k) in
    let front : List NodeEntry = map node_entry_in (take i ws) in
    let e : NodeEntry = node_entry_in (get_or ws i 0) in
    ap (λ (t : List NodeEntry). set t i e) (fill_whole ws i l h' k' ∙ ap (λ (t : List NodeEntry). front ++ t) (drop-cons l i e k))
    ∙ (set_at front (get_or l i e) (drop (suc i) l) e i (length_front ws i h')
    ∙ (sym (append_snoc front e (drop (suc i) l))
    ∙ ap (λ (t : List NodeEntry). t ++ drop (suc i) l) (sym (ap (map node_entry_in) (take-suc ws i 0 h) ∙ map_snoc (take i ws) (get_or ws i 0)))))

abbrev pub Narrows : List NodeEntry → Type 0
Narrows [] = Unit {0}
Narrows (e ∷ es) = Narrow e × Narrows es

pub entries_back : (es : List NodeEntry) → Narrows es → map node_entry_in (map word_of es) ≡ es
entries_back [] h = refl
entries_back (e ∷ es) h =
    ap (λ (y : NodeEntry). y ∷ map node_entry_in (map word_of es)) (entry_word e h.0) ∙ ap (λ (t : List NodeEntry). e ∷ t) (entries_back es h.1)

-- the list where the first n words are those of n entries: the entries, then what stood there
pub fill_entries : (es : List NodeEntry) (ws : List ℕ) (n : ℕ) (l : List NodeEntry) → take n ws ≡ map word_of es → length es ≡ n → Narrows es → n ≤ length l
    → fill_to ws n l ≡ es ++ drop n l
fill_entries es ws n l p c h k =
    let m : min n (length ws) ≡ n = sym (length-take n ws) ∙ (ap length p ∙ (length-map es word_of ∙ c)) in
    let inside : n ≤ length ws = omega (arith, m) in
    fill_whole ws n l inside k ∙ ap (λ (t : List NodeEntry). t ++ drop n l) (ap (map node_entry_in) p ∙ entries_back es h)
