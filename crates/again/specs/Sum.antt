-- The checksum of what a call left in a lent room or list, as `oracle record` computes it.
use Rattle.std.specs.Prelude.{◌≡◌, refl, List, [], ◌∷◌, ◌++◌, map, ℕ, zero, suc, ◌+◌, ◌*◌, ◌/◌, ◌%◌, ◌<◌, ◌≤◌, length, get_or, drop, take}
use Rattle.std.specs.List.{fold}
use Rattle.std.proofs.Common.{sym, ap, add-one, arith, drop-cons, take-suc}
use Rattle.lists.specs.Entry.{node_entry_in, entry_in}
use Rattle.lists.specs.declared.entries.NodeEntry.{NodeEntry}

-- one digit more: a polynomial in 1,021 modulo 2^54 - 33, the largest prime below 2^54
unfoldable pub mix : ℕ → ℕ → ℕ
mix h x = (1021 * h + x + 1) % 18014398509481951

-- the digits xs behind those that gave h
abbrev pub sum_from : ℕ → List ℕ → ℕ
sum_from h xs = fold mix h xs

-- the bytes of a room, or the numbers of a list
abbrev pub sum_of : List ℕ → ℕ
sum_of xs = sum_from 0 xs

-- a word of 64 bits: its low half, then its high half
unfoldable pub mix_word : ℕ → ℕ → ℕ
unfolding mix
mix_word h w = mix (mix h (w % 4294967296)) (w / 4294967296)

-- the words ws behind the digits that gave h
abbrev pub words_from : ℕ → List ℕ → ℕ
words_from h ws = fold mix_word h ws

-- an entry's six fields
unfoldable pub mix_entry : ℕ → NodeEntry → ℕ
unfolding mix
mix_entry h e = mix (mix (mix (mix (mix (mix h e.kind) e.number) e.group) e.installable) e.missing) e.clause

abbrev pub entries_from : ℕ → List NodeEntry → ℕ
entries_from h es = fold mix_entry h es

-- the entries of a list
abbrev pub sum_entries : List NodeEntry → ℕ
sum_entries es = entries_from 0 es

-- ---- the ways through the code

pub mix_is : (h x r : ℕ) → r ≡ (1021 * h + x + 1) % 18014398509481951 → r ≡ mix h x
unfolding mix
mix_is h x r e = e

pub sum_next : (xs : List ℕ) (h i z r x : ℕ) → sum_from h (drop i xs) ≡ z → i < length xs → r ≡ mix h x → x ≡ get_or xs i 0 → sum_from r (drop (i + 1) xs) ≡ z
sum_next xs h i z r x e l q p =
    let d : drop i xs ≡ get_or xs i 0 ∷ drop (suc i) xs = drop-cons xs i 0 l in
    rw (add-one, q, p) (rw d at e)

nothing_left : (xs : List ℕ) (i : ℕ) → length xs ≤ i → drop i xs ≡ []
nothing_left [] zero l = refl
nothing_left [] (suc i) l = refl
nothing_left (x ∷ xs) zero l = let f : ⊥ = omega arith in absurd f
nothing_left (x ∷ xs) (suc i) l = nothing_left xs i (omega arith)

pub sum_end : (xs : List ℕ) (h i z : ℕ) → sum_from h (drop i xs) ≡ z → length xs ≤ i → h ≡ z
sum_end xs h i z e l = rw (nothing_left xs i l) at e

pub word_mixed : (h a w r : ℕ) → r ≡ mix a (w / 4294967296) → a ≡ mix h (w % 4294967296) → r ≡ mix_word h w
unfolding mix_word
word_mixed h a w r p q = rw (p, q)

pub words_next : (ws : List ℕ) (h i z r w : ℕ) → words_from h (drop i ws) ≡ z → i < length ws → r ≡ mix_word h w → w ≡ get_or ws i 0
    → words_from r (drop (i + 1) ws) ≡ z
words_next ws h i z r w e l q p =
    let d : drop i ws ≡ get_or ws i 0 ∷ drop (suc i) ws = drop-cons ws i 0 l in
    rw (add-one, q, p) (rw d at e)

pub words_end : (ws : List ℕ) (h i z : ℕ) → words_from h (drop i ws) ≡ z → length ws ≤ i → h ≡ z
words_end ws h i z e l = rw (nothing_left ws i l) at e

mix_small : (h x : ℕ) → mix h x < 18014398509481951
unfolding mix
mix_small h x = omega arith

small_from : (xs : List ℕ) (h : ℕ) → h < 18014398509481951 → sum_from h xs < 18014398509481951
small_from [] h l = l
small_from (x ∷ xs) h l = small_from xs (mix h x) (mix_small h x)

-- a checksum that the words of a report can go on from
pub sum_small : (xs : List ℕ) (h : ℕ) → h ≡ sum_of xs → h < 18014398509481951
sum_small xs h e = rw e (small_from xs 0 (omega arith))

snoc_entries : (es : List NodeEntry) (e : NodeEntry) (h : ℕ) → entries_from h (es ++ (e ∷ [])) ≡ mix_entry (entries_from h es) e
snoc_entries [] e h = refl
snoc_entries (x ∷ xs) e h = snoc_entries xs e (mix_entry h x)

map_snoc : (ws : List ℕ) (w : ℕ) → map node_entry_in (ws ++ (w ∷ [])) ≡ map node_entry_in ws ++ (node_entry_in w ∷ [])
map_snoc [] w = refl
map_snoc (v ∷ ws) w = ap (λ (t : List NodeEntry). node_entry_in v ∷ t) (map_snoc ws w)

-- the first i words as entries
unfoldable pub entries_at : List ℕ → ℕ → List NodeEntry
entries_at ws i = map node_entry_in (take i ws)

pub entries_none : (ws : List ℕ) → 0 ≡ sum_entries (entries_at ws 0)
unfolding entries_at
entries_none ws = refl

pub entries_next : (ws : List ℕ) (h i n r : ℕ) (e : NodeEntry) → h ≡ sum_entries (entries_at ws i) → length ws ≡ 128 → i < n → n ≤ 128
    → e ≡ entry_in ws i → r ≡ mix_entry h e → r ≡ sum_entries (entries_at ws (i + 1))
unfolding entries_at entry_in
entries_next ws h i n r e q k l t p m =
    let j : i < length ws = omega arith in
    rw (m, p, q, add-one, take-suc ws i 0 j, map_snoc) (sym (snoc_entries (map node_entry_in (take i ws)) (node_entry_in (get_or ws i 0)) 0))

pub entries_end : (ws : List ℕ) (h i n : ℕ) → h ≡ sum_entries (entries_at ws i) → i ≤ n → n ≤ i → h ≡ sum_entries (entries_at ws n)
entries_end ws h i n q a b = let z : i ≡ n = omega arith in rw z at q

pub entry_mixed : (h a b c d f r : ℕ) (e : NodeEntry) → r ≡ mix f e.clause → f ≡ mix d e.missing → d ≡ mix c e.installable → c ≡ mix b e.group
    → b ≡ mix a e.number → a ≡ mix h e.kind
    → r ≡ mix_entry h e
unfolding mix_entry
entry_mixed h a b c d f r e u v w x y z = rw (u, v, w, x, y, z)
