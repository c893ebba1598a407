-- The three chains of a settled graph in one table, as the loops build them, and what they then hold.
use Rattle.std.specs.Prelude.{◌≡◌, List, ◌∷◌, length}
use Rattle.std.proofs.Math.Path.{refl, ap}
use Rattle.std.proofs.Common.{sym, ◌∙◌}
use Prim.Native.Nat.{ℕ, zero, suc, ◌+◌, ◌-◌, ◌<◌, ◌≤◌}
use Rattle.std.proofs.Math.Numerals.{add-one}
use native.Mathlib.Omega.{arith}
use Rattle.std.proofs.Math.ListN.{set, get_or}
use Rattle.basis.specs.Chains.{Layout, Fits, fits_before, slot, Chained, Risen, linked, Beside, beside_high, Only, only_none, only_twice, only_head, only_next}
use Rattle.basis.specs.Chains.{only_prev, Cleared, clear_none, clear_next, chain_clear, rise_clear, chain_next, rise_next, chain_only, chain_only_two}
use Rattle.store.specs.declared.Size.{Size}
use Rattle.store.specs.Table.{edge_in, Stored, source_below, target_below}

-- ---- the layouts: outgoing newest first, incoming newest first, outgoing oldest first

abbrev pub out_lay : Layout
out_lay = record { links = 0; items = 1024; heads = 1024; keys = 128; size = 3456 }

abbrev pub in_lay : Layout
in_lay = record { links = 1152; items = 1024; heads = 2176; keys = 128; size = 3456 }

abbrev pub old_lay : Layout
old_lay = record { links = 2304; items = 1024; heads = 3328; keys = 128; size = 3456 }

-- the part of a chain that begins at b
abbrev pub part_at : ℕ → Layout
part_at b = record { links = b; items = 1024; heads = b + 1024; keys = 128; size = 3456 }

-- an edge's key: the node whose chain it is in
unfoldable pub source_of : List ℕ → ℕ → ℕ
source_of g e = (edge_in g e).source

unfoldable pub target_of : List ℕ → ℕ → ℕ
target_of g e = (edge_in g e).target

-- ---- what the loops leave

-- the k places from `at` on set to 0
unfoldable pub wiped : List ℕ → ℕ → ℕ → List ℕ
wiped ls at zero = ls
wiped ls at (suc k) = set (wiped ls at k) (at + k) 0

-- the items below i put in, upwards
unfoldable pub linked_up : Layout → (ℕ → ℕ) → List ℕ → ℕ → List ℕ
linked_up L key ls zero = ls
linked_up L key ls (suc i) = linked L (linked_up L key ls i) i (key i)

-- the last k of m items put in, downwards
unfoldable pub linked_down : Layout → (ℕ → ℕ) → List ℕ → ℕ → ℕ → List ℕ
linked_down L key ls m zero = ls
linked_down L key ls m (suc k) = linked L (linked_down L key ls m k) (m - suc k) (key (m - suc k))

-- the table after each, and after all three
unfoldable pub outs_of : List ℕ → Size → List ℕ → List ℕ
outs_of g s ls = linked_up out_lay (source_of g) (wiped ls 1024 128) s.edges

unfoldable pub intos_of : List ℕ → Size → List ℕ → List ℕ
intos_of g s ls = linked_up in_lay (target_of g) (wiped ls 2176 128) s.edges

unfoldable pub olds_of : List ℕ → Size → List ℕ → List ℕ
olds_of g s ls = linked_down old_lay (source_of g) (wiped ls 3328 128) s.edges s.edges

unfoldable pub chains_of : List ℕ → Size → List ℕ → List ℕ
unfolding outs_of intos_of olds_of
chains_of g s ls = olds_of g s (intos_of g s (outs_of g s ls))

-- ---- the loops, turn by turn

pub wiped_none : (ls : List ℕ) (at : ℕ) → ls ≡ wiped ls at 0
unfolding wiped
wiped_none ls at = refl

pub wiped_next : (ls l : List ℕ) (at k : ℕ) → l ≡ wiped ls at k → set l (at + k) 0 ≡ wiped ls at (k + 1)
unfolding wiped
wiped_next ls l at k q = rw (add-one k, q)

pub wiped_all : (ls l : List ℕ) (at k n : ℕ) → l ≡ wiped ls at k → k ≤ n → n ≤ k → l ≡ wiped ls at n
wiped_all ls l at k n q a b = let z : n ≡ k = omega arith in rw z q

pub fill_none : (L : Layout) (key : ℕ → ℕ) (ls : List ℕ) → ls ≡ linked_up L key ls 0
unfolding linked_up
fill_none L key ls = refl

pub fill_next : (L : Layout) (key : ℕ → ℕ) (ls l k : List ℕ) (i n : ℕ) → l ≡ linked_up L key ls i → k ≡ linked L l i n → n ≡ key i
    → k ≡ linked_up L key ls (i + 1)
unfolding linked_up
fill_next L key ls l k i n q r e = rw (add-one i, ← q, ← e) r

pub fill_all : (L : Layout) (key : ℕ → ℕ) (ls l : List ℕ) (i m : ℕ) → l ≡ linked_up L key ls i → i ≤ m → m ≤ i → l ≡ linked_up L key ls m
fill_all L key ls l i m q a b = let z : m ≡ i = omega arith in rw z q

pub fall_none : (L : Layout) (key : ℕ → ℕ) (ls : List ℕ) (m : ℕ) → ls ≡ linked_down L key ls m (m - m)
unfolding linked_down
fall_none L key ls m = let z : m - m ≡ 0 = omega arith in rw z

pub fall_next : (L : Layout) (key : ℕ → ℕ) (ls l k : List ℕ) (m j n : ℕ) → l ≡ linked_down L key ls m (m - j) → k ≡ linked L l (j - 1) n → n ≡ key (j - 1)
    → 0 < j → j ≤ m → k ≡ linked_down L key ls m (m - (j - 1))
unfolding linked_down
fall_next L key ls l k m j n q r e h jm =
    let z : m - (j - 1) ≡ suc (m - j) = omega arith in
    let y : m - suc (m - j) ≡ j - 1 = omega arith in
    rw (z, linked_down, y, ← q, ← e) r

pub fall_all : (L : Layout) (key : ℕ → ℕ) (ls l : List ℕ) (m j : ℕ) → l ≡ linked_down L key ls m (m - j) → j ≤ 0 → l ≡ linked_down L key ls m m
fall_all L key ls l m j q h = let z : m ≡ m - j = omega arith in q ∙ ap (linked_down L key ls m) (sym z)

-- a place as code writes it
pub slot_at : (b i : ℕ) → slot b i ≡ b + i
slot_at zero i = omega arith
slot_at (suc b) i = refl

pub linked_part : (ls : List ℕ) (b i n : ℕ) → set (set ls (b + i) (get_or ls (b + 1024 + n) 0)) (b + 1024 + n) (i + 1) ≡ linked (part_at b) ls i n
linked_part ls b i n = rw (slot_at b i, slot_at (b + 1024) n)

pub ruleset wipes = (wiped_none, wiped_next, wiped_all)

pub ruleset fills = (fill_none, fill_next, fill_all)

pub ruleset falls = (fall_none, fall_next, fall_all)

-- n, the key that a read gave
pub source_key : (g : List ℕ) (i n : ℕ) → n ≡ (edge_in g i).source → n ≡ source_of g i
unfolding source_of
source_key g i n q = q

pub target_key : (g : List ℕ) (i n : ℕ) → n ≡ (edge_in g i).target → n ≡ target_of g i
unfolding target_of
target_key g i n q = q

pub source_small : (g : List ℕ) (s : Size) (i n : ℕ) → n ≡ (edge_in g i).source → Stored g s → i < s.edges → n < 128
source_small g s i n q S h = rw q (source_below g s S i h)

-- downwards
pub source_below_last : (g : List ℕ) (s : Size) (j n : ℕ) → n ≡ (edge_in g (j - 1)).source → Stored g s → 0 < j → j ≤ s.edges → n < 128
source_below_last g s j n q S h l = source_small g s (j - 1) n q S (omega arith)

pub target_small : (g : List ℕ) (s : Size) (i n : ℕ) → n ≡ (edge_in g i).target → Stored g s → i < s.edges → n < 128
target_small g s i n q S h = rw q (omega (arith, target_below g s S i h, S.nodes_most))

-- ---- what the loops leave is what the chains' laws ask for

module _ (L : Layout) (ls : List ℕ) (F : Fits L) where
  wiped_cleared : (k : ℕ) → length ls ≡ L.size → k ≤ L.keys → Cleared L (wiped ls L.heads k) k
  unfolding wiped
  wiped_cleared zero w h = clear_none L ls F w
  wiped_cleared (suc k) w h =
      let z : set (wiped ls L.heads k) (L.heads + k) 0 ≡ set (wiped ls L.heads k) (slot L.heads k) 0 =
      ap (λ (a : ℕ). set (wiped ls L.heads k) a 0) (sym (slot_at L.heads k)) in
      rw (← add-one k) (clear_next L (wiped ls L.heads k) (set (wiped ls L.heads k) (L.heads + k) 0) k (wiped_cleared k w (omega arith)) z (omega arith))

  wiped_only : (k : ℕ) → k ≤ L.keys → Only L ls (wiped ls L.heads k)
  unfolding wiped
  wiped_only zero h = only_none L ls
  wiped_only (suc k) h =
      only_head L ls (wiped ls L.heads k) (set (wiped ls L.heads k) (L.heads + k) 0) k 0 (wiped_only k (omega arith))
      (ap (λ (a : ℕ). set (wiped ls L.heads k) a 0) (sym (slot_at L.heads k))) (omega arith)

module _ (L : Layout) (key : ℕ → ℕ) (ls : List ℕ) (m : ℕ) (fits : m ≤ L.items) (known : (e : ℕ) → e < m → key e < L.keys) where
  up_chained : (i : ℕ) → i ≤ m → Chained L key ls 0 → Chained L key (linked_up L key ls i) i
  unfolding linked_up
  up_chained zero h C = C
  up_chained (suc i) h C =
      rw (← add-one i)
      (chain_next L key (linked_up L key ls i) (linked L (linked_up L key ls i) i (key i)) i (key i) m (up_chained i (omega arith) C) refl refl (known i h) h
      fits)

  up_only : (i : ℕ) → i ≤ m → Only L ls (linked_up L key ls i)
  unfolding linked_up
  up_only zero h = only_none L ls
  up_only (suc i) h =
      only_next L ls (linked_up L key ls i) (linked L (linked_up L key ls i) i (key i)) i (key i) m (up_only i (omega arith)) refl (known i h) h fits

  down_risen : (k : ℕ) → k ≤ m → Risen L key ls m m → Risen L key (linked_down L key ls m k) m (m - k)
  unfolding linked_down
  down_risen zero h R = let z : m - 0 ≡ m = omega arith in rw z R
  down_risen (suc k) h R =
      let z : m - suc k ≡ m - k - 1 = omega arith in
      rw z
      (rise_next L key (linked_down L key ls m k) (linked L (linked_down L key ls m k) (m - k - 1) (key (m - k - 1))) m (m - k) (key (m - k - 1))
      (down_risen k (omega arith) R) refl refl (known (m - k - 1) (omega arith)) (omega arith) (omega arith))

  down_only : (k : ℕ) → k ≤ m → Only L ls (linked_down L key ls m k)
  unfolding linked_down
  down_only zero h = only_none L ls
  down_only (suc k) h =
      let z : m - suc k ≡ m - k - 1 = omega arith in
      rw z
      (only_prev L ls (linked_down L key ls m k) (linked L (linked_down L key ls m k) (m - k - 1) (key (m - k - 1))) (m - k) (key (m - k - 1)) m
      (down_only k (omega arith)) refl (known (m - k - 1) (omega arith)) (omega arith) (omega arith) fits)

-- ---- the promise: the graph is stored, and its edges hang in the three chains

pub record Chains (g : List ℕ) (s : Size) (ls : List ℕ) : Type 0 where
  pub stored : Stored g s
  pub out : Chained out_lay (source_of g) ls s.edges
  pub into : Chained in_lay (target_of g) ls s.edges
  pub old : Risen old_lay (source_of g) ls s.edges 0

out_in : Beside in_lay out_lay
out_in = beside_high out_lay in_lay 1152 (omega arith) (omega arith) (omega arith) (omega arith)

out_old : Beside old_lay out_lay
out_old = beside_high out_lay old_lay 2304 (omega arith) (omega arith) (omega arith) (omega arith)

in_old : Beside old_lay in_lay
in_old = beside_high in_lay old_lay 2304 (omega arith) (omega arith) (omega arith) (omega arith)

fits_out : Fits out_lay
fits_out = fits_before out_lay (omega arith) (omega arith)

fits_in : Fits in_lay
fits_in = fits_before in_lay (omega arith) (omega arith)

fits_old : Fits old_lay
fits_old = fits_before old_lay (omega arith) (omega arith)

module _ (g ls : List ℕ) (s : Size) (S : Stored g s) (wide : length ls ≡ 3456) where
  sources : (e : ℕ) → e < s.edges → source_of g e < 128
  unfolding source_of
  sources e h = source_below g s S e h

  targets : (e : ℕ) → e < s.edges → target_of g e < 128
  unfolding target_of
  targets e h = omega (arith, target_below g s S e h, S.nodes_most)

  abbrev o₀ : List ℕ
  o₀ = wiped ls 1024 128

  abbrev o₁ : List ℕ
  o₁ = linked_up out_lay (source_of g) o₀ s.edges

  abbrev i₀ : List ℕ
  i₀ = wiped o₁ 2176 128

  abbrev i₁ : List ℕ
  i₁ = linked_up in_lay (target_of g) i₀ s.edges

  abbrev d₀ : List ℕ
  d₀ = wiped i₁ 3328 128

  abbrev d₁ : List ℕ
  d₁ = linked_down old_lay (source_of g) d₀ s.edges s.edges

  le_refl : (n : ℕ) → n ≤ n
  le_refl n = omega arith

  built_out : Chained out_lay (source_of g) o₁ s.edges
  built_out =
      up_chained out_lay (source_of g) o₀ s.edges S.edges_most sources s.edges (le_refl s.edges)
      (chain_clear out_lay (source_of g) o₀ (wiped_cleared out_lay ls fits_out 128 wide (le_refl 128)))

  only_in : Only in_lay o₁ i₁
  only_in =
      only_twice in_lay o₁ i₀ i₁ (wiped_only in_lay o₁ fits_in 128 (le_refl 128))
      (up_only in_lay (target_of g) i₀ s.edges S.edges_most targets s.edges (le_refl s.edges))

  only_old : Only old_lay i₁ d₁
  only_old =
      only_twice old_lay i₁ d₀ d₁ (wiped_only old_lay i₁ fits_old 128 (le_refl 128))
      (down_only old_lay (source_of g) d₀ s.edges S.edges_most sources s.edges (le_refl s.edges))

  built_in : Chained in_lay (target_of g) i₁ s.edges
  built_in =
      up_chained in_lay (target_of g) i₀ s.edges S.edges_most targets s.edges (le_refl s.edges)
      (chain_clear in_lay (target_of g) i₀ (wiped_cleared in_lay o₁ fits_in 128 built_out.wide (le_refl 128)))

  built_old : Risen old_lay (source_of g) d₁ s.edges 0
  built_old =
      let z : s.edges - s.edges ≡ 0 = omega arith in
      rw z at
      (down_risen old_lay (source_of g) d₀ s.edges S.edges_most sources s.edges (le_refl s.edges)
      (rise_clear old_lay (source_of g) d₀ s.edges (wiped_cleared old_lay i₁ fits_old 128 built_in.wide (le_refl 128)) S.edges_most))

  chains_built : Chains g s (chains_of g s ls)
  unfolding chains_of outs_of intos_of olds_of
  chains_built =
      record {
        stored = S;
        out = chain_only_two out_lay in_lay old_lay (source_of g) o₁ i₁ d₁ s.edges only_old out_old only_in out_in built_out;
        into = chain_only in_lay old_lay (target_of g) i₁ d₁ s.edges only_old in_old built_in;
        old = built_old;
      }

-- the calls, one behind the other
module _ (g ls l k : List ℕ) (s : Size) where
  pub outs_via : k ≡ linked_up out_lay (source_of g) l s.edges → l ≡ wiped ls 1024 128 → k ≡ outs_of g s ls
  unfolding outs_of
  outs_via a b = rw (a, b)

  pub intos_via : k ≡ linked_up in_lay (target_of g) l s.edges → l ≡ wiped ls 2176 128 → k ≡ intos_of g s ls
  unfolding intos_of
  intos_via a b = rw (a, b)

  pub olds_via : k ≡ linked_down old_lay (source_of g) l s.edges s.edges → l ≡ wiped ls 3328 128 → k ≡ olds_of g s ls
  unfolding olds_of
  olds_via a b = rw (a, b)

module _ (g ls o i d : List ℕ) (s : Size) (a : d ≡ olds_of g s i) (b : i ≡ intos_of g s o) (c : o ≡ outs_of g s ls) where
  pub chained : d ≡ chains_of g s ls
  unfolding chains_of
  chained = rw (a, b, c)

  pub chained_all : Stored g s → length ls ≡ 3456 → Chains g s d
  chained_all S w = rw chained (chains_built g ls s S w)
