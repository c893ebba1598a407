-- One file's words: the ways through the code.
use Rattle.std.specs.Prelude.{◌≡◌, refl, Bool, true, false, not, ℕ, zero, suc, ◌≤◌, ◌<◌, length, eqb}
use Rattle.std.proofs.Common.{sym, ◌∙◌, arith, length-set}
use Rattle.std.proofs.Math.Path.{ap}
use mathlib.Core.List.{List, [], ◌∷◌, ◌++◌, append_assoc}
use Rattle.std.proofs.Math.Option.{none, some}
use Rattle.std.proofs.Math.ListN.{set, replicate}
use Rattle.std.proofs.lemmas.List.{length-replicate}
use borrow.Author.Tests.{ne_eqb, not-true, not-false}
use Rattle.basis.specs.Members.{clash}
use Rattle.season.specs.declared.Own.{Own}
use Rattle.season.specs.Season.{adds, share}
use Rattle.season.specs.Words.{named, words_of, join_number, join_words, share_words}
use Rattle.season.specs.Steps.{number_put, graph_put, text_put}
use Rattle.season.specs.Laws.Joins.{put_at_lem}

set_left : (c t : List ℕ) (k v : ℕ) → k < length c → set (c ++ t) k v ≡ set c k v ++ t
set_left [] t k v h = let z : ⊥ = omega arith in absurd z
set_left (x ∷ c) t zero v h = refl
set_left (x ∷ c) t (suc k) v h = ap (λ (l : List ℕ). x ∷ l) (set_left c t k v (omega arith))

set_past : (c : List ℕ) (k v : ℕ) → length c ≤ k → set c k v ≡ c
set_past [] k v h = refl
set_past (x ∷ c) zero v h = let z : ⊥ = omega arith in absurd z
set_past (x ∷ c) (suc k) v h = ap (λ (l : List ℕ). x ∷ l) (set_past c k v (omega arith))

-- ---- the number

pub number_past : (l : List ℕ) (k : ℕ) → l ≡ replicate 27 0 → 18 < k → l ≡ number_put k
unfolding number_put
number_past l k e h = e ∙ sym (ap (λ (c : List ℕ). c ++ replicate 8 0) (set_past (replicate 19 0) k 1 (omega arith)))

pub number_put_lem : (l m : List ℕ) (k i : ℕ) → l ≡ replicate 27 0 → i ≡ k → k ≤ 18 → m ≡ set l i 1 → m ≡ number_put k
unfolding number_put
number_put_lem l m k i e q h f = f ∙ rw (q, e) (set_left (replicate 19 0) (replicate 8 0) k 1 (omega arith))

-- ---- the counts

pub graph_via : (l l1 l2 l3 l4 : List ℕ) (a : Own) → l1 ≡ set l 19 a.nodes → l2 ≡ set l1 20 a.edges → l3 ≡ set l2 21 a.groups
    → l4 ≡ set l3 22 a.missing → l4 ≡ graph_put l a
unfolding graph_put
graph_via l l1 l2 l3 l4 a e f g h = rw (h, g, f, e)

pub text_via : (l l1 l2 l3 : List ℕ) (a : Own) → l1 ≡ set l 23 a.lines → l2 ≡ set l1 24 a.depth → l3 ≡ set l2 26 1 → l3 ≡ text_put l a
unfolding text_put
text_via l l1 l2 l3 a e f g = rw (g, f, e)

-- ---- which files add counts

pub adds_done : (k : ℕ) → k ≡ 0 → true ≡ adds k
adds_done k e = rw e

pub adds_room : (k : ℕ) → k ≡ 10 → true ≡ adds k
adds_room k e = rw e

pub adds_loop : (k : ℕ) → (k ≡ 0 → ⊥) → (k ≡ 10 → ⊥) → eqb k 11 ≡ adds k
adds_loop k f g = rw (ne_eqb k 0 f, ne_eqb k 10 g)

-- ---- the report of one file

module _ (row : List ℕ) (n e g m l d : ℕ) where
  -- a file that adds counts where b
  abbrev row_by : Bool → List ℕ
  row_by b =
      (row ++ elim b [ true ↦ n ∷ e ∷ g ∷ m ∷ l ∷ [] | false ↦ replicate 5 0 ]) ++ named (elim b [ true ↦ some (d, 0) | false ↦ none ])

  row_bare : (b : Bool) → b ≡ false → row ++ replicate 8 0 ≡ row_by b
  row_bare true h = clash (let z : true ≡ false = h in cc)
  row_bare false h = sym (append_assoc row (replicate 5 0) (0 ∷ 0 ∷ 0 ∷ []))

  row_whole : (b : Bool) → b ≡ true → row ++ (n ∷ e ∷ g ∷ m ∷ l ∷ d ∷ 0 ∷ 1 ∷ []) ≡ row_by b
  row_whole true h = sym (append_assoc row (n ∷ e ∷ g ∷ m ∷ l ∷ []) (d ∷ 0 ∷ 1 ∷ []))
  row_whole false h = clash (let z : false ≡ true = h in cc)

module _ (row : List ℕ) (long : length row ≡ 19) (a : Own) where
  graph_is : graph_put (row ++ replicate 8 0) a ≡ row ++ (a.nodes ∷ a.edges ∷ a.groups ∷ a.missing ∷ 0 ∷ 0 ∷ 0 ∷ 0 ∷ [])
  unfolding graph_put
  graph_is =
      ap (λ (l : List ℕ). set (set (set l 20 a.edges) 21 a.groups) 22 a.missing) (put_at_lem row (replicate 8 0) 0 19 a.nodes (omega arith))
      ∙ ap (λ (l : List ℕ). set (set l 21 a.groups) 22 a.missing) (put_at_lem row (a.nodes ∷ replicate 7 0) 1 20 a.edges (omega arith))
      ∙ ap (λ (l : List ℕ). set l 22 a.missing) (put_at_lem row (a.nodes ∷ a.edges ∷ replicate 6 0) 2 21 a.groups (omega arith))
      ∙ put_at_lem row (a.nodes ∷ a.edges ∷ a.groups ∷ replicate 5 0) 3 22 a.missing (omega arith)

  text_is : (n e g m : ℕ) → text_put (row ++ (n ∷ e ∷ g ∷ m ∷ 0 ∷ 0 ∷ 0 ∷ 0 ∷ [])) a ≡ row ++ (n ∷ e ∷ g ∷ m ∷ a.lines ∷ a.depth ∷ 0 ∷ 1 ∷ [])
  unfolding text_put
  text_is n e g m =
      ap (λ (l : List ℕ). set (set l 24 a.depth) 26 1) (put_at_lem row (n ∷ e ∷ g ∷ m ∷ replicate 4 0) 4 23 a.lines (omega arith))
      ∙ ap (λ (l : List ℕ). set l 26 1) (put_at_lem row (n ∷ e ∷ g ∷ m ∷ a.lines ∷ replicate 3 0) 5 24 a.depth (omega arith))
      ∙ put_at_lem row (n ∷ e ∷ g ∷ m ∷ a.lines ∷ a.depth ∷ replicate 2 0) 7 26 1 (omega arith)

  counts_are : text_put (graph_put (row ++ replicate 8 0) a) a ≡ row ++ (a.nodes ∷ a.edges ∷ a.groups ∷ a.missing ∷ a.lines ∷ a.depth ∷ 0 ∷ 1 ∷ [])
  counts_are = ap (λ (x : List ℕ). text_put x a) graph_is ∙ text_is a.nodes a.edges a.groups a.missing

row_long : (k : ℕ) → length {A = ℕ} (set (replicate 19 0) k 1) ≡ 19
row_long k = length-set {A = ℕ} (replicate 19 0) k 1 ∙ length-replicate {A = ℕ} 19 0

module _ (a : Own) (l : List ℕ) (t : Bool) (e : l ≡ number_put a.number) (q : t ≡ adds a.number) where
  pub share_bare : not t ≡ true → l ≡ share_words a
  unfolding number_put share words_of
  share_bare n =
      e ∙ row_bare (set (replicate 19 0) a.number 1) a.nodes a.edges a.groups a.missing a.lines a.depth (adds a.number) (sym q
      ∙ not-true t n)

  pub share_whole : (m n : List ℕ) → m ≡ graph_put l a → n ≡ text_put m a → not t ≡ false → n ≡ share_words a
  unfolding number_put share words_of
  share_whole m n f g b =
      g ∙ ap (λ (x : List ℕ). text_put x a) (f ∙ ap (λ (x : List ℕ). graph_put x a) e)
      ∙ counts_are (set (replicate 19 0) a.number 1) (row_long a.number) a
      ∙ row_whole (set (replicate 19 0) a.number 1) a.nodes a.edges a.groups a.missing a.lines a.depth (adds a.number) (sym q
      ∙ not-false t b)

-- ---- the file joined

module _ (a : Own) (ws one : List ℕ) (e : one ≡ share_words a) where
  pub added_number : (r : ℕ) → r ≡ join_number ws one → r ≡ join_number ws (share_words a)
  added_number r h = h ∙ ap (join_number ws) e

  pub added_words : (vs : List ℕ) → vs ≡ join_words ws one → vs ≡ join_words ws (share_words a)
  added_words vs h = h ∙ ap (join_words ws) e
