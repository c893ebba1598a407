-- What a season's report says of its files: each count of one file, and the greatest depth with the first file that had it.
use Rattle.std.specs.Prelude.{◌≡◌, refl, true, false, List, [], ◌∷◌, ◌++◌, ℕ, ◌+◌, ◌≤◌, ◌<◌, set, replicate, ltb}
use Rattle.std.proofs.Common.{sym, ◌∙◌, subst, append_assoc, append-nil, arith, length-append, length-set, get_or-set_same, get_or-set_other, ltb-true, ltb-false}
use Rattle.std.proofs.Math.Path.{ap}
use Rattle.std.proofs.Math.Option.{Option, none, some}
use Rattle.std.proofs.Math.ListN.{length, get_or, get_or-append}
use Rattle.std.proofs.lemmas.List.{length-replicate, get_or-replicate}
use Rattle.std.proofs.Math.Seq.{get_or-append-add}
use Rattle.basis.specs.Members.{All, split, no_both, all_append, all_map}
use Rattle.season.specs.declared.Own.{Own}
use Rattle.season.specs.Report.{Report, files, deeper, join, empty}
use Rattle.season.specs.Season.{adds, share, season, NoWide, Known}
use Rattle.season.specs.Laws.Sums.{deeper_none}
use Rattle.season.specs.Laws.Reports.{Full, join_full, files_join, empty_full, share_full, files_share, total_from, season_total}

-- ---- the counts of one file

numbers_long : (a : Own) → length {A = ℕ} (set (replicate 19 0) a.number 1) ≡ 19
numbers_long a = length-set {A = ℕ} (replicate 19 0) a.number 1 ∙ length-replicate {A = ℕ} 19 0

module _ (a : Own) (k : ℕ) (l : k < 19) where
  among : get_or (share a).counts k 0 ≡ get_or (set (replicate 19 0) a.number 1) k 0
  unfolding share
  among =
      get_or-append (set (replicate 19 0) a.number 1) _ 0 k (let n : length {A = ℕ} (set (replicate 19 0) a.number 1) ≡ 19 = numbers_long a in
      omega arith)

  -- a file counts once, under its own number
  pub share_own : a.number ≡ k → get_or (share a).counts k 0 ≡ 1
  share_own e = among ∙ rw e (get_or-set_same (replicate 19 0) k 1 0 l)

  pub share_other : (a.number ≡ k → ⊥) → get_or (share a).counts k 0 ≡ 0
  share_other n = among ∙ get_or-set_other (replicate 19 0) a.number k 1 0 (λ e. n (sym e)) ∙ get_or-replicate {A = ℕ} 19 k 0 0 l

-- nodes, edges, groups, missing nodes and lines
abbrev pub totals_of : Own → List ℕ
totals_of a = a.nodes ∷ a.edges ∷ a.groups ∷ a.missing ∷ a.lines ∷ []

module _ (a : Own) (j : ℕ) where
  behind : get_or (share a).counts (19 + j) 0 ≡ get_or (elim (adds a.number) as (λ _. List ℕ) [ true ↦ totals_of a | false ↦ replicate 5 0 ]) j 0
  unfolding share
  behind =
      ap (λ (n : ℕ). get_or (share a).counts (n + j) 0) (sym (numbers_long a))
      ∙ get_or-append-add (set (replicate 19 0) a.number 1) _ j 0

  -- "one refused with 10 or 11 adds its graph counts, the lines it wrote", and one that is done
  pub share_adds : adds a.number ≡ true → get_or (share a).counts (19 + j) 0 ≡ get_or (totals_of a) j 0
  share_adds t = behind ∙ rw t

  -- "A file refused with 1 to 9 or 12 adds nothing but its refusal"
  pub share_bare : adds a.number ≡ false → j < 5 → get_or (share a).counts (19 + j) 0 ≡ 0
  share_bare t l = behind ∙ rw t (get_or-replicate {A = ℕ} 5 j 0 0 l)

-- ---- "the greatest depth and the first file that had it"

-- file i has depth d, every file before it less, and none behind it more; files without a depth aside
pub record Greatest (xs : List Own) (d i : ℕ) : Type 0 where
  pub before : List Own
  pub here : Own
  pub behind : List Own
  pub is : xs ≡ before ++ (here ∷ behind)
  pub place : length before ≡ i
  pub has : adds here.number ≡ true
  pub depth : here.depth ≡ d
  pub less : All (λ a. adds a.number ≡ true → a.depth < d) before
  pub most : All (λ a. adds a.number ≡ true → a.depth ≤ d) behind

-- "With no file that has a depth .. no first file is named"
abbrev pub DeepestIs : List Own → Option (ℕ × ℕ) → Type 0
DeepestIs xs none = All (λ a. adds a.number ≡ false) xs
DeepestIs xs (some p) = Greatest xs p.0 p.1

abbrev Under : ℕ → Own → Type 0
Under d a = adds a.number ≡ true → a.depth < d

abbrev Upto : ℕ → Own → Type 0
Upto d a = adds a.number ≡ true → a.depth ≤ d

-- one more file, no deeper than d
later : (xs : List Own) (d i : ℕ) (a : Own) → Greatest xs d i → Upto d a → Greatest (xs ++ (a ∷ [])) d i
later xs d i a g h =
    record {
      before = g.before;
      here = g.here;
      behind = g.behind ++ (a ∷ []);
      is = ap (λ (l : List Own). l ++ (a ∷ [])) g.is ∙ append_assoc g.before (g.here ∷ g.behind) (a ∷ []);
      place = g.place;
      has = g.has;
      depth = g.depth;
      less = g.less;
      most = all_append (Upto d) g.behind (a ∷ []) g.most (h, tt);
    }

-- one more file, deeper than all before it
newest : (xs : List Own) (n : ℕ) (a : Own) → length xs ≡ n → adds a.number ≡ true → All (Under a.depth) xs → Greatest (xs ++ (a ∷ [])) a.depth (n + 0)
newest xs n a e t h =
    record { before = xs; here = a; behind = []; is = refl; place = omega arith; has = t; depth = refl; less = h; most = tt }

-- all files of xs are less deep than one that is deeper than their deepest
all_under : (xs : List Own) (d i c : ℕ) → Greatest xs d i → d < c → All (Under c) xs
all_under xs d i c g l =
    let e : g.here.depth ≡ d = g.depth in
    rw g.is
    (all_append (Under c) g.before (g.here ∷ g.behind)
    (all_map (Under d) (Under c) g.before (λ b k t. let m : b.depth < d = k t in omega arith) g.less)
    ((λ t. omega arith), all_map (Upto d) (Under c) g.behind (λ b k t. let m : b.depth ≤ d = k t in omega arith) g.most))

none_under : (xs : List Own) (c : ℕ) → All (λ a. adds a.number ≡ false) xs → All (Under c) xs
none_under xs c h = all_map (λ a. adds a.number ≡ false) (Under c) xs (λ b k t. no_both (adds b.number) t k) h

module _ (xs : List Own) (n : ℕ) (a : Own) (e : length xs ≡ n) where
  -- a file without a depth
  past : adds a.number ≡ false → (o : Option (ℕ × ℕ)) → DeepestIs xs o → DeepestIs (xs ++ (a ∷ [])) o
  past t none h = all_append (λ b. adds b.number ≡ false) xs (a ∷ []) h (t, tt)
  past t (some p) h = later xs p.0 p.1 a h (λ u. no_both (adds a.number) u t)

  -- a file with one
  onto : adds a.number ≡ true → (o : Option (ℕ × ℕ)) → DeepestIs xs o → DeepestIs (xs ++ (a ∷ [])) (deeper n o (some (a.depth, 0)))
  onto t none h = newest xs n a e t (none_under xs a.depth h)
  onto t (some p) h =
      split (ltb p.0 a.depth)
      (λ u. rw (u, deeper) (newest xs n a e t (all_under xs p.0 p.1 a.depth h (ltb-true p.0 a.depth u))))
      (λ u. rw (u, deeper) (later xs p.0 p.1 a h (λ v. ltb-false p.0 a.depth u)))

share_deep : (a : Own) → adds a.number ≡ true → (share a).deepest ≡ some (a.depth, 0)
unfolding share
share_deep a t = rw (t, share)

share_flat : (a : Own) → adds a.number ≡ false → (share a).deepest ≡ none
unfolding share
share_flat a t = rw (t, share)

next : (xs : List Own) (r : Report) (a : Own) → length xs ≡ files r → DeepestIs xs r.deepest → DeepestIs (xs ++ (a ∷ [])) (join r (share a)).deepest
unfolding join
next xs r a e h =
    split (adds a.number)
    (λ t. rw (share_deep a t) (onto xs (files r) a e t r.deepest h))
    (λ t. rw (share_flat a t, deeper_none (files r) r.deepest) (past xs (files r) a e t r.deepest h))

from : (xs : List Own) (r : Report) (ys : List Own) → Full r → length xs ≡ files r → DeepestIs xs r.deepest → All Known ys
    → DeepestIs (xs ++ ys) (total_from r ys).deepest
unfolding total_from
from xs r [] f e h k = rw (append-nil xs) h
from xs r (a ∷ ys) f e h k =
    let o : files (share a) ≡ 1 = files_share a k.0 in
    let j : files (join r (share a)) ≡ files r + files (share a) = files_join r (share a) f (share_full a) in
    let l : length (xs ++ (a ∷ [])) ≡ length xs + 1 = length-append xs (a ∷ []) in
    subst (λ (z : List Own). DeepestIs z (total_from (join r (share a)) ys).deepest) (append_assoc xs (a ∷ []) ys)
    (from (xs ++ (a ∷ [])) (join r (share a)) ys (join_full r (share a) f (share_full a)) (omega arith) (next xs r a e h) k.1)

no_files : length {A = Own} [] ≡ files empty
unfolding files empty
no_files = refl

none_yet : DeepestIs [] empty.deepest
unfolding empty
none_yet = tt

pub season_deepest : (xs : List Own) → NoWide empty xs → All Known xs → DeepestIs xs (season xs).deepest
unfolding season
season_deepest xs h k = rw (season_total empty xs h) (from [] empty xs empty_full no_files none_yet k)
