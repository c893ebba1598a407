-- "A group has two or more": with g groups and u unmerged packages among N there are at least 2 × g + u packages.
use Rattle.std.specs.Prelude.{◌≡◌, refl, Bool, true, not, ◌&&◌, List, [], ◌∷◌, map, ℕ, suc, ◌+◌, ◌*◌, ◌≤◌, length, eqb}
use Rattle.std.proofs.Common.{sym, ap, arith, eq-eqb}
use Rattle.basis.specs.Lists.{filter}
use Rattle.basis.specs.Members.{In, Distinct, split, in_filter, filter_in, map_in, pigeon}
use Rattle.machine.specs.Machine.{Plan}
use Rattle.machine.specs.Bound.{Counted, most}
use Rattle.machine.specs.Most.{at_most}

module _ {A : Type 0} (p : A → Bool) where
  filter_distinct : (l : List A) → Distinct l → Distinct (filter p l)
  filter_distinct [] d = tt
  filter_distinct (x ∷ xs) d =
      split (p x)
      (λ q. rw (q, filter) (λ i. d.0 (in_filter p x xs i).1, filter_distinct xs d.1))
      (λ q. rw (q, filter) (filter_distinct xs d.1))

map_length : (f : ℕ → ℕ) (l : List ℕ) → length (map f l) ≡ length l
map_length f [] = refl
map_length f (x ∷ xs) = ap suc (map_length f xs)

module _ {R : Type 0} (P : Plan R) where
  -- the package that its group is named after; one that is merged and named after another; one that is unmerged
  abbrev pub leading : ℕ → Bool
  leading n = P.merged n && eqb (P.lead n) n

  abbrev pub following : ℕ → Bool
  following n = P.merged n && not (eqb (P.lead n) n)

  abbrev pub single : ℕ → Bool
  single n = not (P.merged n)

  three_ways : (l : List ℕ) → length l ≡ length (filter leading l) + length (filter following l) + length (filter single l)
  three_ways [] = refl
  three_ways (n ∷ l) =
      let h = three_ways l in
      split (P.merged n)
      (λ m. split (eqb (P.lead n) n) (λ q. rw (m, q, filter) (omega arith)) (λ q. rw (m, q, filter) (omega arith)))
      (λ m. rw (m, filter) (omega arith))

module _ {R : Type 0} (P : Plan R) (N : List ℕ) where
  -- the packages that name the groups
  abbrev pub groups : List ℕ
  groups = filter (leading P) N

  abbrev pub unmerged : List ℕ
  unmerged = filter (single P) N

-- what is asked of the groups among the packages N
pub record Grouped {R : Type 0} (P : Plan R) (N : List ℕ) : Type 0 where
  pub distinct : Distinct N
  -- a group is named after one of its members
  pub named : (n : ℕ) → In n N → P.merged n ≡ true → In (P.lead n) N × (P.merged (P.lead n) ≡ true) × (P.lead (P.lead n) ≡ P.lead n)
  -- and has another
  pub another : (n : ℕ) → In n N → leading P n ≡ true → (m : ℕ) × In m N × (following P m ≡ true) × (P.lead m ≡ n)

module _ {R : Type 0} (P : Plan R) (N : List ℕ) (g : Grouped P N) where
  leads_in_lem : (n : ℕ) → In n (groups P N) → In n (map P.lead (filter (following P) N))
  leads_in_lem n i =
      let f = in_filter (leading P) n N i in
      let a = g.another n f.1 f.0 in
      rw (sym a.3) (map_in P.lead a.0 (filter (following P) N) (filter_in (following P) a.0 N a.2 a.1))

  pub two_each : 2 * length (groups P N) + length (unmerged P N) ≤ length N
  two_each =
      let d : Distinct (groups P N) = filter_distinct (leading P) N g.distinct in
      let h : length (groups P N) ≤ length (map P.lead (filter (following P) N)) = pigeon (groups P N) (map P.lead (filter (following P) N)) d leads_in_lem in
      let l = map_length P.lead (filter (following P) N) in
      let t = three_ways P N in
      omega arith

  pub counts : (n : ℕ) → In n N → Counted P (groups P N) (unmerged P N) n
  counts n i = (
    λ m. let x = g.named n i m in filter_in (leading P) (P.lead n) N (rw (x.1, eq-eqb (P.lead (P.lead n)) (P.lead n) x.2)) x.0,
    λ m. filter_in (single P) n N (rw m) i,
  )

  -- with at most 126 packages
  pub most_of : length N ≤ 126 → most P (groups P N) (unmerged P N) ≤ 2079
  most_of h = let t = two_each in at_most (length (groups P N)) (length (unmerged P N)) (omega arith)
