-- The ways through the counting loops.
use Rattle.std.specs.Prelude.{◌≡◌, refl, Bool, not, List, ℕ, suc, ◌+◌, ◌-◌, ◌≤◌, ◌<◌, get_or, eqb, ltb}
use Rattle.std.proofs.Math.Path.{sym}
use Rattle.std.proofs.Common.{ap, ◌∙◌, arith, add-one}
use Rattle.std.proofs.Math.Bool.{true, false}
use borrow.Author.Tests.{not-true, not-false}
use Rattle.basis.specs.Lists.{filter}
use Rattle.basis.specs.Members.{split}
use Rattle.store.specs.declared.Size.{Size}
use Rattle.labels.specs.Marks.{miss_at}
use Rattle.plan.specs.Fields.{merged_in, lead_in}
use Rattle.seasons.specs.declared.tally.Counts.{Counts}
use Rattle.seasons.specs.Tally.{bumped, passing, leads_in, counts_in}

pub lacks_is : (ms : List ℕ) (i w : ℕ) → w ≡ get_or ms i 0 → ltb 1 w ≡ miss_at ms i
unfolding miss_at
lacks_is ms i w e = rw e

module _ (p : List ℕ) (i : ℕ) (t : Bool) (e : t ≡ merged_in p i) where
  pub leads_no : not t ≡ true → false ≡ leads_in p i
  unfolding leads_in
  leads_no h = let z : merged_in p i ≡ false = sym e ∙ not-true t h in rw z

  pub leads_yes : (l : ℕ) → l ≡ lead_in p i → not t ≡ false → eqb l i ≡ leads_in p i
  unfolding leads_in
  leads_yes l q h = let z : merged_in p i ≡ true = sym e ∙ not-false t h in rw (z, q)

pub bump_yes : (c : ℕ) (t : Bool) → t ≡ true → c + 1 ≡ bumped c t
bump_yes c t h = rw h

pub bump_no : (c : ℕ) (t : Bool) → t ≡ false → c ≡ bumped c t
bump_no c t h = rw h

-- ---- the loop

pub count_start : (p : ℕ → Bool) (n : ℕ) → 0 + passing p n 0 ≡ passing p n 0
count_start p n = omega arith

passing_one : (p : ℕ → Bool) (n i : ℕ) → i < n → passing p n i ≡ bumped (passing p n (suc i)) (p i)
unfolding passing
passing_one p n i h =
    let z : n - i ≡ suc (n - suc i) = omega arith in
    rw z (split (p i) (λ t. rw (t, filter) (omega arith)) (λ t. rw (t, filter)))

bumped_sum : (c a : ℕ) (t : Bool) → bumped c t + a ≡ c + bumped a t
bumped_sum c a true = omega arith
bumped_sum c a false = refl

pub count_next : (p : ℕ → Bool) (n i c r x : ℕ) (t : Bool) → c + passing p n i ≡ x → i < n → t ≡ p i → r ≡ bumped c t → r + passing p n (i + 1) ≡ x
count_next p n i c r x t inv h e q =
    rw (add-one, q, e) (bumped_sum c (passing p n (suc i)) (p i) ∙ ap (λ (k : ℕ). c + k) (sym (passing_one p n i h)) ∙ inv)

bumped_most : (c : ℕ) (t : Bool) → bumped c t ≤ c + 1
bumped_most c true = omega arith
bumped_most c false = omega arith

pub bump_few : (c i r : ℕ) (t : Bool) → c ≤ i → r ≡ bumped c t → r ≤ i + 1
bump_few c i r t h q = omega (arith, bumped_most c t)

pub count_end : (p : ℕ → Bool) (n i c x : ℕ) → c + passing p n i ≡ x → n ≤ i → c ≡ x
unfolding passing
count_end p n i c x inv h = let z : n - i ≡ 0 = omega arith in let y : c + 0 ≡ x = rw z at inv in omega arith

pub counts_via : (p ms : List ℕ) (s : Size) (n g m a b c d : ℕ) → g ≡ passing (leads_in p) s.nodes 0 → m ≡ passing (miss_at ms) s.nodes 0
    → a ≡ s.nodes → b ≡ s.edges → c ≡ g → d ≡ m → ◌≡◌ {A = Counts} (record { nodes = a; edges = b; groups = c; missing = d }) (counts_in p ms s)
unfolding counts_in
counts_via p ms s n g m a b c d h k e f i j = rw (e, f, i, j, h, k)
