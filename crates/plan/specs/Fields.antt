-- The packed plan: `p`, 1,280 words of 64 bits, and `k`, 1,024 numbers of 16 bits. Node n has its head at n and its tail at
-- 128 + n in p, run r its word at 256 + r; kids of runs and version sets of constraining packages are stretches of k.
-- A head, from its lowest bits: first run (11 bits), end of its runs (11), kind of line (3), merged (1), lead (7), next member
-- of its group + 1 or 0 (8), number of its solvable (16). A tail: first place in k of its version sets (11), their end (11),
-- number of its reason (16), length of its display text (16). A run: first place in k of its kids (11), their end (11), number
-- of its requirement (16), wording (2).
use Rattle.std.specs.Prelude.{◌≡◌, refl, Option, Some, None, Bool, cond, List, [], ◌∷◌, map, ℕ, zero, suc, ◌+◌, ◌-◌, ◌/◌, ◌%◌, ◌≤◌, ◌<◌, length, get_or, eqb, ltb}
use Rattle.std.proofs.Common.{sym, ap, ◌∙◌, not-suc-le-zero, add-one, sub-one, arith}
use borrow.Author.Tests.{lt-ltb, le-ltb, ltb-true}
use Rattle.basis.specs.Lists.{upto}
use Rattle.basis.specs.Members.{split}
use Rattle.machine.specs.Machine.{Plan, State, start}
use Rattle.plan.specs.Plan.{Kind, excluded, bare, conflicting, constraining, requiring, is_requiring}

-- ---- the words; past its part of the table a node or a run has the word 0

unfoldable pub head_in : List ℕ → ℕ → ℕ
head_in p n = cond (ltb n 128) (get_or p n 0) 0

unfoldable pub tail_in : List ℕ → ℕ → ℕ
tail_in p n = cond (ltb n 128) (get_or p (128 + n) 0) 0

unfoldable pub run_in : List ℕ → ℕ → ℕ
run_in p r = cond (ltb r 1024) (get_or p (256 + r) 0) 0

-- as code reads them
module _ (p : List ℕ) (n w : ℕ) where
  pub head_in_lem : n < 128 → w ≡ get_or p n 0 → w ≡ head_in p n
  unfolding head_in
  head_in_lem h e = rw (lt-ltb n 128 h) e

  pub tail_in_lem : n < 128 → w ≡ get_or p (128 + n) 0 → w ≡ tail_in p n
  unfolding tail_in
  tail_in_lem h e = rw (lt-ltb n 128 h) e

  pub run_in_lem : n < 1024 → w ≡ get_or p (256 + n) 0 → w ≡ run_in p n
  unfolding run_in
  run_in_lem h e = rw (lt-ltb n 1024 h) e

module _ (p : List ℕ) (n : ℕ) where
  pub head_out : 128 ≤ n → 0 ≡ head_in p n
  unfolding head_in
  head_out h = rw (le-ltb n 128 h)

  pub tail_out : 128 ≤ n → 0 ≡ tail_in p n
  unfolding tail_in
  tail_out h = rw (le-ltb n 128 h)

  pub run_out : 1024 ≤ n → 0 ≡ run_in p n
  unfolding run_in
  run_out h = rw (le-ltb n 1024 h)

-- ---- the fields of a node

unfoldable pub run_first : List ℕ → ℕ → ℕ
run_first p n = head_in p n % 2048

unfoldable pub run_end : List ℕ → ℕ → ℕ
run_end p n = head_in p n / 2048 % 2048

-- 0 excluded, 1 bare, 2 conflicting, 3 constraining, 4 requiring
unfoldable pub tag_in : List ℕ → ℕ → ℕ
tag_in p n = head_in p n / 4194304 % 8

unfoldable pub merged_in : List ℕ → ℕ → Bool
merged_in p n = eqb (head_in p n / 33554432 % 2) 1

unfoldable pub lead_in : List ℕ → ℕ → ℕ
lead_in p n = head_in p n / 67108864 % 128

-- as one_more: one more than the next member's number, or 0
unfoldable pub mate_field : List ℕ → ℕ → ℕ
mate_field p n = head_in p n / 8589934592 % 256

unfoldable pub solvable_in : List ℕ → ℕ → ℕ
solvable_in p n = head_in p n / 2199023255552 % 65536

unfoldable pub sets_first : List ℕ → ℕ → ℕ
sets_first p n = tail_in p n % 2048

unfoldable pub sets_end : List ℕ → ℕ → ℕ
sets_end p n = tail_in p n / 2048 % 2048

unfoldable pub reason_in : List ℕ → ℕ → ℕ
reason_in p n = tail_in p n / 4194304 % 65536

unfoldable pub text_length : List ℕ → ℕ → ℕ
text_length p n = tail_in p n / 274877906944 % 65536

-- the line says "would require"
unfoldable pub opens_in : List ℕ → ℕ → Bool
opens_in p n = ltb 3 (tag_in p n)

pub merged_is : (p : List ℕ) (n w : ℕ) → w ≡ head_in p n → eqb (w / 33554432 % 2) 1 ≡ merged_in p n
unfolding merged_in
merged_is p n w e = rw e

pub opens_is : (p : List ℕ) (n t : ℕ) → t ≡ tag_in p n → ltb 3 t ≡ opens_in p n
unfolding opens_in
opens_is p n t e = rw e

-- ---- the fields of a run

unfoldable pub kid_first : List ℕ → ℕ → ℕ
kid_first p r = run_in p r % 2048

unfoldable pub kid_end : List ℕ → ℕ → ℕ
kid_end p r = run_in p r / 2048 % 2048

unfoldable pub requirement_in : List ℕ → ℕ → ℕ
requirement_in p r = run_in p r / 4194304 % 65536

-- 0 no candidates, 1 installable, 2 no viable options
unfoldable pub wording_in : List ℕ → ℕ → ℕ
wording_in p r = run_in p r / 274877906944 % 4

-- ---- the places of k

unfoldable pub kid_at : List ℕ → ℕ → ℕ
kid_at k i = get_or k i 0 % 128

unfoldable pub set_at : List ℕ → ℕ → ℕ
set_at k i = get_or k i 0

-- ---- runs and kids, from a first to an end, in the order in which they are popped

unfoldable pub runs_from : ℕ → ℕ → List ℕ
runs_from r e = upto (e - r) r

pub runs_none : (r e : ℕ) → e ≤ r → runs_from r e ≡ []
unfolding runs_from
runs_none r e h = let z : e - r ≡ 0 = omega arith in rw z

pub runs_more : (r e : ℕ) → r < e → runs_from r e ≡ r ∷ runs_from (r + 1) e
unfolding runs_from
runs_more r e h = let z : e - r ≡ suc (e - (r + 1)) = omega arith in rw (z, add-one)

unfoldable pub kids_from : List ℕ → ℕ → ℕ → List ℕ
kids_from k i e = map (kid_at k) (upto (e - i) i)

pub kids_none : (k : List ℕ) (i e : ℕ) → e ≤ i → kids_from k i e ≡ []
unfolding kids_from
kids_none k i e h = let z : e - i ≡ 0 = omega arith in rw z

pub kids_more : (k : List ℕ) (i e : ℕ) → i < e → kids_from k i e ≡ kid_at k i ∷ kids_from k (i + 1) e
unfolding kids_from
kids_more k i e h = let z : e - i ≡ suc (e - (i + 1)) = omega arith in rw (z, add-one)

-- ---- version sets, from the end down to the first: that is the order of their lines

abbrev sets_down : List ℕ → ℕ → ℕ → List ℕ
sets_down k zero i = []
sets_down k (suc c) i = set_at k (i + c) ∷ sets_down k c i

unfoldable pub sets_from : List ℕ → ℕ → ℕ → List ℕ
sets_from k i e = sets_down k (e - i) i

pub sets_none : (k : List ℕ) (i e : ℕ) → e ≤ i → sets_from k i e ≡ []
unfolding sets_from
sets_none k i e h = let z : e - i ≡ 0 = omega arith in rw z

pub sets_more : (k : List ℕ) (i e : ℕ) → i < e → sets_from k i e ≡ set_at k (e - 1) ∷ sets_from k i (e - 1)
unfolding sets_from
sets_more k i e h =
    let z : e - i ≡ suc (e - 1 - i) = omega arith in
    let y : i + (e - 1 - i) ≡ e - 1 = omega arith in
    rw (z, y)

-- ---- the members of a group, by their numbers plus one, 0 at the end: the next has a greater number, or there is none

-- a member that there may be, as it is one_more
abbrev pub one_more : Option ℕ → ℕ
one_more None = 0
one_more (Some n) = n + 1

unfoldable pub mate_in : List ℕ → ℕ → ℕ
mate_in p n = cond (ltb (n + 1) (mate_field p n)) (mate_field p n) 0

-- as code finds it
module _ (p : List ℕ) (n m : ℕ) (is : m ≡ mate_field p n) where
  pub mate_some : n + 1 < m → m ≡ mate_in p n
  unfolding mate_in
  mate_some h = rw (← is, lt-ltb (n + 1) m h)

  pub mate_none : m ≤ n + 1 → 0 ≡ mate_in p n
  unfolding mate_in
  mate_none h = rw (← is, le-ltb (n + 1) m h)

  -- past the nodes
  pub mate_past : 128 ≤ n → 0 ≡ mate_in p n
  unfolding mate_field
  mate_past h = let z : m ≡ 0 = is ∙ rw (← head_out p n h) in mate_none (omega arith)

abbrev pub mates_by : List ℕ → ℕ → ℕ → List ℕ
mates_by p zero x = []
mates_by p (suc c) zero = []
mates_by p (suc c) (suc n) = n ∷ mates_by p c (mate_in p n)

-- member x - 1 and those behind it
unfoldable pub mates_from : List ℕ → ℕ → List ℕ
mates_from p x = mates_by p (256 - x) x

mate_cases : {X : Type 0} (p : List ℕ) (n : ℕ) → (mate_in p n ≡ 0 → X) → (n + 1 < mate_in p n → mate_in p n < 256 → X) → X
unfolding mate_in mate_field
mate_cases p n f g =
    split (ltb (n + 1) (mate_field p n))
    (λ t. g (rw t (ltb-true (n + 1) (mate_field p n) t)) (rw t (omega arith)))
    (λ t. f (rw t))

pub mate_below : (p : List ℕ) (n : ℕ) → mate_in p n < 256
mate_below p n = mate_cases p n (λ z. omega arith) (λ l b. b)

mates_zero : (p : List ℕ) (c : ℕ) → mates_by p c 0 ≡ []
mates_zero p zero = refl
mates_zero p (suc c) = refl

mates_enough : (p : List ℕ) (c d x : ℕ) → x < 256 → 256 - x ≤ c → 256 - x ≤ d → mates_by p c x ≡ mates_by p d x
mates_enough p zero d x h a b = absurd (never a)
  where
    never : 256 - x ≤ 0 → ⊥
    never a = omega arith
mates_enough p (suc c) d zero h a b = sym (mates_zero p d)
mates_enough p (suc c) zero (suc n) h a b = absurd (never b)
  where
    never : 256 - suc n ≤ 0 → ⊥
    never b = omega arith
mates_enough p (suc c) (suc d) (suc n) h a b =
    ap (λ (l : List ℕ). n ∷ l)
    (mate_cases p n
    (λ z. rw z (mates_zero p c ∙ sym (mates_zero p d)))
    (λ l u. mates_enough p c d (mate_in p n) u (omega arith) (omega arith)))

pub mates_none : (p : List ℕ) (x : ℕ) → x ≤ 0 → mates_from p x ≡ []
unfolding mates_from
mates_none p zero h = mates_zero p 256
mates_none p (suc x) h = absurd (not-suc-le-zero h)

pub mates_more : (p : List ℕ) (x : ℕ) → 0 < x → x < 256 → mates_from p x ≡ (x - 1) ∷ mates_from p (mate_in p (x - 1))
unfolding mates_from
mates_more p zero h l = absurd (not-suc-le-zero h)
mates_more p (suc n) h l =
    let z : 256 - suc n ≡ suc (255 - suc n) = omega arith in
    rw (sub-one, z)
    (ap (λ (m : List ℕ). n ∷ m)
    (mate_cases p n
    (λ q. rw q (mates_zero p (255 - suc n) ∙ sym (mates_zero p 256)))
    (λ m u. mates_enough p (255 - suc n) (256 - mate_in p n) (mate_in p n) u (omega arith) (omega arith))))

pub mates_less : (p : List ℕ) (x : ℕ) → 0 < x → x < 256 → length (mates_from p (mate_in p (x - 1))) < length (mates_from p x)
mates_less p x h l = rw (mates_more p x h l) (omega arith)

-- ---- the plan, over run numbers

unfoldable pub runs_in : List ℕ → ℕ → List ℕ
runs_in p n = runs_from (run_first p n) (run_end p n)

unfoldable pub kids_in : List ℕ → List ℕ → ℕ → List ℕ
kids_in p k r = kids_from k (kid_first p r) (kid_end p r)

unfoldable pub sets_in : List ℕ → List ℕ → ℕ → List ℕ
sets_in p k n = sets_from k (sets_first p n) (sets_end p n)

abbrev pub kind_by : ℕ → ℕ → List ℕ → Kind
kind_by zero r vs = excluded r
kind_by (suc zero) r vs = bare
kind_by (suc (suc zero)) r vs = conflicting
kind_by (suc (suc (suc zero))) r vs = constraining vs
kind_by (suc (suc (suc (suc t)))) r vs = requiring

unfoldable pub kind_in : List ℕ → List ℕ → ℕ → Kind
kind_in p k n = kind_by (tag_in p n) (reason_in p n) (sets_in p k n)

unfoldable pub members_in : List ℕ → ℕ → List ℕ
members_in p n = mates_from p (lead_in p n + 1)

unfoldable pub plan_in : List ℕ → List ℕ → Plan ℕ
plan_in p k = record { opens = opens_in p; runs = runs_in p; kids = kids_in p k; merged = merged_in p; lead = lead_in p }

unfoldable pub start_in : List ℕ → State ℕ
start_in p = start (runs_in p 0)

-- ---- a line that says "would require"

opens_by : (t r : ℕ) (vs : List ℕ) → ltb 3 t ≡ is_requiring (kind_by t r vs)
opens_by zero r vs = refl
opens_by (suc zero) r vs = refl
opens_by (suc (suc zero)) r vs = refl
opens_by (suc (suc (suc zero))) r vs = refl
opens_by (suc (suc (suc (suc t)))) r vs = lt-ltb 3 (suc (suc (suc (suc t)))) (omega arith)

pub opens_kind : (p k : List ℕ) (n : ℕ) → opens_in p n ≡ is_requiring (kind_in p k n)
unfolding opens_in kind_in
opens_kind p k n = opens_by (tag_in p n) (reason_in p n) (sets_in p k n)
