-- Laws of the levels held: one for each way out of the indenter's methods, and those by which a loop that keeps one
-- indenter knows the marks of every level above it.
use Rattle.std.specs.Prelude.{◌≡◌, refl, Bool, true, false, List, ◌∷◌, ℕ, zero, suc, ◌+◌, ◌-◌, ◌/◌, ◌%◌, ◌≤◌, ◌<◌, length, get_or, set, drop, eqb, ltb}
use Rattle.std.proofs.Common.{ap, ◌∙◌, add-one, arith, length-drop, get_or-set_same, get_or-set_other, drop-drop}
use borrow.Author.Tests.{eqb-true, eqb-false, ltb-true, ltb-false, lt-ltb, le-ltb, eq-eqb, ne_eqb}
use Rattle.basis.specs.Members.{split}
use Rattle.texts.specs.MarkBits.{bit, marks_at, marks_in, pushed, last_set, upper, kept_of, marked, put_at, last_at, level_count, level_words, digit_same}
use Rattle.texts.specs.MarkBits.{digit_low}
use Rattle.texts.specs.declared.Indenter.{Indenter}

-- ---- words

bit_same : (ws : List ℕ) (i : ℕ) (m : Bool) → i / 64 < length ws
    → bit (set ws (i / 64) (marked (get_or ws (i / 64) 0) (i % 64) m)) i ≡ m
unfolding bit
bit_same ws i true h = rw (get_or-set_same ws (i / 64) (marked (get_or ws (i / 64) 0) (i % 64) true) 0 h, digit_same)
bit_same ws i false h = rw (get_or-set_same ws (i / 64) (marked (get_or ws (i / 64) 0) (i % 64) false) 0 h, digit_same)

bit_upper : (ws : List ℕ) (i j : ℕ) (m : Bool) → i / 64 < length ws → j < i
    → bit (set ws (i / 64) (marked (get_or ws (i / 64) 0) (i % 64) m)) j ≡ bit ws j
unfolding bit
bit_upper ws i j m h l =
    split (eqb (j / 64) (i / 64))
    (λ q.
    let e : j / 64 ≡ i / 64 = eqb-true (j / 64) (i / 64) q in
    let k : j % 64 < i % 64 = omega arith in
    rw (e, get_or-set_same ws (i / 64) (marked (get_or ws (i / 64) 0) (i % 64) m) 0 h, digit_low (get_or ws (i / 64) 0) (i % 64) (j % 64) m k))
    (λ q. rw (get_or-set_other ws (i / 64) (j / 64) (marked (get_or ws (i / 64) 0) (i % 64) m) 0 (eqb-false (j / 64) (i / 64) q)))

marks_upper : (ws : List ℕ) (i n : ℕ) (m : Bool) → i / 64 < length ws → n ≤ i
    → marks_at (set ws (i / 64) (marked (get_or ws (i / 64) 0) (i % 64) m)) n ≡ marks_at ws n
unfolding marks_at
marks_upper ws i zero m h l = refl
marks_upper ws i (suc n) m h l = rw (bit_upper ws i n m h (omega arith), marks_upper ws i n m h (omega arith))

marks_stored : (ws : List ℕ) (i : ℕ) (m : Bool) → i / 64 < length ws
    → marks_at (set ws (i / 64) (marked (get_or ws (i / 64) 0) (i % 64) m)) (suc i) ≡ m ∷ marks_at ws i
unfolding marks_at
marks_stored ws i m h = rw (bit_same ws i m h, marks_upper ws i i m h (omega arith))

marks_length : (ws : List ℕ) (n : ℕ) → length (marks_at ws n) ≡ n
unfolding marks_at
marks_length ws zero = refl
marks_length ws (suc n) = ap suc (marks_length ws n)

marks_drop : (ws : List ℕ) (d n : ℕ) → drop d (marks_at ws n) ≡ marks_at ws (n - d)
unfolding marks_at
marks_drop ws zero n = let z : n - 0 ≡ n = omega arith in rw z
marks_drop ws (suc d) zero = let z : 0 - suc d ≡ 0 = omega arith in rw z
marks_drop ws (suc d) (suc n) = let z : suc n - suc d ≡ n - d = omega arith in rw z (marks_drop ws d n)

-- ---- ways out

pub marks_count : (x : Indenter) → length (marks_in x) ≡ x.count
unfolding marks_in
marks_count x = marks_length x.levels x.count

pub push_full : (x : Indenter) (m : Bool) → 4160 ≤ x.count → marks_in x ≡ pushed m (marks_in x)
unfolding pushed
push_full x m h = rw (marks_count, le-ltb x.count 4160 h)

pub push_more : (x : Indenter) (w : ℕ) (m : Bool) → w ≡ marked (get_or x.levels (x.count / 64) 0) (x.count % 64) m
    → length x.levels ≡ 65 → x.count < 4160
    → marks_in (record { levels = set x.levels (x.count / 64) w; count = x.count + 1; top = x.top }) ≡ pushed m (marks_in x)
unfolding marks_in pushed
push_more x w m e l h =
    let k : x.count / 64 < length x.levels = omega arith in
    rw (marks_length, lt-ltb x.count 4160 h, e, add-one) (marks_stored x.levels x.count m k)

pub last_none : (x : Indenter) → x.count ≡ 0 → marks_in x ≡ last_set (marks_in x)
unfolding marks_in marks_at
last_none x e = rw e

marks_more : (ws : List ℕ) (n : ℕ) → marks_at ws (suc n) ≡ bit ws n ∷ marks_at ws n
unfolding marks_at
marks_more ws n = refl

last_at_suc : (ws : List ℕ) (n p w : ℕ) → p ≡ n → w ≡ marked (get_or ws (p / 64) 0) (p % 64) true → length ws ≡ 65
    → suc n ≤ 4160 → marks_at (set ws (p / 64) w) (suc n) ≡ last_set (marks_at ws (suc n))
last_at_suc ws n p w q e l h =
    let k : n / 64 < length ws = omega arith in
    rw (e, q, marks_more ws n) (marks_stored ws n true k)

last_at_lem : (ws : List ℕ) (n w : ℕ) → w ≡ marked (get_or ws ((n - 1) / 64) 0) ((n - 1) % 64) true → length ws ≡ 65
    → (n ≡ 0 → ⊥) → n ≤ 4160 → marks_at (set ws ((n - 1) / 64) w) n ≡ last_set (marks_at ws n)
last_at_lem ws zero w e l z h = absurd (z refl)
last_at_lem ws (suc n) w e l z h = last_at_suc ws n (suc n - 1) w (omega arith) e l h

pub last_some : (x : Indenter) (w : ℕ) → w ≡ marked (get_or x.levels ((x.count - 1) / 64) 0) ((x.count - 1) % 64) true
    → length x.levels ≡ 65 → (x.count ≡ 0 → ⊥) → x.count ≤ 4160
    → marks_in (record { levels = set x.levels ((x.count - 1) / 64) w; count = x.count; top = x.top }) ≡ last_set (marks_in x)
unfolding marks_in
last_some x w e l z h = last_at_lem x.levels x.count w e l z h

back_whole : (x : Indenter) (l : ℕ) → x.count ≤ l → marks_in x ≡ upper l (marks_in x)
unfolding upper
back_whole x l h = let z : length (marks_in x) - l ≡ 0 = omega (arith, marks_count x) in rw z

back_cut : (x : Indenter) (l : ℕ) → l < x.count → marks_in (record { levels = x.levels; count = l; top = x.top }) ≡ upper l (marks_in x)
unfolding marks_in upper
back_cut x l h =
    let e : x.count - (x.count - l) ≡ l = omega arith in
    rw (marks_length, marks_drop, e)

pub kept_yes : (count l : ℕ) → l < count → l ≡ kept_of count l
unfolding kept_of
kept_yes count l h = rw (lt-ltb l count h)

pub kept_no : (count l : ℕ) → count ≤ l → count ≡ kept_of count l
unfolding kept_of
kept_no count l h = rw (le-ltb l count h)

kept_marks : (x : Indenter) (l : ℕ) → marks_in (record { levels = x.levels; count = kept_of x.count l; top = x.top }) ≡ upper l (marks_in x)
kept_marks x l =
    split (ltb l x.count)
    (λ q. let h : l < x.count = ltb-true l x.count q in rw (← kept_yes x.count l h) (back_cut x l h))
    (λ q. let h : x.count ≤ l = ltb-false l x.count q in rw (← kept_no x.count l h) (back_whole x l h))

at_full : (x : Indenter) (l n : ℕ) (m : Bool) → n ≡ kept_of x.count l → n ≤ x.count → 4160 ≤ n → x.count ≤ 4160
    → marks_in x ≡ pushed m (upper l (marks_in x))
at_full x l n m e k g h =
    let q : kept_of x.count l ≡ x.count = omega arith in
    let r : marks_in x ≡ upper l (marks_in x) = rw q at (kept_marks x l) in
    rw (← r) (push_full x m (omega arith))

at_more : (x : Indenter) (l n w : ℕ) (m : Bool) → w ≡ marked (get_or x.levels (n / 64) 0) (n % 64) m → n ≡ kept_of x.count l
    → length x.levels ≡ 65 → n < 4160
    → marks_in (record { levels = set x.levels (n / 64) w; count = n + 1; top = x.top }) ≡ pushed m (upper l (marks_in x))
at_more x l n w m e q s h =
    rw (← kept_marks x l, ← q) (push_more (record { levels = x.levels; count = n; top = x.top }) w m e s h)

pub ruleset levels = (push_full, push_more, last_none, last_some)

-- the same, of the indenter itself
pub put_full : (x : Indenter) (n : ℕ) (m : Bool) → 4160 ≤ n → x ≡ put_at x n m
unfolding put_at
put_full x n m h = rw (le-ltb n 4160 h)

pub put_more : (x : Indenter) (n w : ℕ) (m : Bool) → w ≡ marked (get_or x.levels (n / 64) 0) (n % 64) m → n < 4160
    → ◌≡◌ {A = Indenter} (record { levels = set x.levels (n / 64) w; count = n + 1; top = x.top }) (put_at x n m)
unfolding put_at
put_more x n w m e h = rw (lt-ltb n 4160 h, e)

pub last_same : (x : Indenter) → x.count ≡ 0 → x ≡ last_at x
unfolding last_at
last_same x e = rw (eq-eqb x.count 0 e)

pub last_more : (x : Indenter) (w : ℕ) → w ≡ marked (get_or x.levels ((x.count - 1) / 64) 0) ((x.count - 1) % 64) true → (x.count ≡ 0 → ⊥)
    → ◌≡◌ {A = Indenter} (record { levels = set x.levels ((x.count - 1) / 64) w; count = x.count; top = x.top }) (last_at x)
unfolding last_at
last_more x w e h = rw (ne_eqb x.count 0 h, e)

pub ruleset selves = (put_full, put_more, last_same, last_more)

-- ---- for a loop that keeps one indenter

pub pushed_below : (m : Bool) (ms : List Bool) → length ms < 4160 → pushed m ms ≡ m ∷ ms
unfolding pushed
pushed_below m ms h = rw (lt-ltb (length ms) 4160 h)

pub upper_length : (l : ℕ) (ms : List Bool) → l ≤ length ms → length (upper l ms) ≡ l
unfolding upper
upper_length l ms h = rw length-drop (omega arith)

pub upper_whole : (l : ℕ) (ms : List Bool) → length ms ≤ l → upper l ms ≡ ms
unfolding upper
upper_whole l ms h = let z : length ms - l ≡ 0 = omega arith in rw z

pub upper_under : (l : ℕ) (m : Bool) (ms : List Bool) → l ≤ length ms → upper l (m ∷ ms) ≡ upper l ms
unfolding upper
upper_under l m ms h = let z : suc (length ms) - l ≡ suc (length ms - l) = omega arith in rw z

pub upper_own : (m : Bool) (ms : List Bool) → upper (length ms) (m ∷ ms) ≡ ms
upper_own m ms = upper_under (length ms) m ms (omega arith) ∙ upper_whole (length ms) ms (omega arith)

pub upper_upper : (k l : ℕ) (ms : List Bool) → k ≤ l → l ≤ length ms → upper k (upper l ms) ≡ upper k ms
unfolding upper
upper_upper k l ms h g =
    let z : length ms - l + (length (drop (length ms - l) ms) - k) ≡ length ms - k = omega (arith, length-drop (length ms - l) ms) in
    drop-drop (length (drop (length ms - l) ms) - k) (length ms - l) ms ∙ ap (λ (n : ℕ). drop n ms) z

-- ---- ways out of `put_level`

abbrev lent_at : List ℕ → ℕ → Indenter
lent_at ws c = record { levels = ws; count = c; top = true }

module _ (ws : List ℕ) (c l n : ℕ) (m : Bool) (e : n ≡ kept_of c l) where
  pub level_full : 4160 ≤ n → n ≤ c → c ≤ 4160 → marks_at ws c ≡ pushed m (upper l (marks_at ws c))
  unfolding marks_in
  level_full g k h = at_full (lent_at ws c) l n m e k g h

  pub count_full : 4160 ≤ n → c ≡ level_count c l
  unfolding level_count
  count_full g = rw (← e, le-ltb n 4160 g)

  pub words_full : 4160 ≤ n → ws ≡ level_words ws c l m
  unfolding level_words
  words_full g = rw (← e, le-ltb n 4160 g)

  pub count_more : n < 4160 → n + 1 ≡ level_count c l
  unfolding level_count
  count_more g = rw (← e, lt-ltb n 4160 g)

  module _ (w : ℕ) (q : w ≡ marked (get_or ws (n / 64) 0) (n % 64) m) (g : n < 4160) where
    pub level_more : length ws ≡ 65 → marks_at (set ws (n / 64) w) (n + 1) ≡ pushed m (upper l (marks_at ws c))
    unfolding marks_in
    level_more s = at_more (lent_at ws c) l n w m q e s g

    pub words_more : set ws (n / 64) w ≡ level_words ws c l m
    unfolding level_words
    words_more = rw (← e, lt-ltb n 4160 g, q)
