-- What byte 1 and the text of a record may be, as the code tests it: a chain of guards that says the same as `first_good`.
use Rattle.std.specs.Prelude.{◌≡◌, Bool, MatchBool, HoldsAt, ◌&&◌, List, [], ◌∷◌, ℕ, zero, suc, ◌+◌, ◌*◌, ◌-◌, ◌/◌, ◌≤◌, ◌<◌, length, get_or, take, drop, leb, ltb, eqb}
use Rattle.std.specs.List.{AllWithin}
use Rattle.std.specs.Int.{w64, from_le_bytes}
use Rattle.std.specs.Simd.{first_chunks}
use Rattle.std.proofs.Math.Path.{refl, sym, ap}
use Rattle.std.proofs.Common.{◌∙◌, add-one, get_or-take, length-drop, drop_of_length-le, drop-cons, drop-drop}
use Rattle.std.proofs.Math.Bool.{true, false}
use Rattle.std.proofs.lemmas.Bool.{false≢true}
use native.Mathlib.Omega.{arith}
use Rattle.std.proofs.Math.Seq.{get_or-drop}
use borrow.Author.Tests.{lt-leb, le-leb, le-ltb, eq-eqb, ne_eqb, ltb-true, ltb-false}
use Rattle.basis.specs.Lists.{all}
use Rattle.basis.specs.Members.{split}
use Rattle.basis.specs.Guard.{guard}
use Rattle.basis.specs.Laws.Guard.{guard_no, guard_yes}
use Rattle.records.specs.declared.First.{First}
use Rattle.records.specs.declared.First.TheVariants as F
use Rattle.records.specs.Shapes.{Rec}
use Rattle.records.specs.Read.{rec_text, zeros, first_good}

-- ---- every byte of a text passes

-- "each from 32 to 126"
abbrev pub in_text : ℕ → Bool
in_text x = leb 32 x && leb x 126

unfoldable pub all_text : List ℕ → Bool
all_text s = all in_text s

unfoldable pub all_zero : List ℕ → Bool
all_zero s = zeros s

module _ (p : ℕ → Bool) (s : List ℕ) (k : ℕ) (h : k < length s) (w : Bool) (inv : all p (drop k s) ≡ w) where
  all_on : p (get_or s k 0) ≡ true → all p (drop (k + 1) s) ≡ w
  all_on e = rw add-one (sym (rw (e, all) at (ap (all p) (drop-cons s k 0 h))) ∙ inv)

  all_off : p (get_or s k 0) ≡ false → false ≡ w
  all_off e = sym (rw (e, all) at (ap (all p) (drop-cons s k 0 h))) ∙ inv

all_end : (p : ℕ → Bool) (s : List ℕ) (k : ℕ) (w : Bool) → length s ≤ k → all p (drop k s) ≡ w → true ≡ w
all_end p s k w h inv = rw (drop_of_length-le s h) at inv

-- what `Iterator::all` tells of each element, or of one of them
pub all_by : (p : ℕ → Bool) (s : List ℕ) (r : Bool)
    → MatchBool r (AllWithin (λ x. p x ≡ true) s 0 (length s)) ((k : ℕ) × (k < length s) × HoldsAt (λ x. p x ≡ false) s k) → r ≡ all p s
all_by p s true h = each s (λ k l. h k 0 (omega arith) l)
  where
    each : (xs : List ℕ) → ((k : ℕ) → k < length xs → p (get_or xs k 0) ≡ true) → true ≡ all p xs
    each [] f = refl
    each (x ∷ xs) f = rw (f 0 (omega arith), all) (each xs (λ k l. f (suc k) (omega arith)))
all_by p s false (k, l, h) = one s k l (h 0)
  where
    one : (xs : List ℕ) (j : ℕ) → j < length xs → p (get_or xs j 0) ≡ false → false ≡ all p xs
    one [] j l e = absurd (omega arith)
    one (x ∷ xs) zero l e = rw (e, all)
    one (x ∷ xs) (suc j) l e = split (p x) (λ q. rw (q, all) (one xs j (omega arith) e)) (λ q. rw (q, all))

pub text_by : (s : List ℕ) (r : Bool) → MatchBool r (AllWithin (λ x. in_text x ≡ true) s 0 (length s)) ((k : ℕ) × (k < length s) × HoldsAt (λ x. in_text x ≡ false) s k)
    → r ≡ all_text s
unfolding all_text
text_by s r h = all_by in_text s r h

pub zeros_by : (s : List ℕ) (r : Bool) → MatchBool r (AllWithin (λ x. eqb 0 x ≡ true) s 0 (length s)) ((k : ℕ) × (k < length s) × HoldsAt (λ x. eqb 0 x ≡ false) s k)
    → r ≡ all_zero s
unfolding all_zero
zeros_by s r h = all_by (eqb 0) s r h

-- what is left of a text from byte k on says what the whole says
unfoldable pub TextLeft : List ℕ → ℕ → Type 0
TextLeft s k = all in_text (drop k s) ≡ all_text s

unfoldable pub ZeroLeft : List ℕ → ℕ → Type 0
ZeroLeft s k = zeros (drop k s) ≡ all_zero s

module _ (s : List ℕ) where
  pub text_start : TextLeft s 0
  unfolding TextLeft all_text
  text_start = refl

  pub zero_start : ZeroLeft s 0
  unfolding ZeroLeft all_zero
  zero_start = refl

  module _ (k b : ℕ) where
    pub text_low : TextLeft s k → k < length s → b < 32 → b ≡ get_or s k 0 → false ≡ all_text s
    unfolding TextLeft
    text_low inv h l e = all_off in_text s k h (all_text s) inv (rw (← e, lt-leb 32 b l))

    pub text_high : TextLeft s k → k < length s → 126 < b → 32 ≤ b → b ≡ get_or s k 0 → false ≡ all_text s
    unfolding TextLeft
    text_high inv h l g e = all_off in_text s k h (all_text s) inv (rw (← e, le-leb 32 b g, lt-leb b 126 l))

    pub text_next : TextLeft s k → k < length s → 32 ≤ b → b ≤ 126 → b ≡ get_or s k 0 → TextLeft s (k + 1)
    unfolding TextLeft
    text_next inv h l g e = all_on in_text s k h (all_text s) inv (rw (← e, le-leb 32 b l, le-leb b 126 g))

    pub zero_stop : ZeroLeft s k → k < length s → 0 < b → b ≡ get_or s k 0 → false ≡ all_zero s
    unfolding ZeroLeft
    zero_stop inv h l e = all_off (eqb 0) s k h (all_zero s) inv (rw (← e) (ne_eqb 0 b (λ q. let z : 0 ≡ b = q in omega arith)))

    pub zero_next : ZeroLeft s k → k < length s → b ≤ 0 → b ≡ get_or s k 0 → ZeroLeft s (k + 1)
    unfolding ZeroLeft
    zero_next inv h l e = all_on (eqb 0) s k h (all_zero s) inv (rw (← e) (eq-eqb 0 b (omega arith)))

  pub text_end : (k : ℕ) → TextLeft s k → length s ≤ k → true ≡ all_text s
  unfolding TextLeft
  text_end k inv h = all_end in_text s k (all_text s) h inv

  pub zero_end : (k : ℕ) → ZeroLeft s k → length s ≤ k → true ≡ all_zero s
  unfolding ZeroLeft
  zero_end k inv h = all_end (eqb 0) s k (all_zero s) h inv

-- ---- eight bytes at a time

-- the eight bytes from k on as one number, the lowest first
unfoldable pub eight_at : List ℕ → ℕ → ℕ
eight_at s k =
    get_or s k 0
    + 256 * get_or s (k + 1) 0
    + 65536 * get_or s (k + 2) 0
    + 16777216 * get_or s (k + 3) 0
    + 4294967296 * get_or s (k + 4) 0
    + 1099511627776 * get_or s (k + 5) 0
    + 281474976710656 * get_or s (k + 6) 0
    + 72057594037927936 * get_or s (k + 7) 0

module _ (s : List ℕ) where
  -- a byte that is 0 leaves the rest to say it
  zero_on : (k m : ℕ) → m ≡ k + 1 → ZeroLeft s k → k < length s → get_or s k 0 ≤ 0 → ZeroLeft s m
  zero_on k m e inv h l = rw e (zero_next s k (get_or s k 0) inv h l refl)

  -- a byte is 0, or says it by itself
  zero_or : (k m : ℕ) → m ≡ k + 1 → ZeroLeft s k → k < length s → (get_or s k 0 ≤ 0 → ZeroLeft s m → false ≡ all_zero s) → false ≡ all_zero s
  zero_or k m e inv h go =
      split (ltb 0 (get_or s k 0))
      (λ q. zero_stop s k (get_or s k 0) inv h (ltb-true _ _ q) refl)
      (λ q. go (ltb-false _ _ q) (zero_on k m e inv h (ltb-false _ _ q)))

  pub eight_next : (k w : ℕ) → ZeroLeft s k → k ≤ length s → 8 ≤ length s - k → w ≤ 0 → w ≡ eight_at s k → ZeroLeft s (k + 8)
  unfolding eight_at
  eight_next k w inv d h l e =
      let i1 : ZeroLeft s (k + 1) = zero_on k (k + 1) refl inv (omega arith) (omega arith) in
      let i2 : ZeroLeft s (k + 2) = zero_on (k + 1) (k + 2) (omega arith) i1 (omega arith) (omega arith) in
      let i3 : ZeroLeft s (k + 3) = zero_on (k + 2) (k + 3) (omega arith) i2 (omega arith) (omega arith) in
      let i4 : ZeroLeft s (k + 4) = zero_on (k + 3) (k + 4) (omega arith) i3 (omega arith) (omega arith) in
      let i5 : ZeroLeft s (k + 5) = zero_on (k + 4) (k + 5) (omega arith) i4 (omega arith) (omega arith) in
      let i6 : ZeroLeft s (k + 6) = zero_on (k + 5) (k + 6) (omega arith) i5 (omega arith) (omega arith) in
      let i7 : ZeroLeft s (k + 7) = zero_on (k + 6) (k + 7) (omega arith) i6 (omega arith) (omega arith) in
      zero_on (k + 7) (k + 8) (omega arith) i7 (omega arith) (omega arith)

  pub eight_stop : (k w : ℕ) → ZeroLeft s k → k ≤ length s → 8 ≤ length s - k → 0 < w → w ≡ eight_at s k → false ≡ all_zero s
  unfolding eight_at
  eight_stop k w inv d h l e =
      zero_or k (k + 1) (omega arith) inv (omega arith) (λ z0 i1.
      zero_or (k + 1) (k + 2) (omega arith) i1 (omega arith) (λ z1 i2.
      zero_or (k + 2) (k + 3) (omega arith) i2 (omega arith) (λ z2 i3.
      zero_or (k + 3) (k + 4) (omega arith) i3 (omega arith) (λ z3 i4.
      zero_or (k + 4) (k + 5) (omega arith) i4 (omega arith) (λ z4 i5.
      zero_or (k + 5) (k + 6) (omega arith) i5 (omega arith) (λ z5 i6.
      zero_or (k + 6) (k + 7) (omega arith) i6 (omega arith) (λ z6 i7.
      zero_stop s (k + 7) (get_or s (k + 7) 0) i7 (omega arith) (omega arith) refl)))))))

  -- the 24 bytes of a text
  module _ (h : length s ≡ 24) where
    pub first_used : (u : ℕ) → 0 < u → u ≡ eight_at s 0 → false ≡ all_zero s
    first_used u l e = eight_stop 0 u (zero_start s) (omega arith) (omega arith) l e

    pub second_used : (u v : ℕ) → 0 < v → v ≡ eight_at s 8 → u ≤ 0 → u ≡ eight_at s 0 → false ≡ all_zero s
    second_used u v l e z f = eight_stop 8 v (eight_next 0 u (zero_start s) (omega arith) (omega arith) z f) (omega arith) (omega arith) l e

    pub third_used : (u v w : ℕ) → w ≡ eight_at s 16 → v ≤ 0 → v ≡ eight_at s 8 → u ≤ 0 → u ≡ eight_at s 0 → ltb w 1 ≡ all_zero s
    third_used u v w e y g z f =
        let i : ZeroLeft s 8 = eight_next 0 u (zero_start s) (omega arith) (omega arith) z f in
        let j : ZeroLeft s 16 = eight_next 8 v i (omega arith) (omega arith) y g in
        split (ltb w 1)
        (λ q. q ∙ zero_end s 24 (eight_next 16 w j (omega arith) (omega arith) (let b : w < 1 = ltb-true _ _ q in omega arith) e) (omega arith))
        (λ q. q ∙ eight_stop 16 w j (omega arith) (omega arith) (let b : 1 ≤ w = ltb-false _ _ q in omega arith) e)

-- what all bytes pass, those from j on pass
all_drop : (p : ℕ → Bool) (j : ℕ) (l : List ℕ) → all p l ≡ true → all p (drop j l) ≡ true
all_drop p zero l e = e
all_drop p (suc j) [] e = e
all_drop p (suc j) (x ∷ l) e =
    split (p x)
    (λ q. all_drop p j l (rw (q, all) at e))
    (λ q. absurd (false≢true (rw (q, all) at e)))

-- ---- the eights of a text, as `as_chunks` cuts them

abbrev pub worth : List ℕ → ℕ
worth x = from_le_bytes w64 x

worth_is : (s : List ℕ) → worth (take 8 s) ≡ eight_at s 0
unfolding eight_at
worth_is s =
    let a0 = get_or-take 8 s 0 0 (omega arith) in
    let a1 = get_or-take 8 s 1 0 (omega arith) in
    let a2 = get_or-take 8 s 2 0 (omega arith) in
    let a3 = get_or-take 8 s 3 0 (omega arith) in
    let a4 = get_or-take 8 s 4 0 (omega arith) in
    let a5 = get_or-take 8 s 5 0 (omega arith) in
    let a6 = get_or-take 8 s 6 0 (omega arith) in
    let a7 = get_or-take 8 s 7 0 (omega arith) in
    omega arith

-- all of the first n eights are 0
eights_zero : (n : ℕ) (s : List ℕ) → 8 * n ≤ length s → ((k : ℕ) → k < n → worth (get_or (first_chunks 8 n s) k []) ≡ 0) → zeros (drop (8 * n) s) ≡ zeros s
unfolding ZeroLeft all_zero
eights_zero zero s h f = refl
eights_zero (suc n) s h f =
    let w : eight_at s 0 ≤ 0 = let z = sym (worth_is s) ∙ f 0 (omega arith) in omega arith in
    let i : ZeroLeft s 8 = eight_next s 0 (eight_at s 0) (zero_start s) (omega arith) (omega arith) w refl in
    let e : 8 + 8 * n ≡ 8 * suc n = omega arith in
    ap (λ (k : ℕ). zeros (drop k s)) (sym e) ∙ (ap zeros (sym (drop-drop (8 * n) 8 s))
    ∙ (eights_zero n (drop 8 s) (rw length-drop (omega arith)) (λ k l. f (suc k) (omega arith)) ∙ i))

-- one of them is not
eights_used : (n : ℕ) (s : List ℕ) (k : ℕ) → 8 * n ≤ length s → k < n → 0 < worth (get_or (first_chunks 8 n s) k []) → false ≡ zeros s
unfolding all_zero
eights_used (suc n) s zero h l u =
    eight_stop s 0 (eight_at s 0) (zero_start s) (omega arith) (omega arith) (let z = worth_is s in omega arith) refl
eights_used (suc n) s (suc k) h l u =
    let f : false ≡ zeros (drop 8 s) = eights_used n (drop 8 s) k (rw length-drop (omega arith)) (omega arith) u in
    split (all (eqb 0) s)
    (λ q. absurd (false≢true (f ∙ all_drop (eqb 0) 8 s q)))
    (λ q. sym q)
eights_used zero s k h l u = absurd (omega arith)

length_chunks : (n : ℕ) (s : List ℕ) → length (first_chunks 8 n s) ≡ n
length_chunks zero s = refl
length_chunks (suc n) s = ap suc (length_chunks n (drop 8 s))

-- what `Iterator::all` tells of the eights
abbrev pub Eights : List ℕ → Bool → Type 0
Eights s r =
    MatchBool r (AllWithin (λ x. worth x ≡ 0) (first_chunks 8 (length s / 8) s) 0 (length (first_chunks 8 (length s / 8) s)))
    ((k : ℕ) × (k < length (first_chunks 8 (length s / 8) s)) × HoldsAt (λ x. 0 < worth x) (first_chunks 8 (length s / 8) s) k)

pub eights_all : (s : List ℕ) (r : Bool) → Eights s r → r ≡ true → ZeroLeft s (8 * (length s / 8))
unfolding ZeroLeft all_zero
eights_all s true h e =
    let l = length_chunks (length s / 8) s in
    eights_zero (length s / 8) s (omega arith) (λ k g. h k [] (omega arith) (omega arith))
eights_all s false h e = absurd (false≢true e)

pub eights_not : (s : List ℕ) (r : Bool) → Eights s r → r ≡ false → false ≡ all_zero s
unfolding all_zero
eights_not s false (k, g, h) e = let l = length_chunks (length s / 8) s in eights_used (length s / 8) s k (omega arith) (omega arith) (h [])
eights_not s true h e = absurd (false≢true (sym e))

pub none_one : (w : ℕ) → eqb w 0 ≡ ltb w 1
none_one zero = refl
none_one (suc w) = ne_eqb (suc w) 0 (λ z. (let f : ⊥ = omega arith in f)) ∙ sym (le-ltb (suc w) 1 (omega arith))

pub zero_yes : (x : ℕ) → x ≡ 0 → eqb 0 x ≡ true
zero_yes x e = eq-eqb 0 x (sym e)

pub zero_no : (x : ℕ) → 0 < x → eqb 0 x ≡ false
zero_no x h = ne_eqb 0 x (λ z. (let y : 0 ≡ x = z in let f : ⊥ = omega arith in f))

-- the last eight bytes tell what is left from k on, which is less: some of them are told twice
module _ (s : List ℕ) (k w : ℕ) (inv : ZeroLeft s k) (d : k ≤ length s) (h : 8 ≤ length s) (l : length s - k < 8) (e : w ≡ eight_at s (length s - 8)) where
  abbrev p : ℕ
  p = length s - 8

  long : length (drop p s) ≡ 8
  long = length-drop p s ∙ omega arith

  here : w ≡ eight_at (drop p s) 0
  unfolding eight_at
  here =
      let z : p + 0 ≡ p = omega arith in
      e ∙ rw (
        get_or-drop p s 0 0,
        get_or-drop p s 1 0,
        get_or-drop p s 2 0,
        get_or-drop p s 3 0,
        get_or-drop p s 4 0,
        get_or-drop p s 5 0,
        get_or-drop p s 6 0,
        get_or-drop p s 7 0,
        z,
      )

  further : drop k s ≡ drop (k - p) (drop p s)
  further = let z : p + (k - p) ≡ k = omega arith in sym (drop-drop (k - p) p s ∙ ap (λ (n : ℕ). drop n s) z)

  clean : w ≤ 0 → true ≡ all_zero s
  unfolding ZeroLeft all_zero
  clean z =
      let i : ZeroLeft (drop p s) 8 = eight_next (drop p s) 0 w (zero_start (drop p s)) (omega arith) (omega (arith, long)) z here in
      let t : all (eqb 0) (drop p s) ≡ true = sym (zero_end (drop p s) 8 i (omega (arith, long))) in
      sym (all_drop (eqb 0) (k - p) (drop p s) t) ∙ ap (all (eqb 0)) (sym further) ∙ inv

  used : 0 < w → false ≡ all_zero s
  unfolding all_zero
  used z =
      let f : false ≡ all (eqb 0) (drop p s) = eight_stop (drop p s) 0 w (zero_start (drop p s)) (omega arith) (omega (arith, long)) z here in
      split (all (eqb 0) s)
      (λ q. absurd (false≢true (f ∙ all_drop (eqb 0) p s q)))
      (λ q. sym q)

  pub last_eight : ltb w 1 ≡ all_zero s
  last_eight =
      split (ltb w 1)
      (λ q. q ∙ clean (let b : w < 1 = ltb-true _ _ q in omega arith))
      (λ q. q ∙ used (let b : 1 ≤ w = ltb-false _ _ q in omega arith))

-- ---- byte 1 and the text

-- no byte of the text is used from byte n on
unfoldable pub rest_zero : Rec → ℕ → Bool
unfolding all_zero
rest_zero r n = all_zero (drop n r.text)

unfoldable pub text_pass : Rec → Bool
text_pass r =
    guard (leb 1 r.first) false
    (guard (leb r.first 24) false
    (guard (all_text (rec_text r)) false
    (rest_zero r r.first)))

abbrev pub first_at : First → Rec → Bool
first_at F.Length r = text_pass r
first_at F.Flag r = guard (leb r.first 1) false (rest_zero r 0)
first_at F.Unused r = guard (eqb r.first 0) false (rest_zero r 0)

unfoldable pub first_pass : First → Rec → Bool
first_pass f r = first_at f r

pub first_at_lem : (f g : First) (r : Rec) (x : Bool) → f ≡ g → x ≡ first_at g r → x ≡ first_pass f r
unfolding first_pass
first_at_lem f g r x e q = rw e q

-- a byte b tested as `if b < n { return bad; }`
pub low_no : {X : Type 0} (bad on : X) (b a n : ℕ) → b < n → b ≡ a → bad ≡ guard (leb n a) bad on
low_no bad on b a n h e = guard_no bad on (leb n a) (lt-leb n a (rw e at h))

pub low_yes : {X : Type 0} (bad on : X) (b a n : ℕ) (x : X) → n ≤ b → b ≡ a → x ≡ on → x ≡ guard (leb n a) bad on
low_yes bad on b a n x h e q = guard_yes bad on (leb n a) x (le-leb n a (rw e at h)) q

-- what a call said of a part that another call handed out
pub all_text_via : (s t : List ℕ) (x : Bool) → s ≡ t → x ≡ all_text s → x ≡ all_text t
all_text_via s t x e q = rw e at q

pub rest_zero_via : (r : Rec) (b a : ℕ) (x : Bool) → b ≡ a → x ≡ rest_zero r b → x ≡ rest_zero r a
rest_zero_via r b a x e q = rw e at q

pub rest_zero_is : (r : Rec) (b : ℕ) (s : List ℕ) (x : Bool) → s ≡ drop b r.text → x ≡ all_zero s → x ≡ rest_zero r b
unfolding rest_zero
rest_zero_is r b s x e q = rw e at q

pub guard_and : (b x y : Bool) → x ≡ y → guard b false x ≡ (b && y)
unfolding guard
guard_and true x y e = e
guard_and false x y e = refl

pub first_is_good : (f : First) (r : Rec) → first_pass f r ≡ first_good f r
unfolding first_pass text_pass all_text rest_zero all_zero
first_is_good F.Length r =
    guard_and (leb 1 r.first) _ _ (guard_and (leb r.first 24) _ _ (guard_and (all in_text (rec_text r)) _ _ refl))
first_is_good F.Flag r = guard_and (leb r.first 1) _ _ refl
first_is_good F.Unused r = guard_and (eqb r.first 0) _ _ refl
