-- Ways out of the small functions of a mark, and of those that put one piece.
use Rattle.std.specs.Prelude.{◌≡◌, refl, Bool, true, false, List, [], ◌∷◌, ◌++◌, ℕ, ◌+◌, ◌≤◌, length, take}
use Rattle.std.proofs.Common.{arith, length-append}
use Rattle.texts.specs.Indent.{older, deepest}
use Rattle.texts.specs.Wrote.{Wrote}
use Rattle.texts.specs.Pieces.{corner_of, bytes_of, pair_word, pair_bytes, BytesLaid}
use Rattle.texts.specs.Shown.{shown_first}

pub first_yes : (t : Bool) → t ≡ true → 0 ≡ shown_first t
unfolding shown_first
first_yes t e = rw e

pub first_no : (t : Bool) → t ≡ false → 1 ≡ shown_first t
unfolding shown_first
first_no t e = rw e

pub corner_yes : (m : Bool) → m ≡ true → 148 ≡ corner_of m
unfolding corner_of
corner_yes m e = rw e

pub corner_no : (m : Bool) → m ≡ false → 156 ≡ corner_of m
unfolding corner_of
corner_no m e = rw e

pub width_yes : (m : Bool) → m ≡ true → 3 ≡ length (older m)
unfolding older
width_yes m e = rw e

pub width_no : (m : Bool) → m ≡ false → 5 ≡ length (older m)
unfolding older
width_no m e = rw e

pub pair_yes_yes : (a b : Bool) → a ≡ true → b ≡ true → 2314885530818453536 ≡ pair_word a b
unfolding pair_word
pair_yes_yes a b p q = rw (p, q)

pub pair_yes_no : (a b : Bool) → a ≡ true → b ≡ false → 2314993784428961824 ≡ pair_word a b
unfolding pair_word
pair_yes_no a b p q = rw (p, q)

pub pair_no_yes : (a b : Bool) → a ≡ false → b ≡ true → 2314885530824905954 ≡ pair_word a b
unfolding pair_word
pair_no_yes a b p q = rw (p, q)

pub pair_no_no : (a b : Bool) → a ≡ false → b ≡ false → 9409394149096068322 ≡ pair_word a b
unfolding pair_word
pair_no_no a b p q = rw (p, q)

-- ---- pieces

pub deepest_is : (m : Bool) (c : ℕ) {o d : List ℕ} {r : ℕ} → c ≡ corner_of m
    → Wrote (226 ∷ 148 ∷ c ∷ 226 ∷ 148 ∷ 128 ∷ 32 ∷ []) o d r → Wrote (deepest m) o d r
unfolding corner_of deepest
deepest_is true c e w = rw e at w
deepest_is false c e w = rw e at w

-- the ten bytes of two levels
pub pair_is : (a b : Bool) → bytes_of 8 (pair_word a b) ++ (32 ∷ 32 ∷ []) ≡ pair_bytes a b
unfolding bytes_of pair_word pair_bytes older
pair_is true true = refl
pair_is true false = refl
pair_is false true = refl
pair_is false false = refl

pub pair_wrote : (a b : Bool) (w : ℕ) {o d : List ℕ} {r : ℕ} → w ≡ pair_word a b → Wrote (bytes_of 8 w ++ (32 ∷ 32 ∷ [])) o d r
    → Wrote (pair_bytes a b) o d r
pair_wrote a b w e v = rw (← pair_is a b, ← e) v

pub front_two : (a b : Bool) → take (length (older a ++ older b)) (pair_bytes a b) ≡ older a ++ older b
unfolding pair_bytes older
front_two true true = refl
front_two true false = refl
front_two false true = refl
front_two false false = refl

pub size_two : (a b : Bool)
    → (length (older a ++ older b) ≤ length (pair_bytes a b)) × (length (pair_bytes a b) ≤ length (older a ++ older b) + 7)
unfolding pair_bytes older
size_two true true = (omega arith, omega arith)
size_two true false = (omega arith, omega arith)
size_two false true = (omega arith, omega arith)
size_two false false = (omega arith, omega arith)

pub laid_two : (a b x y : Bool) {o d : List ℕ} {r p q : ℕ} → a ≡ x → b ≡ y → Wrote (pair_bytes a b) o d r
    → p ≡ length (older a) → q ≡ length (older b) → BytesLaid (older x ++ older y) (pair_bytes x y) o d (p + q)
laid_two a b x y e f w s t =
    rw (← e, ← f)
    (record {
      count = rw (s, t, length-append);
      front = front_two a b;
      short = (size_two a b).0;
      slack = (size_two a b).1;
      leaves = w.leaves;
      fits = w.fits;
    })

front_one : (a : Bool) → take (length (older a)) (pair_bytes a true) ≡ older a
unfolding pair_bytes older
front_one true = refl
front_one false = refl

size_one : (a : Bool) → (length (older a) ≤ length (pair_bytes a true)) × (length (pair_bytes a true) ≤ length (older a) + 7)
unfolding pair_bytes older
size_one true = (omega arith, omega arith)
size_one false = (omega arith, omega arith)

pub laid_one : (a x : Bool) {o d : List ℕ} {r p : ℕ} → a ≡ x → Wrote (pair_bytes a true) o d r → p ≡ length (older a)
    → BytesLaid (older x) (pair_bytes x true) o d p
laid_one a x e w s =
    rw (← e)
    (record { count = s; front = front_one a; short = (size_one a).0; slack = (size_one a).1; leaves = w.leaves; fits = w.fits })
