-- Comparing two texts byte by byte.
use Rattle.std.specs.Prelude.{◌≡◌, ℕ, ◌+◌, ◌<◌, ◌≤◌, Bool, true, false, List, [], ◌∷◌, length, drop, ◌≢◌, nat_eq, slice_index, slice_index_or, refl}
use Rattle.std.specs.Cmp.Lexicographic.{pointwise}
use Rattle.std.proofs.Math.Path.{sym}
use Rattle.std.proofs.Common.{ap, ◌∙◌, add-one, drop_of_length-le}
use native.Mathlib.Omega.{arith}
use Rattle.std.proofs.Math.Seq.{drop-cons}
use borrow.Author.Tests.{eq-eqb, ne_eqb}
use Rattle.basis.specs.Lists.{eq_list}
use Rattle.basis.specs.Members.{split}
use Rattle.groups.specs.Small.{eq_true}

-- what is left to compare at i
unfoldable pub text_left : List ℕ → List ℕ → ℕ → Bool
text_left a b i = eq_list (drop i a) (drop i b)

pub text_start : (a b : List ℕ) → text_left a b 0 ≡ eq_list a b
unfolding text_left
text_start a b = refl

pub text_long : (a b : List ℕ) → (length a ≢ length b) → false ≡ eq_list a b
text_long a b f = split (eq_list a b) (λ t. absurd (f (ap length (eq_true a b t)))) (λ t. sym t)

module _ (a b : List ℕ) (i : ℕ) (Z : Bool) (e : text_left a b i ≡ Z) (h : i < length a) (l : length a ≡ length b) where
  pub text_stop : (slice_index a i ≢ slice_index b i) → false ≡ Z
  unfolding text_left
  text_stop f =
      sym (sym e ∙ rw (drop-cons a i 0 h, drop-cons b i 0 (let z : i < length b = omega arith in z), ne_eqb (slice_index a i) (slice_index b i) f, eq_list))

  pub text_next : slice_index_or a i 0 ≡ slice_index b i → text_left a b (i + 1) ≡ Z
  unfolding text_left
  text_next q =
      sym (sym e ∙ rw (drop-cons a i 0 h, drop-cons b i 0 (let z : i < length b = omega arith in z), eq-eqb (slice_index a i) (slice_index b i) q, eq_list, add-one))

pub text_end : (a b : List ℕ) (i : ℕ) (Z : Bool) → text_left a b i ≡ Z → length a ≤ i → length a ≡ length b → true ≡ Z
unfolding text_left
text_end a b i Z e h l = sym (sym e ∙ rw (drop_of_length-le a h, drop_of_length-le b (let z : length b ≤ i = omega arith in z)))

-- `==` on slices, pointwise, says the same
pub text_pointwise : (a b : List ℕ) → pointwise nat_eq a b ≡ eq_list a b
text_pointwise [] [] = refl
text_pointwise [] (y ∷ b) = refl
text_pointwise (x ∷ a) [] = refl
text_pointwise (x ∷ a) (y ∷ b) = split (nat_eq x y) (λ t. rw (t, pointwise, eq_list) (text_pointwise a b)) (λ t. rw (t, pointwise, eq_list))
