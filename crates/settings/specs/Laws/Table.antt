-- What the table of versions says: the lowest version that knows a content is the one that the first row gives, since versions rise
-- along the table; and its numbers fit a record's bytes.
use Rattle.std.specs.Prelude.{◌≡◌, refl, Bool, true, false, ◌&&◌, ℕ, ◌≤◌, ◌<◌, eqb, leb}
use Rattle.std.proofs.lemmas.Bool.{false≢true}
use mathlib.Core.List.{List, [], ◌∷◌}
use native.Mathlib.Omega.{arith}
use borrow.Author.Tests.{le-leb, leb-true, eqb-true}
use Rattle.basis.specs.Lists.{any}
use Rattle.basis.specs.Guard.{guard}
use Rattle.basis.specs.Members.{split, All, any_some, all_in}
use Rattle.settings.specs.Settings.{Row, table, fits_content, fits_row, lowest_in, lowest, knows_row, knows}

-- what a passed chain of tests tells
pub guard_on : {X : Type 0} (b : Bool) (bad on r : X) → (bad ≡ r → ⊥) → guard b bad on ≡ r → (b ≡ true) × (on ≡ r)
unfolding guard
guard_on true bad on r n e = (refl, e)
guard_on false bad on r n e = absurd (n e)

pub fits_is : (s c n l h : ℕ) → fits_content s c n l h ≡ true → (s ≡ n) × (l ≤ c) × (c ≤ h)
unfolding fits_content
fits_is s c n l h e =
    let a = guard_on (eqb s n) false _ true false≢true e in
    let b = guard_on (leb l c) false _ true false≢true a.1 in
    (eqb-true _ _ a.0, leb-true _ _ b.0, leb-true _ _ b.1)

-- ---- versions rise along the table

abbrev Rising : ℕ → List Row → Type 0
Rising u [] = Unit {0}
Rising u (r ∷ rs) = (u ≤ r.version) × Rising r.version rs

rising : Rising 1 table
rising = (omega arith, (omega arith, (omega arith, tt)))

module _ (v s c : ℕ) where
  row_on : (r : Row) → leb r.version v ≡ true → fits_row s c r ≡ true → knows_row v s c r ≡ true
  row_on r a b = rw (a, b)

  row_late : (r : Row) → leb r.version v ≡ false → knows_row v s c r ≡ false
  row_late r a = rw a

  row_off : (r : Row) → fits_row s c r ≡ false → knows_row v s c r ≡ false
  row_off r b = split (leb r.version v) (λ a. rw (a, b)) (λ a. rw a)

  known_in : (u : ℕ) (rs : List Row) → Rising u rs → any (knows_row v s c) rs ≡ true → (u ≤ lowest_in rs s c) × (lowest_in rs s c ≤ v)
  unfolding lowest_in
  known_in u [] h e = absurd (false≢true e)
  known_in u (r ∷ rs) h e =
      split (fits_row s c r)
      (λ a. rw a (split (leb r.version v)
      (λ b. (h.0, leb-true _ _ b))
      (λ b. let ih = known_in r.version rs h.1 (rw (row_late r b, any) at e) in (h.0, omega (arith, ih.0, ih.1)))))
      (λ a. rw a (let ih = known_in r.version rs h.1 (rw (row_off r a, any) at e) in (omega (arith, h.0, ih.0), ih.1)))

  in_known : (rs : List Row) → 1 ≤ lowest_in rs s c → lowest_in rs s c ≤ v → any (knows_row v s c) rs ≡ true
  unfolding lowest_in
  in_known [] l h = let z : ⊥ = omega arith in absurd z
  in_known (r ∷ rs) l h =
      split (fits_row s c r)
      (λ a. rw (row_on r (le-leb _ _ (rw a at h)) a, any))
      (λ a. rw (row_off r a, any) (in_known rs (rw a at l) (rw a at h)))

  -- a version that knows a setting with a content is not below the lowest that does
  pub known_lowest : knows v s c ≡ true → (1 ≤ lowest s c) × (lowest s c ≤ v)
  unfolding knows lowest
  known_lowest e = known_in 1 table rising e

  pub lowest_known : 1 ≤ lowest s c → lowest s c ≤ v → knows v s c ≡ true
  unfolding knows lowest
  lowest_known l h = in_known table l h

-- "the lowest version that knows it" knows it
pub lowest_knows : (v s c : ℕ) → knows v s c ≡ true → knows (lowest s c) s c ≡ true
lowest_knows v s c e = let k = known_lowest v s c e in lowest_known (lowest s c) s c k.0 (omega arith)

-- ---- its numbers are small

abbrev Small : Row → Type 0
Small r = (1 ≤ r.version) × (r.version < 256) × (1 ≤ r.setting) × (r.setting ≤ 3) × (r.high < 65536)

small : All Small table
small = (
  (omega arith, omega arith, omega arith, omega arith, omega arith),
  (
    (omega arith, omega arith, omega arith, omega arith, omega arith),
    ((omega arith, omega arith, omega arith, omega arith, omega arith), tt),
  ),
)

and_on : (a b : Bool) → (a && b) ≡ true → b ≡ true
and_on true b e = e
and_on false b e = absurd (false≢true e)

-- what some version knows is one of the three settings, and its content fits two bytes
pub known_small : (v s c : ℕ) → knows v s c ≡ true → (1 ≤ s) × (s ≤ 3) × (c < 65536)
unfolding knows
known_small v s c e =
    let w = any_some (knows_row v s c) table e in
    let y = all_in Small table w.0 small w.1 in
    let f = fits_is s c w.0.setting w.0.low w.0.high (and_on (leb w.0.version v) (fits_row s c w.0) w.2) in
    (omega (arith, f.0, y.2), omega (arith, f.0, y.3), omega (arith, f.2, y.4))

low_small : (rs : List Row) (s c : ℕ) → All Small rs → lowest_in rs s c < 256
unfolding lowest_in
low_small [] s c h = omega arith
low_small (r ∷ rs) s c h = split (fits_row s c r) (λ a. rw a h.0.1) (λ a. rw a (low_small rs s c h.1))

pub lowest_small : (s c : ℕ) → lowest s c < 256
unfolding lowest
lowest_small s c = low_small table s c small
