-- What a loop counts while it writes units, and the answer that it may give from its counts.
use Rattle.std.specs.Prelude.{◌≡◌, refl, List, [], ◌∷◌, ◌++◌, ℕ, ◌+◌, ◌≤◌, ◌<◌, max, length}
use Rattle.std.proofs.Common.{sym, ap, ◌∙◌, append-nil, arith, length-append}
use Rattle.machine.specs.Units.{TextUnit, text_of, depth_of, written, fit}
use Rattle.machine.specs.Fit.{size_append, depth_append, fit_whole, fit_full}

-- us: the units written
pub record Tally (us : List TextUnit) (at units depth : ℕ) : Type 0 where
  pub bytes : at ≡ length (text_of us)
  pub count : units ≡ length us
  pub deepest : depth ≡ depth_of us

pub tally_none : Tally [] 0 0 0
tally_none = record { bytes = refl; count = refl; deepest = refl }

-- ---- the same from any counts on: a, n and d grow to a', n' and d' by these units

pub record Added (us : List TextUnit) (a n d a' n' d' : ℕ) : Type 0 where
  pub bytes : a' ≡ a + length (text_of us)
  pub count : n' ≡ n + length us
  pub deepest : d' ≡ max d (depth_of us)

pub added_none : (a n d : ℕ) → Added [] a n d a n d
added_none a n d = record { bytes = omega arith; count = omega arith; deepest = omega arith }

pub added_line : (a n d : ℕ) (line : List ℕ) (k : ℕ) → Added (record { bytes = line; openings = k } ∷ []) a n d (a + length line) (n + 1) (max d k)
added_line a n d line k = record { bytes = rw append-nil; count = refl; deepest = omega arith }

pub tally_added : (us vs : List TextUnit) (a n d a' n' d' : ℕ) → Tally us a n d → Added vs a n d a' n' d' → Tally (us ++ vs) a' n' d'
tally_added us vs a n d a' n' d' t s =
    record {
      bytes = rw size_append (let x = t.bytes in let y = s.bytes in omega arith);
      count = rw length-append (let x = t.count in let y = s.count in omega arith);
      deepest = rw depth_append (let x = t.deepest in let y = s.deepest in omega arith);
    }

-- one more line
pub tally_line : (us : List TextUnit) (a n d : ℕ) (line : List ℕ) (k : ℕ) → Tally us a n d
    → Tally (us ++ (record { bytes = line; openings = k } ∷ [])) (a + length line) (n + 1) (max d k)
tally_line us a n d line k t =
    tally_added us (record { bytes = line; openings = k } ∷ []) a n d (a + length line) (n + 1) (max d k) t (added_line a n d line k)

-- ---- the way out: all is written, or the next unit does not fit

-- the result in the loop's numbers, with the text as it stands in the room
tally_result : (num place : ℕ) (us : List TextUnit) (a n d : ℕ) (text : List ℕ) → Tally us a n d → text ≡ text_of us
    → written num place us ≡ record { number = num; place = place; bytes = a; units = n; depth = d; text = text }
tally_result num place us a n d text t e = rw (e, ← t.bytes, ← t.count, ← t.deepest)

module _ (num place room : ℕ) (us : List TextUnit) (a n d : ℕ) (text : List ℕ) (t : Tally us a n d) (is : text ≡ text_of us) (in_room : a ≤ room) where
  size : length (text_of us) ≤ room
  size = let b = t.bytes in omega arith

  pub tally_whole : fit num place room us ≡ record { number = num; place = place; bytes = a; units = n; depth = d; text = text }
  tally_whole = fit_whole num place room us size ∙ tally_result num place us a n d text t is

  pub tally_full : (u : TextUnit) (vs : List TextUnit) → room < a + length u.bytes
      → fit num place room (us ++ (u ∷ vs)) ≡ record { number = 10; place = n; bytes = a; units = n; depth = d; text = text }
  tally_full u vs h =
      let b : room < length (text_of us) + length u.bytes = let c = t.bytes in omega arith in
      fit_full num place room us u vs size b ∙ ap (λ (p : ℕ). written 10 p us) (sym t.count) ∙ tally_result 10 n us a n d text t is
