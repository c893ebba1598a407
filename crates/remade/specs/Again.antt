-- A recorded call made again, by its number.
use Rattle.std.specs.Prelude.{◌≡◌, refl, cond, List, ℕ, zero, suc, ◌-◌, ◌≤◌, ◌<◌, leb}
use Rattle.std.proofs.Common.{sym, ◌∙◌, arith, le-leb}
use Rattle.std.proofs.Math.Decide.{dec_le}
use Rattle.std.proofs.lemmas.Bool.{lt-leb}
use Rattle.calls.specs.Says.{Says}
use Rattle.calls.specs.Plain.{plain_option}
use Rattle.calls.specs.Air.{SaysAir}
use Rattle.again.specs.declared.Seen.{Seen}
use Rattle.again.specs.Mends.{mends_in, mended_in}
use Rattle.again.specs.Seen.{no_call, blank, blank_numbers}
use Rattle.remade.specs.declared.rooms.RoomCall.TheVariants as R
use Rattle.remade.specs.Lists.{checked_in, listed_in, edged_in}
use Rattle.remade.specs.Room.{RoomDrawn, RoomAnswers, RoomShown, told_one, aired_one, drew_one}
use Rattle.remade.specs.Later.{FromTen, from_ten_one}
use Rattle.remade.specs.Latest.{FromThirteen, from_thirteen_one}
use Rattle.remade.specs.Seasons.{FromEighteen, from_eighteen_one}

-- a list of at most 128 entries
pub record Listing (file : List ℕ) (n : ℕ) (r : Seen) : Type 0 where
  pub short : n ≤ 128 → r ≡ listed_in file n
  pub long : 128 < n → r ≡ no_call

-- a list of at most 8,192 numbers
unfoldable pub edges_in : List ℕ → ℕ → Seen
edges_in file n = cond (leb n 8192) (edged_in file (blank_numbers n)) no_call

-- the call with that number, on a room of n bytes, a list of n entries or one of n numbers: check, explain, explain plainly, draw, list
-- the nodes, list the edges, explain by edition 2, explain in the air profile, repair into a room, repair and list what was replaced;
-- the calls from 10 on are told in Later, those from 13 on in Latest, those from 18 on in Seasons
unfoldable pub ToNine : List ℕ → ℕ → ℕ → ℕ → Seen → Type 0
ToNine file zero opt n r = r ≡ checked_in file
ToNine file (suc zero) opt n r = RoomShown (Says 1 file opt) (blank n) r
ToNine file (suc (suc zero)) opt n r = RoomShown (Says 1 file plain_option) (blank n) r
ToNine file (suc (suc (suc zero))) opt n r = RoomShown (RoomDrawn file opt) (blank n) r
ToNine file (suc (suc (suc (suc zero)))) opt n r = Listing file n r
ToNine file (suc (suc (suc (suc (suc zero))))) opt n r = r ≡ edges_in file n
ToNine file (suc (suc (suc (suc (suc (suc zero)))))) opt n r = RoomShown (Says 2 file opt) (blank n) r
ToNine file (suc (suc (suc (suc (suc (suc (suc zero))))))) opt n r = RoomShown (SaysAir file opt) (blank n) r
ToNine file (suc (suc (suc (suc (suc (suc (suc (suc zero)))))))) opt n r = r ≡ mended_in file (blank n) (blank_numbers 8192)
ToNine file (suc (suc (suc (suc (suc (suc (suc (suc (suc zero))))))))) opt n r = r ≡ mends_in file n
ToNine file (suc (suc (suc (suc (suc (suc (suc (suc (suc (suc k)))))))))) opt n r = r ≡ no_call

-- any call; s and t are the two words behind the recorded answer, which some calls from 10 on take
pub record Replayed (file : List ℕ) (call opt s t n : ℕ) (r : Seen) : Type 0 where
  pub low : call < 10 → ToNine file call opt n r
  pub middle : 10 ≤ call → call < 13 → FromTen file (call - 10) opt s t n r
  pub high : 13 ≤ call → call < 18 → FromThirteen file (call - 13) opt s t n r
  pub top : 18 ≤ call → FromEighteen file (call - 18) opt s t n r

-- ---- two results that the relations allow are equal

pub listing_one : (file : List ℕ) (n : ℕ) (r q : Seen) → Listing file n r → Listing file n q → r ≡ q
listing_one file n r q R Q = go (dec_le n 128)
  where
    go : Dec (n ≤ 128) → r ≡ q
    go (yes l) = R.short l ∙ sym (Q.short l)
    go (no l) = let k : 128 < n = omega (arith, l) in R.long k ∙ sym (Q.long k)

pub to_nine_one : (file : List ℕ) (call opt n : ℕ) (r q : Seen) → ToNine file call opt n r → ToNine file call opt n q → r ≡ q
unfolding ToNine
to_nine_one file zero opt n r q R Q = R ∙ sym Q
to_nine_one file (suc zero) opt n r q R Q = told_one 1 file opt (blank n) r q R Q
to_nine_one file (suc (suc zero)) opt n r q R Q = told_one 1 file plain_option (blank n) r q R Q
to_nine_one file (suc (suc (suc zero))) opt n r q R Q = drew_one file opt (blank n) r q R Q
to_nine_one file (suc (suc (suc (suc zero)))) opt n r q R Q = listing_one file n r q R Q
to_nine_one file (suc (suc (suc (suc (suc zero))))) opt n r q R Q = R ∙ sym Q
to_nine_one file (suc (suc (suc (suc (suc (suc zero)))))) opt n r q R Q = told_one 2 file opt (blank n) r q R Q
to_nine_one file (suc (suc (suc (suc (suc (suc (suc zero))))))) opt n r q R Q = aired_one file opt (blank n) r q R Q
to_nine_one file (suc (suc (suc (suc (suc (suc (suc (suc zero)))))))) opt n r q R Q = R ∙ sym Q
to_nine_one file (suc (suc (suc (suc (suc (suc (suc (suc (suc zero))))))))) opt n r q R Q = R ∙ sym Q
to_nine_one file (suc (suc (suc (suc (suc (suc (suc (suc (suc (suc k)))))))))) opt n r q R Q = R ∙ sym Q

pub replayed_one : (file : List ℕ) (call opt s t n : ℕ) (r q : Seen) → Replayed file call opt s t n r → Replayed file call opt s t n q → r ≡ q
replayed_one file call opt s t n r q R Q = go (dec_le 10 call) (dec_le 13 call) (dec_le 18 call)
  where
    go : Dec (10 ≤ call) → Dec (13 ≤ call) → Dec (18 ≤ call) → r ≡ q
    go _ _ (yes l) = from_eighteen_one file (call - 18) opt s t n r q (R.top l) (Q.top l)
    go _ (yes l) (no m) = let k : call < 18 = omega (arith, m) in from_thirteen_one file (call - 13) opt s t n r q (R.high l k) (Q.high l k)
    go (yes l) (no m) (no _) = let k : call < 13 = omega (arith, m) in from_ten_one file (call - 10) opt s t n r q (R.middle l k) (Q.middle l k)
    go (no l) (no m) (no _) = let k : call < 10 = omega (arith, l) in to_nine_one file call opt n r q (R.low k) (Q.low k)

-- ---- the ways through the code

pub listing_short : (file : List ℕ) (n : ℕ) (r : Seen) → n ≤ 128 → r ≡ listed_in file n → Listing file n r
listing_short file n r l e = record { short = λ _. e; long = λ k. let f : ⊥ = omega arith in absurd f }

pub listing_long : (file : List ℕ) (n : ℕ) (r : Seen) → 128 < n → r ≡ no_call → Listing file n r
listing_long file n r l e = record { short = λ k. let f : ⊥ = omega arith in absurd f; long = λ _. e }

pub edges_short : (file : List ℕ) (n : ℕ) (r : Seen) → n ≤ 8192 → r ≡ edged_in file (blank_numbers n) → r ≡ edges_in file n
unfolding edges_in
edges_short file n r l e = rw (le-leb n 8192 l) e

pub edges_long : (file : List ℕ) (n : ℕ) (r : Seen) → 8192 < n → r ≡ no_call → r ≡ edges_in file n
unfolding edges_in
edges_long file n r l e = rw (lt-leb n 8192 l) e

module _ (file : List ℕ) (call opt n : ℕ) (r : Seen) where
  pub at_check : call ≡ 0 → r ≡ checked_in file → ToNine file call opt n r
  unfolding ToNine
  at_check q e = rw q e

  pub at_explain : call ≡ 1 → RoomShown (RoomAnswers file (R.Explain opt)) (blank n) r → ToNine file call opt n r
  unfolding ToNine RoomAnswers
  at_explain q e = rw q e

  pub at_plain : call ≡ 2 → RoomShown (RoomAnswers file R.Plain) (blank n) r → ToNine file call opt n r
  unfolding ToNine RoomAnswers
  at_plain q e = rw q e

  pub at_graph : call ≡ 3 → RoomShown (RoomAnswers file (R.Graph opt)) (blank n) r → ToNine file call opt n r
  unfolding ToNine RoomAnswers
  at_graph q e = rw q e

  pub at_list : call ≡ 4 → Listing file n r → ToNine file call opt n r
  unfolding ToNine
  at_list q e = rw q e

  pub at_edges : call ≡ 5 → r ≡ edges_in file n → ToNine file call opt n r
  unfolding ToNine
  at_edges q e = rw q e

  pub at_second : call ≡ 6 → RoomShown (RoomAnswers file (R.Second opt)) (blank n) r → ToNine file call opt n r
  unfolding ToNine RoomAnswers
  at_second q e = rw q e

  pub at_air : call ≡ 7 → RoomShown (RoomAnswers file (R.Air opt)) (blank n) r → ToNine file call opt n r
  unfolding ToNine RoomAnswers
  at_air q e = rw q e

  pub at_mend : call ≡ 8 → r ≡ mended_in file (blank n) (blank_numbers 8192) → ToNine file call opt n r
  unfolding ToNine
  at_mend q e = rw q e

  pub at_replaced : call ≡ 9 → r ≡ mends_in file n → ToNine file call opt n r
  unfolding ToNine
  at_replaced q e = rw q e

pub at_none : (file : List ℕ) (call opt n : ℕ) (r : Seen) → (call ≡ 0 → ⊥) → (call ≡ 1 → ⊥) → (call ≡ 2 → ⊥) → (call ≡ 3 → ⊥) → (call ≡ 4 → ⊥)
    → (call ≡ 5 → ⊥) → (call ≡ 6 → ⊥) → (call ≡ 7 → ⊥) → (call ≡ 8 → ⊥) → (call ≡ 9 → ⊥) → r ≡ no_call → ToNine file call opt n r
unfolding ToNine
at_none file zero opt n r a b c d f g h i j k e = absurd (a refl)
at_none file (suc zero) opt n r a b c d f g h i j k e = absurd (b refl)
at_none file (suc (suc zero)) opt n r a b c d f g h i j k e = absurd (c refl)
at_none file (suc (suc (suc zero))) opt n r a b c d f g h i j k e = absurd (d refl)
at_none file (suc (suc (suc (suc zero)))) opt n r a b c d f g h i j k e = absurd (f refl)
at_none file (suc (suc (suc (suc (suc zero))))) opt n r a b c d f g h i j k e = absurd (g refl)
at_none file (suc (suc (suc (suc (suc (suc zero)))))) opt n r a b c d f g h i j k e = absurd (h refl)
at_none file (suc (suc (suc (suc (suc (suc (suc zero))))))) opt n r a b c d f g h i j k e = absurd (i refl)
at_none file (suc (suc (suc (suc (suc (suc (suc (suc zero)))))))) opt n r a b c d f g h i j k e = absurd (j refl)
at_none file (suc (suc (suc (suc (suc (suc (suc (suc (suc zero))))))))) opt n r a b c d f g h i j k e = absurd (k refl)
at_none file (suc (suc (suc (suc (suc (suc (suc (suc (suc (suc m)))))))))) opt n r a b c d f g h i j k e = e

pub at_low : (file : List ℕ) (call opt s t n : ℕ) (r : Seen) → call < 10 → ToNine file call opt n r → Replayed file call opt s t n r
at_low file call opt s t n r l e =
    record {
      low = λ _. e;
      middle = λ k _. let f : ⊥ = omega arith in absurd f;
      high = λ k _. let f : ⊥ = omega arith in absurd f;
      top = λ k. let f : ⊥ = omega arith in absurd f;
    }

pub at_middle : (file : List ℕ) (call opt s t n : ℕ) (r : Seen) → 10 ≤ call → call < 13 → FromTen file (call - 10) opt s t n r → Replayed file call opt s t n r
at_middle file call opt s t n r l m e =
    record {
      low = λ k. let f : ⊥ = omega arith in absurd f;
      middle = λ _ _. e;
      high = λ k _. let f : ⊥ = omega arith in absurd f;
      top = λ k. let f : ⊥ = omega arith in absurd f;
    }

pub at_high : (file : List ℕ) (call opt s t n : ℕ) (r : Seen) → 13 ≤ call → call < 18 → FromThirteen file (call - 13) opt s t n r
    → Replayed file call opt s t n r
at_high file call opt s t n r l m e =
    record {
      low = λ k. let f : ⊥ = omega arith in absurd f;
      middle = λ _ k. let f : ⊥ = omega arith in absurd f;
      high = λ _ _. e;
      top = λ k. let f : ⊥ = omega arith in absurd f;
    }

pub at_top : (file : List ℕ) (call opt s t n : ℕ) (r : Seen) → 18 ≤ call → FromEighteen file (call - 18) opt s t n r → Replayed file call opt s t n r
at_top file call opt s t n r l e =
    record {
      low = λ k. let f : ⊥ = omega arith in absurd f;
      middle = λ _ k. let f : ⊥ = omega arith in absurd f;
      high = λ _ k. let f : ⊥ = omega arith in absurd f;
      top = λ _. e;
    }
