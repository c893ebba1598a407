-- What a recorded call shows when it is made again, compared with what is recorded of it.
use Rattle.std.specs.Prelude.{◌≡◌, ℕ, ◌<◌, ◌≤◌, Bool, true, false, List, ◌≢◌, refl}
use Rattle.std.proofs.Common.{sym, ap, ◌∙◌, arith}
use Rattle.std.proofs.Math.Decide.{dec_le}
use Rattle.basis.specs.Members.{clash}
use Rattle.again.specs.declared.Seen.{Seen}
use Rattle.again.specs.Head.{call_in, option_in, first_in, second_in, room_in, recorded_in}
use Rattle.remade.specs.Again.{Replayed, replayed_one}

-- a and b are one and the same, or not
pub record SameSeen (a b : Seen) (r : Bool) : Type 0 where
  pub equal : r ≡ true → a ≡ b
  pub told : a ≡ b → r ≡ true

-- the call of a head, made again, gives what the head records
pub record Compared (file head : List ℕ) (r : Bool) : Type 0 where
  pub seen : Seen
  pub again : Replayed file (call_in head) (option_in head) (first_in head) (second_in head) (room_in head) seen
  pub same : SameSeen seen (recorded_in head) r

-- r says whether it does; a room larger than the program's never agrees
pub record Agrees (file head : List ℕ) (r : Bool) : Type 0 where
  pub within : room_in head ≤ 65536 → Compared file head r
  pub beyond : 65536 < room_in head → r ≡ false

-- ---- two results that the relations allow are equal

true_both : (a b : Bool) → (a ≡ true → b ≡ true) → (b ≡ true → a ≡ true) → a ≡ b
true_both true true f g = refl
true_both false false f g = refl
true_both true false f g = sym (f refl)
true_both false true f g = g refl

same_one : (a b : Seen) (r q : Bool) → SameSeen a b r → SameSeen a b q → r ≡ q
same_one a b r q R Q = true_both r q (λ e. Q.told (R.equal e)) (λ e. R.told (Q.equal e))

pub agrees_one : (file head : List ℕ) (r q : Bool) → Agrees file head r → Agrees file head q → r ≡ q
agrees_one file head r q R Q = go (dec_le (room_in head) 65536)
  where
    both : Compared file head r → Compared file head q → r ≡ q
    both C D =
        let e : D.seen ≡ C.seen = replayed_one file (call_in head) (option_in head) (first_in head) (second_in head) (room_in head) D.seen C.seen D.again
        C.again in
        same_one C.seen (recorded_in head) r q C.same (rw e at D.same)

    go : Dec (room_in head ≤ 65536) → r ≡ q
    go (yes l) = both (R.within l) (Q.within l)
    go (no l) = let k : 65536 < room_in head = omega (arith, l) in R.beyond k ∙ sym (Q.beyond k)

-- ---- the ways through the code

fields_same : (n p y u d s n' p' y' u' d' s' : ℕ) → n ≡ n' → p ≡ p' → y ≡ y' → u ≡ u' → d ≡ d' → s ≡ s'
    → ◌≡◌ {A = Seen} (record { number = n; place = p; bytes = y; units = u; depth = d; sum = s }) (record {
      number = n';
      place = p';
      bytes = y';
      units = u';
      depth = d';
      sum = s';
    })
fields_same n p y u d s n' p' y' u' d' s' e f g h i j = rw (e, f, g, h, i, j)

module _ (a b : Seen) where
  other : (a ≢ b) → SameSeen a b false
  other f = record { equal = λ e. clash (cc); told = λ e. absurd (f e) }

  pub not_number : (a.number ≢ b.number) → SameSeen a b false
  not_number f = other (λ e. f (ap (λ (s : Seen). s.number) e))

  pub not_place : (a.place ≢ b.place) → SameSeen a b false
  not_place f = other (λ e. f (ap (λ (s : Seen). s.place) e))

  pub not_bytes : (a.bytes ≢ b.bytes) → SameSeen a b false
  not_bytes f = other (λ e. f (ap (λ (s : Seen). s.bytes) e))

  pub not_units : (a.units ≢ b.units) → SameSeen a b false
  not_units f = other (λ e. f (ap (λ (s : Seen). s.units) e))

  pub not_depth : (a.depth ≢ b.depth) → SameSeen a b false
  not_depth f = other (λ e. f (ap (λ (s : Seen). s.depth) e))

  pub not_sum : (a.sum ≢ b.sum) → SameSeen a b false
  not_sum f = other (λ e. f (ap (λ (s : Seen). s.sum) e))

  pub all_same : a.number ≡ b.number → a.place ≡ b.place → a.bytes ≡ b.bytes → a.units ≡ b.units → a.depth ≡ b.depth → a.sum ≡ b.sum
      → SameSeen a b true
  all_same n p y u d s =
      record {
        equal =
            λ _. fields_same a.number a.place a.bytes a.units a.depth a.sum b.number b.place b.bytes b.units b.depth b.sum n
            p y u d s;
        told = λ _. refl;
      }

pub agrees_beyond : (file head : List ℕ) (n : ℕ) → n ≡ room_in head → 65536 < n → Agrees file head false
agrees_beyond file head n q l = record { within = λ k. let f : ⊥ = omega (arith, q) in absurd f; beyond = λ _. refl }

pub agrees_within : (file head : List ℕ) (call opt x y n m : ℕ) (s t : Seen) (r : Bool) → Replayed file call opt x y m s → SameSeen s t r → t ≡ recorded_in head
    → call ≡ call_in head → opt ≡ option_in head → x ≡ first_in head → y ≡ second_in head → m ≡ n → n ≡ room_in head → n ≤ 65536 → Agrees file head r
agrees_within file head call opt x y n m s t r R S e p q u v i j l =
    record {
      within = λ _. record { seen = s; again = rw (← p, ← q, ← u, ← v, ← j, ← i) R; same = rw (← e) S };
      beyond = λ k. let f : ⊥ = omega (arith, j) in absurd f;
    }
