-- What the log says of a file, and what it counts.
use Rattle.std.specs.Prelude.{◌≡◌, ℕ, zero, suc, ◌+◌, ◌%◌, ◌^◌, ◌≤◌, List, length, take, replicate, ◌≢◌, refl}
use Rattle.std.proofs.Common.{sym, ap, ◌∙◌, length-take-le}
use Rattle.calls.specs.declared.Answer.{Answer}
use Rattle.calls.specs.Says.{Says}
use Rattle.calls.specs.Laws.Says.{says_one}
use Rattle.shift_log.specs.declared.Shift.{Shift}

-- one file more that was answered with the number
unfoldable pub counted : Shift → ℕ → Shift
counted s zero = record { done = (s.done + 1) % 2 ^ 64; refused = s.refused; unread = s.unread }
counted s (suc n) = record { done = s.done; refused = (s.refused + 1) % 2 ^ 64; unread = s.unread }

-- one file more that could not be read
abbrev pub unread_more : Shift → Shift
unread_more s = record { done = s.done; refused = s.refused; unread = (s.unread + 1) % 2 ^ 64 }

-- r is the number of the answer to option 0, which the log names (document 02, order 2), for the file in an empty room of 65,536 bytes
pub record Numbered (file : List ℕ) (r : ℕ) : Type 0 where
  pub answer : Answer
  pub left : List ℕ
  pub says : Says 1 file 0 (replicate 65536 0) left answer
  pub is : r ≡ answer.number

-- two numbers that it allows are equal
pub numbered_one : (file : List ℕ) (r q : ℕ) → Numbered file r → Numbered file q → r ≡ q
numbered_one file r q R Q =
    R.is
    ∙ ap (λ (a : Answer). a.number) (says_one 1 file 0 (replicate 65536 0) R.left Q.left R.answer Q.answer R.says Q.says).0
    ∙ sym Q.is

-- ---- the ways through the code

pub counted_done : (s : Shift) (n d : ℕ) → n ≡ 0 → d ≡ (s.done + 1) % 2 ^ 64
    → ◌≡◌ {A = Shift} (record { done = d; refused = s.refused; unread = s.unread }) (counted s n)
unfolding counted
counted_done s n d q e = rw (q, e)

pub counted_refused : (s : Shift) (n d : ℕ) → (n ≢ 0) → d ≡ (s.refused + 1) % 2 ^ 64
    → ◌≡◌ {A = Shift} (record { done = s.done; refused = d; unread = s.unread }) (counted s n)
unfolding counted
counted_refused s zero d f e = absurd (f refl)
counted_refused s (suc n) d f e = rw e

pub unread_more_lem : (s : Shift) (u : ℕ) → u ≡ (s.unread + 1) % 2 ^ 64
    → ◌≡◌ {A = Shift} (record { done = s.done; refused = s.refused; unread = u }) (unread_more s)
unread_more_lem s u e = rw e

-- the first n bytes of a room are n
pub prefix_length : (n : ℕ) (xs : List ℕ) → n ≤ length xs → n ≡ length (take n xs)
prefix_length n xs l = sym (length-take-le n xs l)
