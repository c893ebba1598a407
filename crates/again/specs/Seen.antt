-- What a recorded call shows when it is made again: the answer, and the checksum of the whole room that it was lent.
use Rattle.std.specs.Prelude.{◌≡◌, refl, List, ◌∷◌, ℕ, zero, suc, ◌≤◌, length, take, replicate}
use Rattle.std.proofs.Common.{sym, ap, ◌∙◌, arith}
use Rattle.std.proofs.lemmas.List.{length-replicate}
use Rattle.calls.specs.declared.Answer.{Answer}
use Rattle.again.specs.declared.Seen.{Seen}
use Rattle.again.specs.Sum.{sum_of}

abbrev pub seen_of : Answer → ℕ → Seen
seen_of a s = record { number = a.number; place = a.place; bytes = a.bytes; units = a.units; depth = a.depth; sum = s }

abbrev pub answer_in : Seen → Answer
answer_in r = record { number = r.number; place = r.place; bytes = r.bytes; units = r.units; depth = r.depth }

-- no call has this number, and no answer either
abbrev pub no_call : Seen
no_call = record { number = 13; place = 0; bytes = 0; units = 0; depth = 0; sum = 0 }

-- a room before a call: 165 in every byte
abbrev pub blank : ℕ → List ℕ
blank n = replicate n 165

-- a list of numbers before a call: 165 in every byte
abbrev pub blank_numbers : ℕ → List ℕ
blank_numbers n = replicate n 42405

-- two of them are equal where their answers and what they leave are
pub both_one : (r q : Seen) (left right : List ℕ) → r.sum ≡ sum_of left → q.sum ≡ sum_of right → (answer_in r ≡ answer_in q) × (left ≡ right) → r ≡ q
both_one r q left right s t e =
    let h : r.sum ≡ q.sum = s ∙ ap sum_of e.1 ∙ sym t in
    ap (λ (a : Answer). seen_of a r.sum) e.0 ∙ ap (seen_of (answer_in q)) h

-- ---- the ways through the code

pub take_blank : {A : Type 0} (x : A) (n m : ℕ) → n ≤ m → take n (replicate m x) ≡ replicate n x
take_blank x zero m l = refl
take_blank x (suc n) zero l = let f : ⊥ = omega arith in absurd f
take_blank {A} x (suc n) (suc m) l = ap (λ (t : List A). x ∷ t) (take_blank x n m (omega arith))

-- a part of the program's room
pub prefix_blank : (n : ℕ) → n ≤ 65536 → n ≡ length (take n (replicate {A = ℕ} 65536 165))
prefix_blank n l = sym (ap length (take_blank {A = ℕ} 165 n 65536 l) ∙ length-replicate {A = ℕ} n 165)

-- a part of the program's list
pub prefix_numbers : (n : ℕ) → n ≤ 8192 → n ≡ length (take n (replicate {A = ℕ} 8192 42405))
prefix_numbers n l = sym (ap length (take_blank {A = ℕ} 42405 n 8192 l) ∙ length-replicate {A = ℕ} n 42405)
