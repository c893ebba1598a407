-- The ways through the reader's code, from the byte that `byte_at` read or did not.
use Rattle.std.proofs.Common.{◌≡◌, refl, sym, ◌∙◌, ℕ, zero, suc, ◌+◌, ◌*◌, ◌-◌, ◌^◌, ◌<◌, ◌≤◌, List, [], ◌∷◌, length, get_or, arith}
use Rattle.std.specs.Prelude.{Option as Maybe, Some, None, slice_get}
use Rattle.std.proofs.lemmas.Option.{slice_get_within, get_or_from_slice_get}
use Rattle.tgf.specs.declared.Part.{Part}
use Rattle.tgf.specs.Read.{number_on, number_at, label_in, label_at}
use Rattle.tgf.specs.Steps.{rest, number_out, label_out}
use Rattle.tgf.specs.Laws.Ways.{on_out, on_space, last_other, on_low, on_high, on_next, at_out, at_low, at_high, at_zero, at_more}
use Rattle.tgf.specs.Laws.Ways.{label_out_lem, label_first_low, label_first_high, label_more, LabelLeft, left_low, left_high}

pub past_end : (xs : List ℕ) (i : ℕ) → slice_get xs i ≡ None → length xs ≤ i
past_end [] i e = omega arith
past_end (x ∷ xs) zero e = absurd (let z : Some x ≡ None = e in cc)
past_end (x ∷ xs) (suc i) e = omega (arith, past_end xs i e)

module _ (text : List ℕ) (at n : ℕ) (inv : LabelLeft text at n) (g : n < 49) (h : at + n < length text) where
  pub byte_low : get_or text (at + n) 0 < 32 → (get_or text (at + n) 0 ≡ 10 → ⊥) → label_out text at None ≡ label_in 49 (rest at text)
  byte_low l e = left_low text at n inv _ g l h refl e

  pub byte_high : 126 < get_or text (at + n) 0 → label_out text at None ≡ label_in 49 (rest at text)
  byte_high u = left_high text at n inv _ g (omega arith) u h refl (λ e. omega arith)

-- one more of k digits, of which i were read
pub room : (k i v d : ℕ) → k ≤ 2 → i < k → v * 10 ^ (k - i) < 1000 → d ≤ 9 → (10 * v + d) * 10 ^ (k - (i + 1)) < 1000
room zero i v d h g r e = let y : ⊥ = omega arith in absurd y
room (suc zero) zero v d h g r e = omega arith
room (suc zero) (suc i) v d h g r e = let y : ⊥ = omega arith in absurd y
room (suc (suc zero)) zero v d h g r e = omega arith
room (suc (suc zero)) (suc zero) v d h g r e = omega arith
room (suc (suc zero)) (suc (suc i)) v d h g r e = let y : ⊥ = omega arith in absurd y
room (suc (suc (suc k))) i v d h g r e = let y : ⊥ = omega arith in absurd y

pub narrow : (k n : ℕ) → k ≤ 2 → n * 10 ^ k < 1000 → n < 1000
narrow zero n h r = omega arith
narrow (suc zero) n h r = omega arith
narrow (suc (suc zero)) n h r = omega arith
narrow (suc (suc (suc k))) n h r = let y : ⊥ = omega arith in absurd y

-- i digits behind n made v of it, and what is left of the number says what the whole says
unfoldable pub NumberLeft : List ℕ → ℕ → ℕ → ℕ → ℕ → ℕ → Type 0
NumberLeft text at k n i v = number_on (k - i) v (rest (at + i) text) ≡ number_on k n (rest at text)

module _ (text : List ℕ) (at k n : ℕ) where
  pub number_start : NumberLeft text at k n 0 n
  unfolding NumberLeft
  number_start =
      let y : k - 0 ≡ k = omega arith in
      let z : at + 0 ≡ at = omega arith in
      rw (y, z) refl

  module _ (i v : ℕ) (inv : NumberLeft text at k n i v) where
    pub number_ends : (r : Maybe Part) → r ≡ None → slice_get text (at + i) ≡ None → number_out text r ≡ number_on k n (rest at text)
    unfolding NumberLeft
    number_ends r e s = rw e (on_out text (at + i) (k - i) v (past_end text (at + i) s) ∙ inv)

    module _ (c : ℕ) (s : slice_get text (at + i) ≡ Some c) where
      byte_in : at + i < length text
      byte_in = slice_get_within text (at + i) c s

      byte_is : c ≡ get_or text (at + i) 0
      byte_is = sym (get_or_from_slice_get text (at + i) c 0 s)

      pub number_space : c ≡ 32 → number_out text (Some (record { value = v; next = at + i + 1 })) ≡ number_on k n (rest at text)
      unfolding NumberLeft
      number_space e = on_space text (at + i) (k - i) v c e byte_in byte_is ∙ inv

      pub number_last : k ≤ i → (c ≡ 32 → ⊥) → number_out text None ≡ number_on k n (rest at text)
      unfolding NumberLeft
      number_last g e = let z : k - i ≡ 0 = omega arith in last_other text (at + i) 0 v c byte_in byte_is e ∙ rw z at inv

      module _ (g : i < k) (e : c ≡ 32 → ⊥) where
        one_more : k - i ≡ suc (k - (i + 1))
        one_more = omega arith

        left : number_on (suc (k - (i + 1))) v (rest (at + i) text) ≡ number_on k n (rest at text)
        unfolding NumberLeft
        left = rw one_more at inv

        pub number_low : c < 48 → number_out text None ≡ number_on k n (rest at text)
        number_low l = on_low text (at + i) (k - (i + 1)) v c l byte_in byte_is e ∙ left

        pub number_high : 48 ≤ c → 57 < c → number_out text None ≡ number_on k n (rest at text)
        number_high l u = on_high text (at + i) (k - (i + 1)) v c l u byte_in byte_is e ∙ left

        pub number_next : (w : ℕ) → 48 ≤ c → c ≤ 57 → w ≡ c → NumberLeft text at k n (i + 1) (10 * v + (w - 48))
        unfolding NumberLeft
        number_next w l u y =
            let z : at + (i + 1) ≡ at + i + 1 = omega arith in
            rw z (on_next text (at + i) (k - (i + 1)) v c w l u y byte_in byte_is e ∙ left)

module _ (text : List ℕ) (at : ℕ) where
  pub number_none : slice_get text at ≡ None → number_out text None ≡ number_at (rest at text)
  number_none s = at_out text at (past_end text at s)

  pub label_none : slice_get text at ≡ None → label_out text at None ≡ label_at (rest at text)
  label_none s = label_out_lem text at (past_end text at s)

  module _ (c : ℕ) (s : slice_get text at ≡ Some c) where
    h : at < length text
    h = slice_get_within text at c s

    q : c ≡ get_or text at 0
    q = sym (get_or_from_slice_get text at c 0 s)

    pub first_low : c < 48 → number_out text None ≡ number_at (rest at text)
    first_low l = at_low text at c l h q

    pub first_high : 57 < c → number_out text None ≡ number_at (rest at text)
    first_high g = at_high text at c (omega arith) g h q

    pub first_zero : (r : Maybe Part) → c ≡ 48 → number_out text r ≡ number_on 0 0 (rest (at + 1) text) → number_out text r ≡ number_at (rest at text)
    first_zero r e i = at_zero text at c r e h q i

    pub first_more : (w : ℕ) (r : Maybe Part) → number_out text r ≡ number_on 2 (w - 48) (rest (at + 1) text) → w ≡ c → c ≤ 57 → 48 ≤ c → (c ≡ 48 → ⊥)
        → number_out text r ≡ number_at (rest at text)
    first_more w r i y g l e = at_more text at c w r l g y h q e i

    pub begin_low : c < 32 → label_out text at None ≡ label_at (rest at text)
    begin_low l = label_first_low text at c l h q

    pub begin_high : 32 ≤ c → 126 < c → label_out text at None ≡ label_at (rest at text)
    begin_high l g = label_first_high text at c l g h q

    pub begin_more : (r : Maybe Part) → 32 ≤ c → c ≤ 126 → label_out text at r ≡ label_in 49 (rest at text) → label_out text at r ≡ label_at (rest at text)
    begin_more r l g i = label_more text at c r l g h q i
