-- The ways through the reader's code: a law for each way out of a function.
use Rattle.std.specs.Prelude.{◌≡◌, Bool, true, false, List, [], ◌∷◌, ◌++◌, ℕ, zero, suc, ◌+◌, ◌*◌, ◌-◌, ◌≤◌, ◌<◌, length, get_or, drop, ltb, eqb}
use Rattle.std.specs.Prelude.{Option as Maybe, Some, None}
use Rattle.std.proofs.Math.Path.{refl, sym, ap}
use Rattle.std.proofs.Common.{◌∙◌, append_assoc, append-nil, drop_of_length-le, drop-cons, take-suc, get_or-drop, le-leb, lt-ltb, le-ltb, eq-eqb, ne_eqb}
use Rattle.std.proofs.Math.Option.{Option, none, some}
use native.Mathlib.Omega.{arith}
use Rattle.std.proofs.Math.Numerals.{add-one}
use Rattle.std.proofs.Math.ListN.{take, length-drop}
use Rattle.std.proofs.lemmas.Bool.{lt-leb}
use Rattle.basis.specs.Guard.{guard}
use Rattle.tgf.specs.declared.Part.{Part}
use Rattle.tgf.specs.declared.NodeLine.{NodeLine}
use Rattle.tgf.specs.declared.EdgeLine.{EdgeLine}
use Rattle.tgf.specs.Lines.{Label, in_label}
use Rattle.tgf.specs.Read.{is_digit, number_on, number_at, label_in, label_at, node_line_at, end_at, edge_at}
use Rattle.tgf.specs.Steps.{rest, number_out, label_out, node_out, edge_out}

abbrev pub nothing : Maybe Part
nothing = None

rest_out : (text : List ℕ) (at : ℕ) → length text ≤ at → rest at text ≡ []
unfolding rest
rest_out text at h = drop_of_length-le text h

rest_cons : (text : List ℕ) (at : ℕ) → at < length text → rest at text ≡ get_or text at 0 ∷ rest (at + 1) text
unfolding rest
rest_cons text at h = rw add-one (drop-cons text at 0 h)

-- the byte at a place, and what stands behind it
cell : (text : List ℕ) (at c : ℕ) → c ≡ get_or text at 0 → at < length text → rest at text ≡ c ∷ rest (at + 1) text
cell text at c q h = rest_cons text at h ∙ ap (λ (z : ℕ). z ∷ rest (at + 1) text) (sym q)

off : {X : Type 0} (b : Bool) (bad y : X) → b ≡ false → guard b bad y ≡ bad
unfolding guard
off b bad y e = rw e

on : {X : Type 0} (b : Bool) (bad y : X) → b ≡ true → guard b bad y ≡ y
unfolding guard
on b bad y e = rw e

digit_yes : (c : ℕ) → 48 ≤ c → c ≤ 57 → is_digit c ≡ true
digit_yes c l h = rw (le-leb 48 c l, le-leb c 57 h)

digit_low : (c : ℕ) → c < 48 → is_digit c ≡ false
digit_low c h = rw (lt-leb 48 c h)

digit_high : (c : ℕ) → 48 ≤ c → 57 < c → is_digit c ≡ false
digit_high c l h = rw (le-leb 48 c l, lt-leb c 57 h)

-- ---- numbers

on_nil : (k n : ℕ) → none ≡ number_on k n []
unfolding number_on
on_nil zero n = refl
on_nil (suc k) n = refl

on_end : (k n : ℕ) (s : List ℕ) → some (n, s) ≡ number_on k n (32 ∷ s)
unfolding number_on guard
on_end zero n s = refl
on_end (suc k) n s = refl

on_other_lem : (k n c : ℕ) (s : List ℕ) → (c ≡ 32 → ⊥) → number_on (suc k) n (c ∷ s) ≡ guard (is_digit c) none (number_on k (10 * n + (c - 48)) s)
unfolding number_on
on_other_lem k n c s e = rw (ne_eqb c 32 e, number_on)

last_step : (n c : ℕ) (s : List ℕ) → (c ≡ 32 → ⊥) → number_on 0 n (c ∷ s) ≡ none
unfolding number_on
last_step n c s e = off (eqb c 32) none (some (n, s)) (ne_eqb c 32 e)

at_first : (c : ℕ) (s : List ℕ) → number_at (c ∷ s) ≡ guard (is_digit c) none (elim (eqb c 48) [ true ↦ number_on 0 0 s | false ↦ number_on 2 (c - 48) s ])
unfolding number_at
at_first c s = refl

module _ (text : List ℕ) (at k n : ℕ) where
  pub on_out : length text ≤ at → number_out text nothing ≡ number_on k n (rest at text)
  unfolding number_out
  on_out h = rw (rest_out text at h) (on_nil k n)

  module _ (c : ℕ) where
    pub on_space : c ≡ 32 → at < length text → c ≡ get_or text at 0 → number_out text (Some (record { value = n; next = at + 1 }))
        ≡ number_on k n (rest at text)
    unfolding number_out
    on_space e h q = rw (cell text at c q h, e) (on_end k n (rest (at + 1) text))

    pub last_other : at < length text → c ≡ get_or text at 0 → (c ≡ 32 → ⊥) → number_out text nothing ≡ number_on 0 n (rest at text)
    unfolding number_out
    last_other h q e = rw (cell text at c q h) (sym (last_step n c (rest (at + 1) text) e))

    pub on_low : c < 48 → at < length text → c ≡ get_or text at 0 → (c ≡ 32 → ⊥) → number_out text nothing ≡ number_on (suc k) n (rest at text)
    unfolding number_out
    on_low l h q e = rw (cell text at c q h) (sym (on_other_lem k n c (rest (at + 1) text) e ∙ off (is_digit c) none _ (digit_low c l)))

    pub on_high : 48 ≤ c → 57 < c → at < length text → c ≡ get_or text at 0 → (c ≡ 32 → ⊥) → number_out text nothing ≡ number_on (suc k) n (rest at text)
    unfolding number_out
    on_high l g h q e = rw (cell text at c q h) (sym (on_other_lem k n c (rest (at + 1) text) e ∙ off (is_digit c) none _ (digit_high c l g)))

    pub on_next : (w : ℕ) → 48 ≤ c → c ≤ 57 → w ≡ c → at < length text → c ≡ get_or text at 0 → (c ≡ 32 → ⊥)
        → number_on k (10 * n + (w - 48)) (rest (at + 1) text) ≡ number_on (suc k) n (rest at text)
    on_next w l g y h q e = rw (y, cell text at c q h) (sym (on_other_lem k n c (rest (at + 1) text) e ∙ on (is_digit c) none _ (digit_yes c l g)))

    pub on_digit : (w : ℕ) (r : Maybe Part) → 48 ≤ c → c ≤ 57 → w ≡ c → at < length text → c ≡ get_or text at 0 → (c ≡ 32 → ⊥)
        → number_out text r ≡ number_on k (10 * n + (w - 48)) (rest (at + 1) text)
        → number_out text r ≡ number_on (suc k) n (rest at text)
    on_digit w r l g y h q e i = rw (cell text at c q h) ((rw y at i) ∙ sym (on_other_lem k n c (rest (at + 1) text) e ∙ on (is_digit c) none _ (digit_yes c l g)))

module _ (text : List ℕ) (at : ℕ) where
  pub at_out : length text ≤ at → number_out text nothing ≡ number_at (rest at text)
  unfolding number_out number_at
  at_out h = rw (rest_out text at h)

  module _ (c : ℕ) where
    pub at_low : c < 48 → at < length text → c ≡ get_or text at 0 → number_out text nothing ≡ number_at (rest at text)
    unfolding number_out
    at_low l h q = rw (cell text at c q h) (sym (at_first c (rest (at + 1) text) ∙ off (is_digit c) none _ (digit_low c l)))

    pub at_high : 48 ≤ c → 57 < c → at < length text → c ≡ get_or text at 0 → number_out text nothing ≡ number_at (rest at text)
    unfolding number_out
    at_high l g h q = rw (cell text at c q h) (sym (at_first c (rest (at + 1) text) ∙ off (is_digit c) none _ (digit_high c l g)))

    pub at_zero : (r : Maybe Part) → c ≡ 48 → at < length text → c ≡ get_or text at 0 → number_out text r ≡ number_on 0 0 (rest (at + 1) text)
        → number_out text r ≡ number_at (rest at text)
    at_zero r e h q i = rw (cell text at c q h, e) (i ∙ sym (at_first 48 (rest (at + 1) text) ∙ on (is_digit 48) none _ refl))

    pub at_more : (w : ℕ) (r : Maybe Part) → 48 ≤ c → c ≤ 57 → w ≡ c → at < length text → c ≡ get_or text at 0 → (c ≡ 48 → ⊥)
        → number_out text r ≡ number_on 2 (w - 48) (rest (at + 1) text)
        → number_out text r ≡ number_at (rest at text)
    at_more w r l g y h q e i =
        rw (cell text at c q h)
        ((rw y at i) ∙ sym (at_first c (rest (at + 1) text) ∙ on (is_digit c) none _ (digit_yes c l g) ∙ rw (ne_eqb c 48 e)))

-- the same with the numerals that the code has
module _ (text : List ℕ) (at n c : ℕ) where
  pub one_low : c < 48 → at < length text → c ≡ get_or text at 0 → (c ≡ 32 → ⊥) → number_out text nothing ≡ number_on 1 n (rest at text)
  one_low l h q e = on_low text at 0 n c l h q e

  pub one_high : 48 ≤ c → 57 < c → at < length text → c ≡ get_or text at 0 → (c ≡ 32 → ⊥) → number_out text nothing ≡ number_on 1 n (rest at text)
  one_high l g h q e = on_high text at 0 n c l g h q e

  pub one_digit : (w : ℕ) (r : Maybe Part) → 48 ≤ c → c ≤ 57 → w ≡ c → at < length text → c ≡ get_or text at 0 → (c ≡ 32 → ⊥)
      → number_out text r ≡ number_on 0 (10 * n + (w - 48)) (rest (at + 1) text) → number_out text r ≡ number_on 1 n (rest at text)
  one_digit w r l g y h q e i = on_digit text at 0 n c w r l g y h q e i

  pub two_low : c < 48 → at < length text → c ≡ get_or text at 0 → (c ≡ 32 → ⊥) → number_out text nothing ≡ number_on 2 n (rest at text)
  two_low l h q e = on_low text at 1 n c l h q e

  pub two_high : 48 ≤ c → 57 < c → at < length text → c ≡ get_or text at 0 → (c ≡ 32 → ⊥) → number_out text nothing ≡ number_on 2 n (rest at text)
  two_high l g h q e = on_high text at 1 n c l g h q e

  pub two_digit : (w : ℕ) (r : Maybe Part) → 48 ≤ c → c ≤ 57 → w ≡ c → at < length text → c ≡ get_or text at 0 → (c ≡ 32 → ⊥)
      → number_out text r ≡ number_on 1 (10 * n + (w - 48)) (rest (at + 1) text) → number_out text r ≡ number_on 2 n (rest at text)
  two_digit w r l g y h q e i = on_digit text at 1 n c w r l g y h q e i

pub ruleset digits = (on_out, on_space, one_low, one_high, one_digit, two_low, two_high, two_digit)

-- ---- labels

-- a label that was begun with xs
abbrev pub begun : Label → Option (Label × List ℕ) → Option (Label × List ℕ)
begun xs none = none
begun xs (some p) = some (xs ++ p.0, p.1)

-- what is left of the label from byte n on says what the whole says
unfoldable pub LabelLeft : List ℕ → ℕ → ℕ → Type 0
LabelLeft text at n = begun (take n (rest at text)) (label_in (49 - n) (rest (at + n) text)) ≡ label_in 49 (rest at text)

begun_none : (o : Option (Label × List ℕ)) → begun [] o ≡ o
begun_none none = refl
begun_none (some p) = refl

begun_more : (xs : Label) (c : ℕ) (o : Option (Label × List ℕ)) → begun xs (elim o [ none ↦ none | some p ↦ some (c ∷ p.0, p.1) ]) ≡ begun (xs ++ (c ∷ [])) o
begun_more xs c none = refl
begun_more xs c (some p) = ap (λ (l : Label). some (l, p.1)) (sym (append_assoc xs (c ∷ []) p.0))

in_nil : (k : ℕ) → label_in k [] ≡ none
unfolding label_in
in_nil zero = refl
in_nil (suc k) = refl

in_end : (k : ℕ) (s : List ℕ) → label_in k (10 ∷ s) ≡ some ([], s)
unfolding label_in guard
in_end zero s = refl
in_end (suc k) s = refl

in_full : (c : ℕ) (s : List ℕ) → (c ≡ 10 → ⊥) → label_in 0 (c ∷ s) ≡ none
unfolding label_in
in_full c s e = off (eqb c 10) none (some ([], s)) (ne_eqb c 10 e)

in_other : (k c : ℕ) (s : List ℕ) → (c ≡ 10 → ⊥) → label_in (suc k) (c ∷ s)
    ≡ guard (in_label c) none (elim (label_in k s) [ none ↦ none | some p ↦ some (c ∷ p.0, p.1) ])
unfolding label_in
in_other k c s e = rw (ne_eqb c 10 e, label_in)

label_yes : (c : ℕ) → 32 ≤ c → c ≤ 126 → in_label c ≡ true
label_yes c l h = rw (le-leb 32 c l, le-leb c 126 h)

label_low : (c : ℕ) → c < 32 → in_label c ≡ false
label_low c h = rw (lt-leb 32 c h)

label_high : (c : ℕ) → 32 ≤ c → 126 < c → in_label c ≡ false
label_high c l h = rw (le-leb 32 c l, lt-leb c 126 h)

module _ (text : List ℕ) (at : ℕ) where
  pub left_start : LabelLeft text at 0
  unfolding LabelLeft
  left_start = let z : at + 0 ≡ at = omega arith in rw z (begun_none (label_in 49 (rest at text)))

  module _ (n : ℕ) (inv : LabelLeft text at n) where
    pub left_out : length text ≤ at + n → label_out text at nothing ≡ label_in 49 (rest at text)
    unfolding LabelLeft label_out
    left_out h = ap (begun (take n (rest at text))) (sym (in_nil (49 - n)) ∙ ap (label_in (49 - n)) (sym (rest_out text (at + n) h))) ∙ inv

    module _ (c : ℕ) where
      here : at + n < length text → c ≡ get_or text (at + n) 0 → (o : Option (Label × List ℕ)) → label_in (49 - n) (c ∷ rest (at + n + 1) text) ≡ o
          → begun (take n (rest at text)) o ≡ label_in 49 (rest at text)
      unfolding LabelLeft
      here h q o e = ap (begun (take n (rest at text))) (sym e ∙ ap (label_in (49 - n)) (sym (cell text (at + n) c q h))) ∙ inv

      pub left_end : c ≡ 10 → at + n < length text → c ≡ get_or text (at + n) 0
          → label_out text at (Some (record { value = n; next = at + n + 1 })) ≡ label_in 49 (rest at text)
      unfolding label_out
      left_end e h q =
          ap (λ (l : Label). some (l, rest (at + n + 1) text)) (sym (append-nil (take n (rest at text))))
          ∙ here h q (some ([], rest (at + n + 1) text)) (ap (λ (z : ℕ). label_in (49 - n) (z ∷ rest (at + n + 1) text)) e
          ∙ in_end (49 - n) (rest (at + n + 1) text))

      pub left_full : 49 ≤ n → at + n < length text → c ≡ get_or text (at + n) 0 → (c ≡ 10 → ⊥) → label_out text at nothing ≡ label_in 49 (rest at text)
      unfolding label_out
      left_full g h q e = let z : 49 - n ≡ 0 = omega arith in here h q none (rw z (in_full c (rest (at + n + 1) text) e))

      step : (c ≡ 10 → ⊥) → n < 49 → label_in (49 - n) (c ∷ rest (at + n + 1) text)
          ≡ guard (in_label c) none (elim (label_in (49 - (n + 1)) (rest (at + n + 1) text)) [ none ↦ none | some p ↦ some (c ∷ p.0, p.1) ])
      step e g = let z : 49 - n ≡ suc (49 - (n + 1)) = omega arith in rw z (in_other (49 - (n + 1)) c (rest (at + n + 1) text) e)

      pub left_low : n < 49 → c < 32 → at + n < length text → c ≡ get_or text (at + n) 0 → (c ≡ 10 → ⊥) → label_out text at nothing ≡ label_in 49 (rest at text)
      unfolding label_out
      left_low g l h q e = here h q none (step e g ∙ off (in_label c) none _ (label_low c l))

      pub left_high : n < 49 → 32 ≤ c → 126 < c → at + n < length text → c ≡ get_or text (at + n) 0 → (c ≡ 10 → ⊥)
          → label_out text at nothing ≡ label_in 49 (rest at text)
      unfolding label_out
      left_high g l u h q e = here h q none (step e g ∙ off (in_label c) none _ (label_high c l u))

      pub left_next : n < 49 → 32 ≤ c → c ≤ 126 → at + n < length text → c ≡ get_or text (at + n) 0 → (c ≡ 10 → ⊥) → LabelLeft text at (n + 1)
      unfolding LabelLeft rest
      left_next g l u h q e =
          let z : at + (n + 1) ≡ at + n + 1 = omega arith in
          let t : take (n + 1) (rest at text) ≡ take n (rest at text) ++ (c ∷ []) =
          rw add-one (take-suc (drop at text) n 0 (rw length-drop (omega arith))
          ∙ ap (λ (y : ℕ). take n (drop at text) ++ (y ∷ [])) (get_or-drop at text n 0 ∙ sym q)) in
          rw (z, t) (sym (begun_more (take n (rest at text)) c (label_in (49 - (n + 1)) (rest (at + n + 1) text)))
          ∙ here h q _ (step e g ∙ on (in_label c) none _ (label_yes c l u)))

  first_is : (c : ℕ) (s : List ℕ) → label_at (c ∷ s) ≡ guard (in_label c) none (label_in 49 (c ∷ s))
  unfolding label_at
  first_is c s = refl

  pub label_out_lem : length text ≤ at → label_out text at nothing ≡ label_at (rest at text)
  unfolding label_out label_at
  label_out_lem h = rw (rest_out text at h)

  module _ (c : ℕ) where
    pub label_first_low : c < 32 → at < length text → c ≡ get_or text at 0 → label_out text at nothing ≡ label_at (rest at text)
    unfolding label_out
    label_first_low l h q = rw (cell text at c q h) (sym (first_is c (rest (at + 1) text) ∙ off (in_label c) none _ (label_low c l)))

    pub label_first_high : 32 ≤ c → 126 < c → at < length text → c ≡ get_or text at 0 → label_out text at nothing ≡ label_at (rest at text)
    unfolding label_out
    label_first_high l u h q = rw (cell text at c q h) (sym (first_is c (rest (at + 1) text) ∙ off (in_label c) none _ (label_high c l u)))

    pub label_more : (r : Maybe Part) → 32 ≤ c → c ≤ 126 → at < length text → c ≡ get_or text at 0 → label_out text at r ≡ label_in 49 (rest at text)
        → label_out text at r ≡ label_at (rest at text)
    label_more r l u h q i =
        i ∙ ap (label_in 49) (cell text at c q h) ∙ sym (ap label_at (cell text at c q h) ∙ first_is c (rest (at + 1) text)
        ∙ on (in_label c) none _ (label_yes c l u))

pub ruleset lefts = (left_out, left_end, left_full, left_low, left_high)

-- ---- lines, from the answers of the functions above

number_some : (text : List ℕ) (r : Maybe Part) (p : Part) → r ≡ Some p → number_out text r ≡ some (p.value, rest p.next text)
unfolding number_out
number_some text r p t = rw t refl

number_none : (text : List ℕ) (r : Maybe Part) → r ≡ None → number_out text r ≡ none
unfolding number_out
number_none text r t = rw t refl

node_by : (i : ℕ) (s : List ℕ) (v : ℕ × List ℕ) → number_at s ≡ some v → node_line_at i s ≡ guard (eqb v.0 i) none (label_at v.1)
unfolding node_line_at
node_by i s v q = rw (q, node_line_at)

node_out_lem : (i : ℕ) (s : List ℕ) → number_at s ≡ none → node_line_at i s ≡ none
unfolding node_line_at
node_out_lem i s q = rw (q, node_line_at)

end_by : (m : ℕ) (s : List ℕ) (v : ℕ × List ℕ) → number_at s ≡ some v → end_at m s ≡ guard (ltb v.0 m) none (some v)
unfolding end_at
end_by m s v q = rw (q, end_at)

end_out : (m : ℕ) (s : List ℕ) → number_at s ≡ none → end_at m s ≡ none
unfolding end_at
end_out m s q = rw (q, end_at)

label_by : (a b : ℕ) (text : List ℕ) (at : ℕ) (l : Part)
    → edge_out text (Some (record { source = a; target = b; begin = at; size = l.value; next = l.next }))
    ≡ elim (label_out text at (Some l)) [ none ↦ none | some x ↦ some (record { source = a; target = b; label = x.0 }, x.1) ]
unfolding edge_out label_out
label_by a b text at l = refl

abbrev pub no_node : Maybe NodeLine
no_node = None

abbrev pub no_edge : Maybe EdgeLine
no_edge = None

module _ (text : List ℕ) (at : ℕ) (r : Maybe Part) where
  module _ (q : number_out text r ≡ number_at (rest at text)) where
    pub node_none : (i : ℕ) → r ≡ None → node_out text no_node ≡ node_line_at i (rest at text)
    unfolding node_out
    node_none i t = sym (node_out_lem i (rest at text) (sym q ∙ number_none text r t))

    pub end_none : (m : ℕ) → r ≡ None → number_out text nothing ≡ end_at m (rest at text)
    unfolding number_out
    end_none m t = sym (end_out m (rest at text) (sym q ∙ number_none text r t))

    module _ (p : Part) (t : r ≡ Some p) where
      pub node_other : (i : ℕ) → (p.value ≡ i → ⊥) → node_out text no_node ≡ node_line_at i (rest at text)
      unfolding node_out
      node_other i e = sym (node_by i (rest at text) _ (sym q ∙ number_some text r p t) ∙ off (eqb p.value i) none _ (ne_eqb p.value i e))

      node_label : (i : ℕ) → p.value ≡ i → node_line_at i (rest at text) ≡ label_at (rest p.next text)
      node_label i e = node_by i (rest at text) _ (sym q ∙ number_some text r p t) ∙ on (eqb p.value i) none _ (eq-eqb p.value i e)

      pub node_bare : (i : ℕ) (s : Maybe Part) → p.value ≡ i → label_out text p.next s ≡ label_at (rest p.next text) → s ≡ None
          → node_out text no_node ≡ node_line_at i (rest at text)
      unfolding node_out label_out
      node_bare i s e k u = (rw u at k) ∙ sym (node_label i e)

      pub node_here : (i : ℕ) (s : Maybe Part) (l : Part) → p.value ≡ i → label_out text p.next s ≡ label_at (rest p.next text) → s ≡ Some l
          → node_out text (Some (record { begin = p.next; size = l.value; next = l.next })) ≡ node_line_at i (rest at text)
      unfolding node_out label_out
      node_here i s l e k u = (rw u at k) ∙ sym (node_label i e)

      pub end_past : (m : ℕ) → m ≤ p.value → number_out text nothing ≡ end_at m (rest at text)
      unfolding number_out
      end_past m e = sym (end_by m (rest at text) _ (sym q ∙ number_some text r p t) ∙ off (ltb p.value m) none _ (le-ltb p.value m e))

      pub end_here : (m : ℕ) → p.value < m → number_out text (Some p) ≡ end_at m (rest at text)
      end_here m e =
          number_some text (Some p) p refl
          ∙ sym (end_by m (rest at text) _ (sym q ∙ number_some text r p t) ∙ on (ltb p.value m) none _ (lt-ltb p.value m e))

  module _ (m : ℕ) (q : number_out text r ≡ end_at m (rest at text)) where
    edge_none' : (s : List ℕ) → end_at m s ≡ none → edge_at m s ≡ none
    unfolding edge_at
    edge_none' s e = rw (e, edge_at)

    edge_one' : (s : List ℕ) (v : ℕ × List ℕ) → end_at m s ≡ some v → end_at m v.1 ≡ none → edge_at m s ≡ none
    unfolding edge_at
    edge_one' s v e f = rw (e, edge_at, f)

    edge_two' : (s : List ℕ) (v w : ℕ × List ℕ) → end_at m s ≡ some v → end_at m v.1 ≡ some w
        → edge_at m s ≡ elim (label_at w.1) [ none ↦ none | some l ↦ some (record { source = v.0; target = w.0; label = l.0 }, l.1) ]
    unfolding edge_at
    edge_two' s v w e f = rw (e, edge_at, f)

    pub edge_none : r ≡ None → edge_out text no_edge ≡ edge_at m (rest at text)
    unfolding edge_out
    edge_none t = sym (edge_none' (rest at text) (sym q ∙ number_none text r t))

    module _ (p : Part) (t : r ≡ Some p) (r2 : Maybe Part) (k : number_out text r2 ≡ end_at m (rest p.next text)) where
      pub edge_half : r2 ≡ None → edge_out text no_edge ≡ edge_at m (rest at text)
      unfolding edge_out
      edge_half u = sym (edge_one' (rest at text) _ (sym q ∙ number_some text r p t) (sym k ∙ number_none text r2 u))

      module _ (p2 : Part) (u : r2 ≡ Some p2) (s : Maybe Part) (j : label_out text p2.next s ≡ label_at (rest p2.next text)) where
        edge_label : edge_at m (rest at text)
            ≡ elim (label_out text p2.next s) [ none ↦ none | some x ↦ some (record { source = p.value; target = p2.value; label = x.0 }, x.1) ]
        edge_label =
            edge_two' (rest at text) _ _ (sym q ∙ number_some text r p t) (sym k ∙ number_some text r2 p2 u)
            ∙ ap (λ (o : Option (Label × List ℕ)). elim o [ none ↦ none | some x ↦ some (record { source = p.value; target = p2.value; label = x.0 }, x.1) ]) (sym j)

        pub edge_bare : s ≡ None → edge_out text no_edge ≡ edge_at m (rest at text)
        unfolding edge_out label_out
        edge_bare v = sym (rw v at edge_label)

        pub edge_here : (l : Part) → s ≡ Some l
            → edge_out text (Some (record { source = p.value; target = p2.value; begin = p2.next; size = l.value; next = l.next }))
            ≡ edge_at m (rest at text)
        edge_here l v = label_by p.value p2.value text p2.next l ∙ sym (rw v at edge_label)
