-- Labels: `label_at` takes a label and its newline off a text, and nothing else.
use Rattle.std.specs.Prelude.{◌≡◌, refl, true, false, List, [], ◌∷◌, ◌++◌, ℕ, zero, suc, ◌≤◌, length, leb, eqb}
use Rattle.std.proofs.Common.{ap, arith, leb-true, ne_eqb, eqb-true}
use Rattle.std.proofs.Math.Option.{some}
use Rattle.basis.specs.Lists.{all}
use Rattle.basis.specs.Guard.{guard}
use Rattle.basis.specs.Members.{split, clash, and_true}
use Rattle.tgf.specs.Lines.{Label, in_label, LabelGood}
use Rattle.tgf.specs.Read.{label_in, label_at}
use Rattle.tgf.specs.Laws.Numbers.{absurd_none, some_is, guard_some, option}

pub in_label_lem : (c : ℕ) → in_label c ≡ true → (32 ≤ c) × (c ≤ 126)
in_label_lem c e = let a = and_true (leb 32 c) (leb c 126) e in (leb-true 32 c a.0, leb-true c 126 a.1)

no_newline : (c : ℕ) → in_label c ≡ true → eqb c 10 ≡ false
no_newline c e = ne_eqb c 10 (λ q. let z : c ≡ 10 = q in omega (arith, (in_label_lem c e).0))

pub all_cons : (c : ℕ) (x : Label) → all in_label (c ∷ x) ≡ true → (in_label c ≡ true) × (all in_label x ≡ true)
all_cons c x e = split (in_label c) (λ t. (t, rw (t, all) at e)) (λ t. clash (let z : false ≡ true = rw (t, all) at e in cc))

cons_all : (c : ℕ) (x : Label) → in_label c ≡ true → all in_label x ≡ true → all in_label (c ∷ x) ≡ true
cons_all c x t e = rw (t, all) e

in_sound : (k : ℕ) (s : List ℕ) (x : Label) (r : List ℕ) → label_in k s ≡ some (x, r)
    → (s ≡ x ++ (10 ∷ r)) × (length x ≤ k) × (all in_label x ≡ true)
unfolding label_in
in_sound zero [] x r h = absurd_none (x, r) h
in_sound zero (c ∷ s) x r h =
    let g = guard_some (eqb c 10) (some ([], s)) (x, r) h in
    let e = some_is ([], s) (x, r) g.1 in
    let ex : [] ≡ x = ap (λ p. p.0) e in
    let er : s ≡ r = ap (λ p. p.1) e in
    (rw (← ex, er, eqb-true c 10 g.0), rw (← ex) (omega arith), rw (← ex) refl)
in_sound (suc k) [] x r h = absurd_none (x, r) h
in_sound (suc k) (c ∷ s) x r h =
    split (eqb c 10)
    (λ t. let e = some_is ([], s) (x, r) (rw (t, label_in) at h) in
    let ex : [] ≡ x = ap (λ p. p.0) e in
    let er : s ≡ r = ap (λ p. p.1) e in
    (rw (← ex, er, eqb-true c 10 t), rw (← ex) (omega arith), rw (← ex) refl))
    (λ t. let g = guard_some (in_label c) _ (x, r) (rw (t, label_in) at h) in
    option (label_in k s)
    (λ z. absurd_none (x, r) (rw z at g.1))
    (λ p z. let e = some_is (c ∷ p.0, p.1) (x, r) (rw z at g.1) in
    let ih = in_sound k s p.0 p.1 z in
    let ex : c ∷ p.0 ≡ x = ap (λ p. p.0) e in
    let er : p.1 ≡ r = ap (λ p. p.1) e in
    (rw (← ex, ← er) (ap (λ (l : List ℕ). c ∷ l) ih.0), rw (← ex) (omega (arith, ih.1)), rw (← ex) (cons_all c p.0 g.0 ih.2))))

in_complete : (k : ℕ) (x : Label) (r : List ℕ) → length x ≤ k → all in_label x ≡ true → label_in k (x ++ (10 ∷ r)) ≡ some (x, r)
unfolding label_in guard
in_complete zero [] r h a = refl
in_complete zero (c ∷ x) r h a = let z : ⊥ = omega arith in absurd z
in_complete (suc k) [] r h a = refl
in_complete (suc k) (c ∷ x) r h a =
    let b = all_cons c x a in
    rw (no_newline c b.0, label_in, b.0, in_complete k x r (omega arith) b.1)

pub label_sound : (s : List ℕ) (x : Label) (r : List ℕ) → label_at s ≡ some (x, r) → LabelGood x × (s ≡ x ++ (10 ∷ r))
unfolding label_at
label_sound [] x r h = absurd_none (x, r) h
label_sound (c ∷ s) x r h =
    let g = guard_some (in_label c) (label_in 49 (c ∷ s)) (x, r) h in
    let e = in_sound 49 (c ∷ s) x r g.1 in
    (record { some_byte = some_of x g.0 e.0; few_bytes = e.1; bytes = e.2 }, e.0)
  where
    some_of : (x : Label) → in_label c ≡ true → c ∷ s ≡ x ++ (10 ∷ r) → 1 ≤ length x
    some_of [] i q = let z : c ≡ 10 = cc in let y : ⊥ = omega (arith, (in_label_lem c i).0) in absurd y
    some_of (b ∷ x) i q = omega arith

pub label_complete : (x : Label) (r : List ℕ) → LabelGood x → label_at (x ++ (10 ∷ r)) ≡ some (x, r)
unfolding label_at guard
label_complete [] r g = let z : ⊥ = omega (arith, g.some_byte) in absurd z
label_complete (c ∷ x) r g =
    let i = all_cons c x g.bytes in
    rw i.0 (in_complete 49 (c ∷ x) r g.few_bytes g.bytes)
