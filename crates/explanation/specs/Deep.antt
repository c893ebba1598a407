-- No package is shown below as many opened ones as the bound of demand 3: one that is opened is counted itself, and one that is not
-- takes a group or a package from the count.
use Rattle.std.specs.Prelude.{◌≡◌, refl, Bool, true, false, not, List, [], ◌∷◌, ℕ, suc, ◌+◌, ◌*◌, ◌≤◌, ◌<◌, length, eqb}
use Rattle.std.proofs.Common.{sym, ◌∙◌, inl, inr, mul-le-mul_right, mul-le-mul_left, mul-suc, arith, eq-eqb, ne_eqb}
use Rattle.basis.specs.Lists.{filter}
use Rattle.basis.specs.Members.{In, All, split, either, has_out, filter_in}
use Rattle.machine.specs.Machine.{Plan, candidate, entry, skipped, repeats, openings}
use Rattle.machine.specs.Bound.{Counted, most, bound, leads}
use Rattle.machine.specs.Keeps.{Fits}
use Rattle.machine.specs.Told.{open_within}

-- all but x
abbrev but : ℕ → List ℕ → List ℕ
but x l = filter (λ y. not (eqb y x)) l

but_most : (x : ℕ) (l : List ℕ) → length (but x l) ≤ length l
but_most x [] = omega arith
but_most x (y ∷ l) = let h = but_most x l in split (eqb y x) (λ q. rw (q, filter) (omega arith)) (λ q. rw (q, filter) (omega arith))

but_less : (x : ℕ) (l : List ℕ) → In x l → length (but x l) < length l
but_less x [] i = absurd i
but_less x (y ∷ l) i =
    let h = but_most x l in
    split (eqb y x)
    (λ q. rw (q, filter) (omega arith))
    (λ q. either i (λ e. let z = eq-eqb y x (sym e) in let c : ◌≡◌ {A = Bool} true false = sym z ∙ q in absurd (true_false c)) (λ j. let k = but_less x l j in
    rw (q, filter) (omega arith)))
  where
    true_false : ◌≡◌ {A = Bool} true false → ⊥
    true_false c = let z : ◌≡◌ {A = ℕ} 0 1 = cc in omega arith

but_in : (x y : ℕ) (l : List ℕ) → (y ≡ x → ⊥) → In y l → In y (but x l)
but_in x y l h i = filter_in (λ z. not (eqb z x)) y l (rw (ne_eqb y x h)) i

module _ {R : Type 0} (P : Plan R) (G U : List ℕ) where
  lead_in_lem : (m : ℕ) (b : List ℕ) → In m b → P.merged m ≡ true → In (P.lead m) (leads P b)
  lead_in_lem m [] i q = absurd i
  lead_in_lem m (x ∷ b) i q =
      either i
      (λ e. rw (sym e, q) (inl refl))
      (λ j. split (P.merged x) (λ r. rw r (inr (lead_in_lem m b j q))) (λ r. rw r (lead_in_lem m b j q)))

  all_in : (Q : ℕ → Type 0) (b : List ℕ) → ((m : ℕ) → In m b → Q m) → All Q b
  all_in Q [] f = tt
  all_in Q (m ∷ b) f = (f m (inl refl), all_in Q b (λ x i. f x (inr i)))

  in_all : (Q : ℕ → Type 0) (b : List ℕ) → All Q b → (m : ℕ) → In m b → Q m
  in_all Q [] a m i = absurd i
  in_all Q (x ∷ b) a m i = either i (λ e. rw e a.0) (λ j. in_all Q b a.1 m j)

  pub kid_within : (n : ℕ) (ms : List Bool) (b rep : List ℕ) → Fits P G U rep (entry (candidate n) ms b) → All (λ m. P.opens m ≡ true) b
      → skipped P rep n ≡ false → repeats P b n ≡ false
      → length b < most P G U
  kid_within n ms b rep f op sk re =
      split (P.opens n)
      (λ o. let h = open_within P G U n ms b rep f sk re in let e : openings P (entry (candidate n) ms b) ≡ length b + 1 = rw o in omega arith)
      (λ o. split (P.merged n)
      (λ m.
      let free : In (P.lead n) (leads P b) → ⊥ = λ i. has_out (P.lead n) rep (rw m at sk) (f.known (P.lead n) i) in
      let c : All (Counted P (but (P.lead n) G) U) b =
      all_in (Counted P (but (P.lead n) G) U) b (λ x i. (
        λ q. but_in (P.lead n) (P.lead x) G (λ e. free (rw e at (lead_in_lem x b i q))) ((in_all (Counted P G U) b f.count x i).0 q),
        (in_all (Counted P G U) b f.count x i).1,
      )) in
      let h = bound P (but (P.lead n) G) U b f.good c in
      let l = but_less (P.lead n) G (f.own.0 m) in
      let k : (length (but (P.lead n) G) + 1) * length U ≤ (length G + 1) * length U = mul-le-mul_right (length U) (omega arith) in
      omega arith)
      (λ m.
      let free : (x : ℕ) → In x b → x ≡ n → ⊥ = λ x i e. (let q : P.opens n ≡ true = rw e at (in_all (λ y. P.opens y ≡ true) b op x i) in
      let c : ◌≡◌ {A = Bool} true false = sym q ∙ o in let z : ◌≡◌ {A = ℕ} 0 1 = cc in let w : ⊥ = omega arith in w) in
      let c : All (Counted P G (but n U)) b =
      all_in (Counted P G (but n U)) b (λ x i. (
        (in_all (Counted P G U) b f.count x i).0,
        λ q. but_in n x U (free x i) ((in_all (Counted P G U) b f.count x i).1 q),
      )) in
      let h = bound P G (but n U) b f.good c in
      let l = but_less n U (f.own.1 m) in
      let k : (length G + 1) * suc (length (but n U)) ≤ (length G + 1) * length U = mul-le-mul_left (length G + 1) (omega arith) in
      let s : (length G + 1) * suc (length (but n U)) ≡ (length G + 1) * length (but n U) + (length G + 1) = mul-suc (length G + 1) (length (but n U)) in
      omega arith))
